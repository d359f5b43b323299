-- By index: a step's own dB, put back through the float, chooses the step again. One computed test over the 29 steps. Assumes nothing.
use mathlib.Core.Path.{◌≡◌}
use mathlib.Core.Bool.{Bool}
use Prim.Native.Nat.{ℕ, ◌<◌}
use lib.Dec.{eqb, eqb→eq}
use lib.Ieee.{mul, div, of_int, of_bits, to_signed}
use Rattle.gain.specs.Product.{gain_of, tenths_of}
use Rattle.gain.specs.Steps.{chosen_of, clamped, nearest_in, nearest_of, steps, step_at}
use Rattle.below.proofs.Test.{below}
use Rattle.gain.proofs.Steps.{clamped_lt}

right : ℕ → Bool
right k = eqb (chosen_of (gain_of (step_at k))) k

pub own_index : (k : ℕ) → k < 29 → chosen_of (gain_of (step_at k)) ≡ k
unfolding right steps chosen_of tenths_of gain_of nearest_of nearest_in mul div of_int of_bits to_signed
own_index k h = eqb→eq (chosen_of (gain_of (step_at k))) k (below right 29 tt k h)

-- so the Rust's way to a step by its index, through the float, is the index clamped
pub by_float : (k : ℕ) → chosen_of (gain_of (step_at (clamped k))) ≡ clamped k
by_float k = own_index (clamped k) (clamped_lt k)
