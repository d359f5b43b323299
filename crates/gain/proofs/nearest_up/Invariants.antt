-- `gain::nearest_up` meets its contract. The loop's invariant: of the first k + 1 steps, which have k middles between them, n is the index worked out.
-- Assumes nothing.
use mathlib.Core.Path.{◌≡◌}
use Prim.Native.Nat.{◌+◌, ◌-◌, ◌≤◌}
use lib.IntN.{pos}
use Rattle.gain.specs.Steps.{nearest_in}
use Rattle.gain.proofs.nearest_up.Given as goal

abbrev pub invariant-loop-k : goal.invariant-loop-k
invariant-loop-k l = (l.k ≤ 28) × (l.n ≡ nearest_in (l.k + 1) (pos l.t))
