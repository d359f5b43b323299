-- `init_baseband`'s program: its parts, and that each of its entries has eight data bytes. Assumes nothing.
use Rattle.chip.proofs.Laws.{then}
use Prim.Native.Nat.{ℕ}
use mathlib.Core.Path.{◌≡◌, refl}
use mathlib.Core.Bool.{true}
use mathlib.Core.List.{List, ◌++◌}
use lib.ListN.{replicate}
use Rattle.transcript.specs.declared.Entry.{Entry}
use Rattle.chip.specs.Steps.{Line, eight, every, run}
use Rattle.fir.specs.Packing.{pack_of}
use Rattle.demod.specs.Programs.{fir_steps, init_steps, mode_steps, power_steps, upward}

pub init_eight : every eight init_steps ≡ true
unfolding every init_steps power_steps upward fir_steps pack_of mode_steps
init_eight = refl

module _ {L : Type 0} (put : L → ℕ → Entry → L) (os : List ℕ) where
  pub in_three : (w x y z : Line L) → x ≡ run put os (power_steps ++ upward 0x16 (replicate 6 0)) w → y ≡ run put os fir_steps x → z ≡ run put os mode_steps y
      → z ≡ run put os init_steps w
  unfolding init_steps
  in_three w x y z p q r =
      then put os (power_steps ++ upward 0x16 (replicate 6 0)) (fir_steps ++ mode_steps) w x z p (then put os fir_steps mode_steps x y z q r)
