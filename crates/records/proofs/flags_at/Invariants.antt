-- `records::flags_at` meets its contract. The loop's invariant: storing the flags that are left gives all of them.
-- Assumes nothing.
use Prim.Native.Nat.{◌-◌}
use mathlib.Core.Path.{◌≡◌}
use lib.ListN.{length, drop}
use mathlib.Core.List.{map}
use lib.Seq.{sets}
use Rattle.records.specs.Fields.{flag_read}
use Rattle.records.proofs.flags_at.Given as goal

abbrev pub invariant-loop-i : goal.invariant-loop-i
invariant-loop-i l = (length l.image ≡ 27) × ((length l.flags ≡ 27) × (sets l.flags l.i (map flag_read (drop l.i l.image)) ≡ map flag_read l.image))
