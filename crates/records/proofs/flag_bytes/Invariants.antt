-- `records::flag_bytes` meets its contract. The loop's invariant: storing the bytes that are left gives all of them.
-- Assumes nothing.
use Prim.Native.Nat.{◌-◌}
use mathlib.Core.Path.{◌≡◌}
use lib.ListN.{length, drop}
use mathlib.Core.List.{map}
use lib.Seq.{sets}
use Rattle.records.specs.Fields.{flag_byte}
use Rattle.records.proofs.flag_bytes.Given as goal

abbrev pub invariant-loop-i : goal.invariant-loop-i
invariant-loop-i l = (length l.flags ≡ 27) × ((length l.image ≡ 27) × (sets l.image l.i (map flag_byte (drop l.i l.flags)) ≡ map flag_byte l.flags))
