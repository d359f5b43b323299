-- `records::flags_only` meets its contract. The loop's invariant: `ok`, and whether the bytes from i on are flags, say it for all.
-- Assumes nothing.
use Prim.Native.Nat.{◌-◌}
use mathlib.Core.Path.{◌≡◌}
use mathlib.Core.Bool.{◌&&◌}
use lib.ListN.{length, drop}
use Rattle.records.specs.Fields.{flags_only}
use Rattle.records.proofs.flags_only.Given as goal

abbrev pub invariant-loop-i : goal.invariant-loop-i
invariant-loop-i l = (length l.image ≡ 27) × ((l.ok && flags_only (drop l.i l.image)) ≡ flags_only l.image)
