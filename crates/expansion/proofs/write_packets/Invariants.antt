-- `expansion::write_packets` meets its contract. The loop's invariant: the packets of the entries left, stored after what was stored, leave what all packets leave.
-- Assumes nothing.
use Prim.Native.Nat.{◌+◌}
use mathlib.Core.Path.{◌≡◌}
use lib.ListN.{length, drop}
use lib.Seq.{sets}
use Rattle.transcript.specs.Sections.{entries_in}
use Rattle.expansion.specs.Expansion.{expanded}
use Rattle.expansion.proofs.Turns.{left}
use Rattle.expansion.proofs.write_packets.Given as goal

abbrev pub invariant-loop-i : goal.invariant-loop-i
invariant-loop-i l = (length l.out ≡ length l.initial.out)
    × (l.at + length (expanded (left l.s l.start l.count l.i)) ≡ length (expanded (entries_in l.count (drop l.start l.s))))
    × (sets l.out l.at (expanded (left l.s l.start l.count l.i)) ≡ sets l.initial.out 0 (expanded (entries_in l.count (drop l.start l.s))))
