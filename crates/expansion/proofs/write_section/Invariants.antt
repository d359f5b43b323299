-- `expansion::write_section` meets its contract. The loop's invariant: the entries of the bytes left, stored after what was stored, leave what all entries leave; then the trailer.
-- Assumes nothing.
use Prim.Native.Nat.{◌+◌, ◌-◌, ◌*◌, ◌≤◌}
use mathlib.Core.Path.{◌≡◌}
use mathlib.Core.List.{map}
use mathlib.Core.Bool.{true}
use lib.ListN.{length, drop}
use lib.Seq.{sets}
use Rattle.transcript.specs.Entries.{bare}
use Rattle.transcript.specs.Sections.{entries_bytes}
use Rattle.expansion.specs.Expansion.{all_heard, heard_entries}
use Rattle.expansion.proofs.write_section.Given as goal

abbrev pub invariant-loop-h : goal.invariant-loop-h
invariant-loop-h l = (l.i ≤ 4096)
    × (l.at ≤ length l.b)
    × (length l.out ≡ length l.initial.out)
    × (all_heard (4096 - l.i) (drop l.at l.b) ≡ true)
    × (l.i + length (heard_entries (4096 - l.i) (drop l.at l.b)) ≡ length (heard_entries 4096 l.b))
    × (sets l.out (16 * l.i) (entries_bytes (map bare (heard_entries (4096 - l.i) (drop l.at l.b)))) ≡ sets l.initial.out 0 (entries_bytes (map bare (heard_entries 4096 l.b))))

abbrev pub decreases-loop-h : goal.decreases-loop-h
decreases-loop-h l = length l.b - l.at
