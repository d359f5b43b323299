-- `expansion::measured` meets its contract. The loop's invariant: the size so far and that of the entries left make the whole, and all expand if those left do.
-- Assumes nothing.
use Prim.Native.Nat.{◌+◌, ◌*◌, ◌≤◌}
use mathlib.Core.Path.{◌≡◌}
use lib.ListN.{length, drop}
use Rattle.transcript.specs.Sections.{entries_in}
use Rattle.expansion.specs.Expansion.{all_expand, expanded}
use Rattle.expansion.proofs.Turns.{left}
use Rattle.expansion.proofs.measured.Given as goal

abbrev pub invariant-loop-i : goal.invariant-loop-i
invariant-loop-i l = (l.size ≤ 18 * l.i)
    × (all_expand (left l.s l.start l.count l.i) ≡ all_expand (entries_in l.count (drop l.start l.s)))
    × (l.size + length (expanded (left l.s l.start l.count l.i)) ≡ length (expanded (entries_in l.count (drop l.start l.s))))
