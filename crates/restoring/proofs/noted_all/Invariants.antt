-- `restoring::noted_all` meets its contract. The loop's invariant: the first i entries, over what is told by then, are all entries over what was told.
-- Assumes nothing.
use mathlib.Core.Path.{◌≡◌}
use lib.ListN.{drop}
use Rattle.transcript.specs.Sections.{entries_in}
use Rattle.restoring.specs.Standing.{over, known_in}
use Rattle.restoring.proofs.noted_all.Given as goal

abbrev pub invariant-loop-i : goal.invariant-loop-i
invariant-loop-i l = over (known_in l.address (entries_in l.i (drop l.start l.s))) 0 l.known
    ≡ over (known_in l.address (entries_in l.count (drop l.start l.s))) 0 l.initial.known
