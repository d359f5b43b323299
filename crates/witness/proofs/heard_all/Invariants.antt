-- `witness::heard_all` meets its contract. The loop's invariant: the first i entries, over what is gathered by then, are all entries over what was.
-- Assumes nothing.
use mathlib.Core.Path.{◌≡◌}
use lib.ListN.{drop}
use Rattle.transcript.specs.Sections.{entries_in}
use Rattle.witness.specs.Walk.{seen, seen_all}
use Rattle.witness.proofs.heard_all.Given as goal

abbrev pub invariant-loop-i : goal.invariant-loop-i
invariant-loop-i l = seen_all l.address (entries_in l.i (drop l.start l.s)) (seen l.seen.chip l.seen.demod l.w)
    ≡ seen_all l.address (entries_in l.count (drop l.start l.s)) l.initial.seen
