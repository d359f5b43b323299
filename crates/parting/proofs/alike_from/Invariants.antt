-- `parting::alike_from` meets its contract. The loop's invariant: k, and how many of the entries from k on are alike, are how many of all are.
-- Assumes nothing.
use Prim.Native.Nat.{◌+◌}
use mathlib.Core.Path.{◌≡◌}
use lib.ListN.{drop}
use Rattle.transcript.specs.Sections.{entries_in}
use Rattle.parting.specs.Parting.{agree}
use Rattle.parting.proofs.Laws.{left}
use Rattle.parting.proofs.alike_from.Given as goal

abbrev pub invariant-loop-k : goal.invariant-loop-k
invariant-loop-k l = l.k + agree (left l.a l.m l.x l.k) (left l.b l.n l.y l.k) ≡ agree (entries_in l.m (drop l.a l.x)) (entries_in l.n (drop l.b l.y))
