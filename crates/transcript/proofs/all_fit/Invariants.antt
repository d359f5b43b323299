-- `transcript::all_fit` meets its contract. The loop's invariant: whether the entries from i on fit says it for all.
-- Assumes nothing.
use Prim.Native.Nat.{◌+◌, ◌-◌, ◌*◌}
use mathlib.Core.Path.{◌≡◌}
use lib.ListN.{drop}
use Rattle.transcript.specs.Sections.{all_fit}
use Rattle.transcript.proofs.all_fit.Given as goal

abbrev pub invariant-loop-i : goal.invariant-loop-i
invariant-loop-i l = all_fit (l.count - l.i) (drop (l.at + 16 * l.i) l.s) ≡ all_fit l.count (drop l.at l.s)
