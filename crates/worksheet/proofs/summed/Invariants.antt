-- `worksheet::summed` meets its contract. The loop's invariant: the lines that are left, from here, give what all give from the start; S is small
-- enough for the next line. Assumes nothing.
use mathlib.Core.Path.{◌≡◌}
use Prim.Native.Nat.{◌*◌, ◌≤◌}
use lib.ListN.{drop}
use Rattle.worksheet.specs.Sheet.{lines, lines_of, sum_on}
use Rattle.worksheet.proofs.summed.Given as goal

abbrev pub invariant-loop-l : goal.invariant-loop-l
invariant-loop-l l = record {
  same : lines_of l.k l.w (drop l.l-index lines) ≡ sum_on l.k l.f;
  small : l.w.sum ≤ 32_768 * l.l-index;
}
