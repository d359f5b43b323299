-- `worksheet::divider` meets its contract. The loop's invariant: the ranges that are left, from here, give what all give from none. Assumes nothing.
use mathlib.Core.Path.{◌≡◌}
use lib.ListN.{drop}
use Rattle.worksheet.specs.Sheet.{bands_of, divider_on}
use Rattle.worksheet.proofs.divider.Given as goal

abbrev pub invariant-loop-b : goal.invariant-loop-b
invariant-loop-b l = bands_of l.lo l.m (drop l.b-index l.b-items) ≡ divider_on l.lo
