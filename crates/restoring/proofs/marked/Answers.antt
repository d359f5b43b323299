-- `restoring::marked` meets its contract: each return is one case of a register over what is told.
-- Assumes nothing.
use native.Mathlib.Omega.{arith}
use Rattle.std.specs.Prelude.{Some}
use Rattle.restoring.proofs.Telling.{past, told_before, told_now, under}
use Rattle.restoring.proofs.marked.Goals as goal

pub returns-then-r-lt5 : goal.returns-then-r-lt5
returns-then-r-lt5 c = under c.args.known.now c.args.r (Some c.args.sent) (omega arith)

pub returns-then-r-gt31 : goal.returns-then-r-gt31
returns-then-r-gt31 c = past c.args.known.now c.args.r (Some c.args.sent) (omega arith)

pub returns-then-is_none : goal.returns-then-is_none
returns-then-is_none c = told_now c.args.known.now c.args.r (Some c.args.sent) (omega arith) (omega arith) c.if-is_none.ensures

pub returns-else-is_none : goal.returns-else-is_none
returns-else-is_none c = told_before c.args.known.now c.args.r (Some c.args.sent) (omega arith) (omega arith) c.if-is_none.ensures
