-- `answers::plan_tuning` meets its contract: a number that names no board, or the plan's bytes.
-- Assumes nothing.
use mathlib.Core.Path.{sym, ap, ◌∙◌}
use Rattle.std.specs.Prelude.{Option}
use Rattle.board.specs.declared.Board.{Board}
use Rattle.board.specs.declared.Plan.{Plan}
use Rattle.answers.specs.Lent.{plan_bytes, plan_into}
use Rattle.refusals.specs.Lent.{lent_to}
use Rattle.answers.proofs.plan_tuning.Goals as goal

pub returns-in_default : goal.returns-in_default
unfolding plan_into
returns-in_default c =
    let a = c.args in
    ap (λ (b : Option Board). plan_into b a.hz a.out.now) (sym c.in_default.is ∙ c.board_of.ensures)

pub returns : goal.returns
unfolding plan_into
returns c =
    let a = c.args in
    c.lend_plan.ensures
    ∙ ap (λ (q : Plan). lent_to 0 q.hz (plan_bytes q) a.out.now) c.plan_tuning.ensures
    ∙ ap (λ (b : Option Board). plan_into b a.hz a.out.now) (sym c.in-Some.is ∙ c.board_of.ensures)
