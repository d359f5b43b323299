-- `board::plan_tuning` meets its contract: the plan is the definition's at the board that was matched, field by field.
-- Assumes nothing.
use mathlib.Core.Path.{sym, ap, ◌∙◌}
use Rattle.std.specs.Prelude.{Some}
use Rattle.board.specs.declared.Board.{Board}
use Rattle.board.specs.Plans.{board_plan, below_up}
use Rattle.board.proofs.plan_tuning.Goals as goal

pub returns-in-Generic : goal.returns-in-Generic
unfolding board_plan
returns-in-Generic c = sym (ap (λ (b : Board). board_plan b c.args.hz) c.in-Generic.is)

pub returns-in-V4 : goal.returns-in-V4
unfolding board_plan
returns-in-V4 c =
    let args = c.args in
    (λ i. record
    { hz = c.tuner_hz.ensures i; inverted = below_up args.hz; path = Some (c.input_path.ensures i); notch = c.in_notch.ensures i })
    ∙ sym (ap (λ (b : Board). board_plan b args.hz) c.in-V4.is)
