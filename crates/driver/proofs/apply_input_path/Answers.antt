-- `driver::apply_input_path` meets its contract: refused before any step, or performed. Assumes nothing.
use native.Mathlib.Omega.{arith}
use mathlib.Core.Path.{refl, sym, ◌∙◌}
use lib.ListN.{length}
use Rattle.chip.proofs.Refusals.{taken_by}
use Rattle.driver.proofs.Rates.{path_none, path_performed, path_refused}
use Rattle.driver.specs.Calls.{board_result}
use Rattle.driver.proofs.apply_input_path.Goals as goal

pub returns-in_default : goal.returns-in_default
unfolding board_result
returns-in_default c =
    c.refused.ensures _ ∙ path_none _ _ _ _ _ (sym c.path_of.ensures ∙ c.in_default.is)

pub returns-then-number-ne0 : goal.returns-then-number-ne0
unfolding board_result
returns-then-number-ne0 c =
    let args = c.args in
    c.refused-then-number-ne0.ensures _
    ∙ path_refused _ c.in-Some.by args.outcomes.now args.replies.now args.room.now args.tuner _ _
    (sym c.path_of.ensures ∙ c.in-Some.is) c.sound-whole.ensures c.refusal-number.ensures c.if-number-ne0.true

pub path_steps-f-requires : goal.path_steps-f-requires
path_steps-f-requires c =
    let args = c.args in
    let z =
    taken_by c.sound-whole.result 0 10 3 (length args.room.now) (length args.outcomes.now) (length args.replies.now)
    (sym c.refusal-number.ensures ∙ c.if-number-ne0.false) in
    let one = z.lent.rooms in let two = z.lent.outs in (z.lent.back, omega arith, omega arith)

pub finish-requires : goal.finish-requires
finish-requires c =
    let path-steps = c.path_steps-f in
    let args = c.args in
    let z =
    taken_by c.sound-whole.result 0 10 3 (length args.room.now) (length args.outcomes.now) (length args.replies.now)
    (sym c.refusal-number.ensures ∙ c.if-number-ne0.false) in
    let one = z.lent.rooms in (omega (arith, path-steps.ensures.bounds), omega (arith, path-steps.ensures.bounds, path-steps.auto))

pub returns : goal.returns
unfolding board_result
returns c =
    let finish = c.finish in
    let path-steps = c.path_steps-f in
    let args = c.args in
    path_performed _ c.in-Some.by args.outcomes.now args.replies.now args.room.now args.tuner _ _
    (sym c.path_of.ensures ∙ c.in-Some.is) c.sound-whole.ensures c.refusal-number.ensures _ path-steps.result _ _ _
    c.if-number-ne0.false refl path-steps.ensures.room_after finish.ensures.1 finish.ensures.0
