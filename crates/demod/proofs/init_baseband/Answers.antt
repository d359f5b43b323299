-- `demod::init_baseband` meets its contract: refused by a slice that is too short, or performed. Assumes nothing.
use mathlib.Core.Path.{sym, ◌∙◌}
use native.Mathlib.Omega.{arith}
use Rattle.device.proofs.Free.{performs, refuses, suffices}
use Rattle.chip.specs.Courses.{left_by}
use Rattle.device.specs.Calls.{free_result}
use Rattle.demod.proofs.Baseband.{init_eight}
use Rattle.demod.proofs.init_baseband.Goals as goal

pub returns-then-number-ne0 : goal.returns-then-number-ne0
unfolding free_result left_by
returns-then-number-ne0 c = c.refused.ensures _ ∙ refuses _ _ _ _ _ c.too_short-number.ensures c.if-number-ne0.true

pub init_steps-f-requires : goal.init_steps-f-requires
init_steps-f-requires c =
    let if1 = c.if-number-ne0 in
    let too_short = c.too_short-number in
    (omega (arith, suffices _ _ _ _ _ _ too_short.ensures if1.false), omega (arith, suffices _ _ _ _ _ _ too_short.ensures if1.false))

pub finish-requires : goal.finish-requires
finish-requires c =
    (omega (arith, c.init_steps-f.ensures.bounds), omega (arith, c.init_steps-f.ensures.bounds, suffices _ _ _ _ _ _ c.too_short-number.ensures c.if-number-ne0.false))

pub returns : goal.returns
unfolding free_result left_by
returns c =
    let finish = c.finish in
    let init-steps = c.init_steps-f in
    performs _ _ _ _ init-steps.result _ _ _ (sym c.too_short-number.ensures ∙ c.if-number-ne0.false) init_eight init-steps.ensures.room_after
    finish.ensures.0 finish.ensures.1
