-- `chip::bracket` meets its contract: an opening, the steps and a closing, over the chip's lists. Assumes nothing.
use Rattle.std.proofs.Common.{ap, ◌∙◌}
use Rattle.chip.specs.InCode.{in_room}
use Rattle.chip.specs.Steps.{goes}
use Rattle.chip.proofs.Laws.{bracketed, unopened}
use Rattle.chip.proofs.bracket.Goals as goal

pub returns-in_default-clause-room_after : goal.returns-in_default-clause-room_after
returns-in_default-clause-room_after g c = λ ss runs.
    unopened in_room _ ss _ _ _ (c.log_open-opened.ensures.room_after _) (ap goes c.in_default.is) (c.log_close-f.ensures.room_after _)

pub returns-clause-room_after : goal.returns-clause-room_after
returns-clause-room_after g c = λ ss runs.
    c.log_close-f-2.ensures.room_after _ ∙ bracketed in_room _ ss _ _ _ (c.log_open-opened.ensures.room_after _) (runs _ _ _ _ c.steps-sent.ensures)
