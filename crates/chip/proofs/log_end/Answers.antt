-- `chip::log_end` meets its contract: a closing where a step failed, and nothing where none did. Assumes nothing.
use Rattle.std.proofs.Common.{sym, ap, ◌∙◌, rules}
use Rattle.chip.specs.InCode.{in_room}
use Rattle.chip.specs.Steps.{goes}
use Rattle.chip.proofs.Laws.{closing_going, closing_stopped}
use Rattle.chip.proofs.log_end.Goals as goal

pub returns-in_default : goal.returns-in_default
returns-in_default c =
    record { room_after = λ chip. c.log_close.ensures.room_after chip ∙ sym (closing_stopped in_room _ _ (ap goes c.in_default.is)); bounds = search rules }

pub returns : goal.returns
returns c = record { room_after = λ chip. sym (closing_going in_room _ _ (ap goes c.in-Going.is)); bounds = search rules }
