-- `device::log_access` meets its contract: the plain step of the access's entry. Assumes nothing.
use Rattle.chip.proofs.Laws.{by_entry}
use borrow.Author.Rules.{rules}
use Rattle.chip.specs.InCode.{in_room}
use Rattle.device.specs.Accesses.{access_step}
use Rattle.device.proofs.log_access.Goals as goal

pub returns : goal.returns
unfolding access_step
returns c =
    record { room_after = λ chip. by_entry in_room _ _ _ _ _ c.entry.ensures (c.log_plain.ensures.room_after chip); bounds = search rules }
