-- `chip::write_two` meets its contract: the first write, looked at, and the second. Assumes nothing.
use Rattle.std.proofs.Common.{refl, ap}
use Rattle.chip.specs.InCode.{in_room}
use Rattle.chip.specs.Steps.{every, goes}
use Rattle.chip.proofs.Laws.{cut_here, progress_on}
use Rattle.chip.proofs.write_two.Goals as goal

pub returns-in_default-clause-room_after : goal.returns-in_default-clause-room_after
unfolding every
returns-in_default-clause-room_after c =
    cut_here in_room _ _ _ _ _ _ c.write_reg_mask_raw-written.ensures.room_after (ap goes c.in_default.is) refl (c.log_close.ensures.room_after _)

pub returns-clause-room_after : goal.returns-clause-room_after
returns-clause-room_after c = progress_on in_room _ _ _ _ _ _ c.write_reg_mask_raw-written.ensures.room_after c.write_one.ensures.room_after
