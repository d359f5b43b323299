-- `writes::gain_by_hand` meets its contract: its steps one after the other, each looked at. Assumes nothing.
use mathlib.Core.Path.{refl, ap}
use Rattle.chip.specs.InCode.{in_room}
use Rattle.chip.specs.Steps.{every, goes}
use Rattle.chip.proofs.Laws.{cut_here, ended_here, progress_on}
use Rattle.chip.proofs.Lists.{by_masked}
use Rattle.writes.proofs.gain_by_hand.Goals as goal

pub returns-in_default-clause-room_after : goal.returns-in_default-clause-room_after
unfolding every
returns-in_default-clause-room_after c =
    cut_here in_room _ _ _ _ _ _ (by_masked in_room _ _ _ _ _ c.masked-u.ensures c.write_reg_mask_raw-l.ensures.room_after)
    (ap goes c.in_default.is) refl (c.log_close.ensures.room_after _)

pub returns-clause-room_after : goal.returns-clause-room_after
returns-clause-room_after c =
    progress_on in_room _ _ _ _ _ _ (by_masked in_room _ _ _ _ _ c.masked-u.ensures c.write_reg_mask_raw-l.ensures.room_after)
    (ended_here in_room _ _ _ _ _ (by_masked in_room _ _ _ _ _ c.masked-u-2.ensures c.write_reg_mask_raw-l-2.ensures.room_after) (c.log_end.ensures.room_after _))
