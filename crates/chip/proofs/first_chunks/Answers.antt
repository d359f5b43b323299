-- `chip::first_chunks` meets its contract: its steps one after the other, each looked at. Assumes nothing.
use Rattle.std.proofs.Common.{refl, ap}
use Rattle.chip.specs.InCode.{in_room}
use Rattle.chip.specs.Steps.{every, goes}
use Rattle.chip.proofs.Laws.{cut_here, ended_here, progress_on}
use Rattle.chip.proofs.first_chunks.Goals as goal

pub returns-in_default-clause-room_after : goal.returns-in_default-clause-room_after
unfolding every
returns-in_default-clause-room_after c =
    cut_here in_room _ _ _ _ _ _ c.send_chunk-first.ensures.room_after (ap goes c.in_default.is) refl (c.log_close.ensures.room_after _)

pub returns-in_default-progress-clause-room_after : goal.returns-in_default-progress-clause-room_after
unfolding every
returns-in_default-progress-clause-room_after c =
    progress_on in_room _ _ _ _ _ _ c.send_chunk-first.ensures.room_after
    (cut_here in_room _ _ _ _ _ _ c.send_chunk-second.ensures.room_after (ap goes c.in_default-progress.is) refl (c.log_close-in_default-progress.ensures.room_after _))

pub returns-clause-room_after : goal.returns-clause-room_after
returns-clause-room_after c =
    progress_on in_room _ _ _ _ _ _ c.send_chunk-first.ensures.room_after
    (progress_on in_room _ _ _ _ _ _ c.send_chunk-second.ensures.room_after
    (ended_here in_room _ _ _ _ _ c.send_chunk-third.ensures.room_after (c.log_end.ensures.room_after _)))
