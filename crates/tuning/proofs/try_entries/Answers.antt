-- `tuning::try_entries` meets its contract: its steps one after the other, each looked at. Assumes nothing.
use mathlib.Core.Path.{refl, ap}
use Rattle.chip.specs.InCode.{in_room}
use Rattle.chip.specs.Steps.{every, goes}
use Rattle.chip.proofs.Laws.{by_entry, cut_here, ended_here, progress_on}
use Rattle.tuning.proofs.try_entries.Goals as goal

pub returns-in_default-clause-room_after : goal.returns-in_default-clause-room_after
unfolding every
returns-in_default-clause-room_after c = λ chip.
    cut_here in_room _ _ _ _ _ _ (by_entry in_room _ _ _ _ _ c.pointer.ensures (c.log_plain-pointed.ensures.room_after chip))
    (ap goes c.in_default.is) refl (c.log_close.ensures.room_after chip)

pub returns-clause-room_after : goal.returns-clause-room_after
returns-clause-room_after c = λ chip.
    progress_on in_room _ _ _ _ _ _ (by_entry in_room _ _ _ _ _ c.pointer.ensures (c.log_plain-pointed.ensures.room_after chip))
    (ended_here in_room _ _ _ _ _ (by_entry in_room _ _ _ _ _ c.read_entry.ensures (c.log_plain-read.ensures.room_after chip))
    (c.log_end.ensures.room_after chip))
