-- `chip::log_entry` meets its contract. The entry is settled, put in the room behind those that stand there, and looked at: `laid` says that this is what `in_room` does. Assumes nothing.
use Rattle.chip.proofs.Rooms.{laid}
use Rattle.std.proofs.Common.{rules}
use Rattle.chip.proofs.log_entry.Goals as goal

pub returns : goal.returns
returns c =
    record { room_after = λ chip. laid chip _ _ _ _ _ _ _ _ _ c.with_outcome-done.ensures c.put.ensures c.with_try.ensures; bounds = search rules }
