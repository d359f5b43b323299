-- `chip::write_one` meets its contract: the write, and the end of a part. Assumes nothing.
use Rattle.std.proofs.Common.{arith}
use Rattle.chip.specs.InCode.{in_room}
use Rattle.chip.proofs.Laws.{ended_here}
use Rattle.chip.proofs.write_one.Goals as goal

pub returns : goal.returns
returns c =
    let log-end = c.log_end in
    let write-reg-mask-raw = c.write_reg_mask_raw-written in
    record { room_after = ended_here in_room _ _ _ _ _ write-reg-mask-raw.ensures.room_after (log-end.ensures.room_after _); bounds = omega (arith, write-reg-mask-raw.ensures.bounds, log-end.ensures.bounds) }
