-- `tuning::read_try` meets its contract: its entries over the log, at any chip. Assumes nothing.
use Rattle.chip.specs.InCode.{in_room}
use Rattle.chip.proofs.Laws.{swap}
use Rattle.tuning.proofs.Turns.{try_made}
use Rattle.tuning.proofs.read_try.Goals as goal

pub returns : goal.returns
returns c =
    let try-entries = c.try_entries in
    record { room_after = λ chip. swap in_room _ _ _ _ _ (try_made _ _ _ _ c.reply_bytes-bytes.ensures) (try-entries.ensures.room_after chip); bounds = try-entries.ensures.bounds }
