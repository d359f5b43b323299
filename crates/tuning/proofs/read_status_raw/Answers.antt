-- `tuning::read_status_raw` meets its contract: its entries over the log, at any chip. Assumes nothing.
use Rattle.chip.specs.InCode.{in_room}
use Rattle.chip.proofs.Laws.{swap}
use Rattle.tuning.proofs.Turns.{status_made}
use Rattle.tuning.proofs.read_status_raw.Goals as goal

pub returns : goal.returns
returns c =
    let status-entries = c.status_entries in
    record { room_after = λ chip. swap in_room _ _ _ _ _ (status_made _ _ _ c.reply_bytes-bytes.ensures) (status-entries.ensures.room_after chip); bounds = status-entries.ensures.bounds }
