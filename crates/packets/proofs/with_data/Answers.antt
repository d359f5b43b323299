-- `packets::with_data` meets its contract: the data are the bytes after the setup packet.
-- Assumes nothing.
use Rattle.packets.proofs.Reading.{told_made}
use Rattle.packets.proofs.with_data.Goals as goal

pub returns : goal.returns
returns c =
    let copy = c.copy in
    let a = c.args in
    told_made a.s.now a.at a.e a.sent c.sync_len-behind.result copy.new.dst copy.ensures c.sync_len-behind.ensures.0
