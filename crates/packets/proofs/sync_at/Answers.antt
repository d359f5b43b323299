-- `packets::sync_at` meets its contract: eight bytes are there, and their number is that of the read.
-- Assumes nothing.
use Rattle.packets.proofs.Reading.{no_sync, sync_told}
use Rattle.packets.proofs.sync_at.Goals as goal

pub returns-then-s-at-lt8 : goal.returns-then-s-at-lt8
returns-then-s-at-lt8 c =
    let args = c.args in
    no_sync args.s.now args.at c.if-s-at-lt8.true

pub returns : goal.returns
returns c =
    let args = c.args in
    sync_told args.s.now args.at c.eight.result c.if-s-at-lt8.false c.eight.ensures
