-- `records::chip_in` meets its contract: each part is read from its place.
-- Assumes nothing.
use Rattle.records.proofs.Made.{chip_made}
use Rattle.records.proofs.chip_in.Goals as goal

pub returns : goal.returns
returns c =
    chip_made c.args.b.now _ _ _ c.get.ensures.0 c.bytes_at.ensures c.flags_at.ensures
