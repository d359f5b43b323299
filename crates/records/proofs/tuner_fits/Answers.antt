-- `records::tuner_fits` meets its contract: each test is made on its part.
-- Assumes nothing.
use Rattle.records.proofs.Made.{fits_made}
use Rattle.records.proofs.tuner_fits.Goals as goal

pub returns : goal.returns
returns c =
    fits_made c.args.b.now _ _ _ _ _ _ _ _ c.get.ensures.0 c.four.ensures c.four-2.ensures
    c.get-2.ensures.0 c.four-3.ensures c.proper_gain.ensures c.get-3.ensures.0 c.flags_only.ensures
