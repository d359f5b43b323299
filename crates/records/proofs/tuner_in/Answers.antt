-- `records::tuner_in` meets its contract: each field is read from its part.
-- Assumes nothing.
use Rattle.records.proofs.Made.{tuner_made}
use Rattle.records.proofs.tuner_in.Goals as goal

pub returns : goal.returns
returns c =
    tuner_made c.args.b.now _ _ _ _ _ _ _ _ _ _ c.get.ensures.0 c.kind_of.ensures c.chip_in.ensures
    c.four.ensures c.four-2.ensures c.get-2.ensures.0 c.four-3.ensures c.float_of.ensures
    c.eight.ensures c.get-3.ensures.0
