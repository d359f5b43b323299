-- `records::decode_tuner` meets its contract: it ends in one of three ways.
-- Assumes nothing.
use Rattle.records.proofs.Made.{no_length, no_fit, whole}
use Rattle.records.proofs.decode_tuner.Goals as goal

pub returns-then-b-ne-TUNER : goal.returns-then-b-ne-TUNER
returns-then-b-ne-TUNER c =
    no_length c.args.b.now c.if-b-ne-TUNER.true

pub returns-then-not-tuner_fits : goal.returns-then-not-tuner_fits
returns-then-not-tuner_fits c =
    no_fit c.args.b.now _ c.if-b-ne-TUNER.false c.tuner_fits.ensures (c.if-not-tuner_fits.true)

pub returns : goal.returns
returns c =
    whole c.args.b.now _ _ c.if-b-ne-TUNER.false c.tuner_fits.ensures (c.if-not-tuner_fits.false) c.tuner_in.ensures
