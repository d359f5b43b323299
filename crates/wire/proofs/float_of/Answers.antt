-- `wire::float_of` meets its contract: a pattern above infinity's is the NaN, which 0.0 / 0.0 is too.
-- Assumes nothing.
use Rattle.wire.proofs.Floats.{nan_above, no_nan_above}
use Rattle.wire.proofs.float_of.Goals as goal

pub returns-then-bits-gt2139095040 : goal.returns-then-bits-gt2139095040
returns-then-bits-gt2139095040 c = nan_above c.args.bits c.if-bits-gt2139095040.true

pub float_from_bits-result : goal.float_from_bits-result
float_from_bits-result c = no_nan_above c.args.bits c.if-bits-gt2139095040.false
