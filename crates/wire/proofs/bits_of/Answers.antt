-- `wire::bits_of` meets its contract: what differs from itself is the NaN, and all else has its own bits.
-- Assumes nothing.
use Rattle.wire.proofs.Floats.{nan_bits_lem, no_nan}
use Rattle.wire.proofs.bits_of.Goals as goal

pub returns-then-x : goal.returns-then-x
returns-then-x c = nan_bits_lem c.args.x c.if-x.true

pub float_to_bits-result : goal.float_to_bits-result
float_to_bits-result c = no_nan c.args.x c.if-x.false
