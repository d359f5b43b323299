-- `wire::eight` meets its contract: the eight bytes, one by one, are those of the part.
-- Assumes nothing.
use Rattle.std.proofs.Common.{arith, ap}
use Rattle.wire.specs.Bytes.{le_value}
use Rattle.wire.proofs.Widths.{eight_spelt}
use Rattle.wire.proofs.eight.Goals as goal

pub returns : goal.returns
unfolding le_value
returns c =
    let part = ap le_value (eight_spelt c.args.at c.args.s.now (omega arith)) in
    omega (arith, c.from_le_bytes.ensures, part)
