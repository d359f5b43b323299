-- `wire::four` meets its contract: the four bytes, one by one, are those of the part.
-- Assumes nothing.
use Rattle.std.proofs.Common.{arith, ap}
use Rattle.wire.specs.Bytes.{le_value}
use Rattle.wire.proofs.Widths.{four_spelt}
use Rattle.wire.proofs.four.Goals as goal

pub returns : goal.returns
unfolding le_value
returns c =
    let part = ap le_value (four_spelt 0 c.args.at c.args.s.now (omega arith)) in
    omega (arith, c.from_le_bytes.ensures, part)
