-- `tuners::oscillator` meets its contract: bytes that are no record, or the answer of the one that they are.
-- Assumes nothing.
use Rattle.std.proofs.Common.{rules}
use Rattle.tuners.proofs.Record.{told}
use Rattle.tuners.proofs.oscillator.Goals as goal

pub returns : goal.returns
returns c = told c.args.tuner.now _ _ c.decode_tuner.ensures _ _ c.map_or.ensures (λ t post. search rules)
