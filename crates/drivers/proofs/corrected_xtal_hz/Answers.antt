-- `drivers::corrected_xtal_hz` meets its contract: bytes that are no record, or the answer of the one that they are.
-- Assumes nothing.
use Rattle.std.proofs.Common.{rules}
use Rattle.drivers.proofs.Passed.{told_of_driver}
use Rattle.drivers.proofs.corrected_xtal_hz.Goals as goal

pub returns : goal.returns
returns c = told_of_driver c.args.driver.now _ _ c.decode_driver.ensures _ _ c.map_or.ensures (λ d post. search rules)
