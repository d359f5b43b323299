-- `drivers::centre` meets its contract: bytes of which either are no record, or the centre of those that they are.
-- Assumes nothing.
use Rattle.std.proofs.Common.{rules}
use Rattle.drivers.proofs.Passed.{centred}
use Rattle.drivers.proofs.centre.Goals as goal

pub returns : goal.returns
returns c =
    let a = c.args in
    centred a.table.now a.driver.now a.tuner.now _ c.read_both.ensures _ _ c.map_or.ensures (λ r post. search rules)
