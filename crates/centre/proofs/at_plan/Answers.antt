-- `centre::at_plan` meets its contract. Assumes nothing.
use Rattle.centre.proofs.Rows.{no_plan, planned}
use Rattle.centre.proofs.at_plan.Goals as goal

pub returns-then-planned-ne0 : goal.returns-then-planned-ne0
returns-then-planned-ne0 c = let a = c.args in no_plan a.planned a.ifreq a.hz a.lo c.if-planned-ne0.true

pub returns : goal.returns
returns c =
    let a = c.args in
    planned a.planned a.ifreq a.hz a.lo _ c.if-planned-ne0.false c.unshifted.ensures
