-- `parting::rest` meets its contract: the part of the slice that the place names.
-- Assumes nothing.
use Rattle.parting.proofs.Laws.{of_first, of_second}
use Rattle.parting.proofs.rest.Goals as goal

pub returns-then-place-eq1 : goal.returns-then-place-eq1
returns-then-place-eq1 c =
    let a = c.args in
    of_first a.first.now a.second.now a.place c.cut.result.now c.if-place-eq1.true c.cut.ensures

pub returns : goal.returns
returns c =
    let a = c.args in
    of_second a.first.now a.second.now a.place c.cut-2.result.now c.if-place-eq1.false c.cut-2.ensures
