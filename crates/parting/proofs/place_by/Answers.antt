-- `parting::place_by` meets its contract: the test is that of `placed`.
-- Assumes nothing.
use Rattle.parting.proofs.Laws.{first_goes_on, second_goes_on}
use Rattle.parting.proofs.place_by.Goals as goal

pub returns-then-n-k : goal.returns-then-n-k
returns-then-n-k c =
    let a = c.args in
    first_goes_on a.a a.m a.b a.n a.k c.if-n-k.true

pub returns : goal.returns
returns c =
    let a = c.args in
    second_goes_on a.a a.m a.b a.n a.k c.if-n-k.false
