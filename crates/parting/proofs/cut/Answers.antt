-- `parting::cut` meets its contract: at each `return` the tests that led there say whether the part lies in the slice.
-- Assumes nothing.
use native.Mathlib.Omega.{arith}
use Rattle.parting.proofs.Laws.{lies_in, past_end, past_start}
use Rattle.parting.proofs.cut.Goals as goal

pub returns-then-s-start : goal.returns-then-s-start
returns-then-s-start c =
    let a = c.args in
    past_start a.start a.count a.s.now c.if-s-start.true

pub returns-then-s-start-2 : goal.returns-then-s-start-2
returns-then-s-start-2 c =
    let a = c.args in
    past_end a.start a.count a.s.now c.if-s-start.false c.if-s-start-2.true

pub returns : goal.returns
returns c =
    let a = c.args in
    lies_in a.start a.count a.s.now c.if-s-start.false (omega (arith, c.if-s-start-2.false))
