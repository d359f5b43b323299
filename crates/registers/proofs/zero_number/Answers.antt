-- `registers::zero_number` meets its contract: the rate first, then the reference. Assumes nothing.
use borrow.Author.Tests.{eq-eqb, ne_eqb}
use Rattle.registers.proofs.zero_number.Goals as goal

pub returns-then-rate-eq0 : goal.returns-then-rate-eq0
returns-then-rate-eq0 c = simp (eq-eqb _ _ c.if-rate-eq0.true)

pub returns-then-xtal-eq0 : goal.returns-then-xtal-eq0
returns-then-xtal-eq0 c = simp (ne_eqb _ _ c.if-rate-eq0.false, eq-eqb _ _ c.if-xtal-eq0.true)

pub returns : goal.returns
returns c = simp (ne_eqb _ _ c.if-rate-eq0.false, ne_eqb _ _ c.if-xtal-eq0.false)
