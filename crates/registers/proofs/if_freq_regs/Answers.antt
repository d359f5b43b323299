-- `registers::if_freq_regs` meets its contract. Assumes nothing.
use borrow.Author.Tests.{eq-eqb, ne_eqb}
use Rattle.registers.specs.Rates.{if_regs_of}
use borrow.Author.Rules.{rules}
use Rattle.registers.proofs.if_freq_regs.Goals as goal

pub returns-then-xtal-eq0 : goal.returns-then-xtal-eq0
unfolding if_regs_of
returns-then-xtal-eq0 c = simp (eq-eqb _ _ c.if-xtal-eq0.true)

pub returns : goal.returns
unfolding if_regs_of
returns c = simp (c.if_ratio-value.ensures, ne_eqb _ _ c.if-xtal-eq0.false)
