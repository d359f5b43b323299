-- `registers::resample_regs` meets its contract. Assumes nothing.
use mathlib.Core.Path.{sym, ◌∙◌}
use Rattle.registers.proofs.Ratios.{no_regs, none_given, some_regs}
use borrow.Author.Rules.{rules}
use Rattle.registers.proofs.resample_regs.Goals as goal

pub returns-then-number-ne0 : goal.returns-then-number-ne0
returns-then-number-ne0 c = no_regs _ _ _ c.zero_number-number.ensures c.if-number-ne0.true

pub ratio-value-requires : goal.ratio-value-requires
ratio-value-requires c =
    let args = c.args in
    (none_given args.rate args.xtal 0 (sym c.zero_number-number.ensures ∙ c.if-number-ne0.false)).0

pub returns : goal.returns
returns c = some_regs _ _ _ _ c.zero_number-number.ensures c.if-number-ne0.false c.ratio-value.ensures
