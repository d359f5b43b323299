-- `registers::rate_number` meets its contract: the zeros first, then the ratio. Assumes nothing.
use mathlib.Core.Path.{sym, ap, ◌∙◌}
use mathlib.Core.Bool.{Bool, cond}
use Rattle.registers.proofs.Ratios.{none_given, number_first, number_last}
use borrow.Author.Rules.{rules}
use Rattle.registers.proofs.rate_number.Goals as goal

pub returns-then-zero-ne0 : goal.returns-then-zero-ne0
returns-then-zero-ne0 c = number_first _ _ _ c.zero_number-zero.ensures c.if-zero-ne0.true

pub ratio-whole-requires : goal.ratio-whole-requires
ratio-whole-requires c =
    let args = c.args in
    (none_given args.rate args.xtal 0 (sym c.zero_number-zero.ensures ∙ c.if-zero-ne0.false)).0

pub returns-then-ratio_holds : goal.returns-then-ratio_holds
returns-then-ratio_holds c =
    sym (ap (λ (b : Bool). cond b 0 13) c.if-ratio_holds.true)
    ∙ number_last _ _ _ _ _ c.zero_number-zero.ensures c.if-zero-ne0.false c.ratio-whole.ensures c.ratio_holds.ensures

pub returns : goal.returns
returns c =
    sym (ap (λ (b : Bool). cond b 0 13) c.if-ratio_holds.false)
    ∙ number_last _ _ _ _ _ c.zero_number-zero.ensures c.if-zero-ne0.false c.ratio-whole.ensures c.ratio_holds.ensures
