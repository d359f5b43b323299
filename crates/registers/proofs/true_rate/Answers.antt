-- `registers::true_rate` meets its contract: of a rate that is taken something is sent. Assumes nothing.
use Prim.Native.Nat.{ℕ, ◌*◌, ◌/◌, ◌^◌, ◌<◌}
use mathlib.Core.Path.{sym, ap, subst, ◌∙◌}
use Rattle.registers.specs.Rates.{sent_of, true_of}
use Rattle.registers.proofs.Ratios.{sent_some, taken}
use borrow.Author.Rules.{rules}
use Rattle.registers.proofs.true_rate.Goals as goal

pub ratio-full-requires : goal.ratio-full-requires
ratio-full-requires c = (taken c.args.rate c.args.xtal c.requires).some

pub nonzero_div-result : goal.nonzero_div-result
nonzero_div-result c =
    let a = c.args in
    subst (λ (s : ℕ). 0 < s) (sym (c.sent-kept.ensures ∙ ap sent_of c.ratio-full.ensures)) (sent_some a.rate a.xtal c.requires)

pub returns : goal.returns
unfolding true_of
returns c = ap (λ (s : ℕ). c.args.xtal * 2 ^ 22 / s) (c.sent-kept.ensures ∙ ap sent_of c.ratio-full.ensures)
