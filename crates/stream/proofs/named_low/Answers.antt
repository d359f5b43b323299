-- `stream::named_low` meets its contract: one equation for each operation. Assumes nothing.
use Prim.Native.Nat.{ℕ}
use mathlib.Core.Path.{◌≡◌, sym, ap, ◌∙◌}
use native.Mathlib.Omega.{arith}
use Rattle.stream.specs.declared.Command.TheVariants.{Correction, GainDb}
use Rattle.stream.specs.Commands.{named}
use Rattle.stream.proofs.Laws.{at_most_seven, index_fits, signed_back}
use Rattle.stream.proofs.named_low.Goals as goal

pub overflow_cast-result : goal.overflow_cast-result
overflow_cast-result c = omega (arith, index_fits c.args.operation c.args.argument c.requires.1 c.in-4.is)

pub returns-in-2 : goal.returns-in-2
returns-in-2 c = sym (ap (λ (o : ℕ). named o c.args.argument) c.in-2.is)

pub returns-in-3 : goal.returns-in-3
returns-in-3 c =
    ap GainDb c.float_of.ensures ∙ sym (ap (λ (o : ℕ). named o c.args.argument) c.in-3.is)

pub returns-in-4 : goal.returns-in-4
returns-in-4 c = sym (ap (λ (o : ℕ). named o c.args.argument) c.in-4.is)

pub returns-in-5 : goal.returns-in-5
returns-in-5 c = sym (ap (λ (o : ℕ). named o c.args.argument) c.in-5.is)

pub returns-in-6 : goal.returns-in-6
returns-in-6 c =
    ap Correction (signed_back _ _ c.ranges.argument c.to_signed.ensures)
    ∙ sym (ap (λ (o : ℕ). named o c.args.argument) c.in-6.is)

pub returns-in_default : goal.returns-in_default
returns-in_default c =
    let args = c.args in
    let seven : args.operation ≡ 7 = omega (arith, at_most_seven args.operation args.argument c.requires.1) in
    sym (ap (λ (o : ℕ). named o args.argument) seven)
