-- `refusals::lend_answer` meets its contract: what is lent is the bytes given, behind the answer's number and value.
-- Assumes nothing.
use Prim.Native.Nat.{ℕ}
use mathlib.Core.Path.{ap, ◌∙◌}
use Rattle.refusals.specs.Lent.{lent_to}
use Rattle.refusals.specs.Answers.{number_of}
use borrow.Author.Rules.{rules}
use Rattle.refusals.proofs.lend_answer.Goals as goal

pub returns : goal.returns
returns c =
    let value_of = c.value_of in
    let a = c.args in
    let bytes = a.bytes.now in
    c.lend.ensures
    ∙ ap (λ (n : ℕ). lent_to n value_of.result bytes a.out.now) c.number_of.ensures
    ∙ ap (λ (n : ℕ). lent_to (number_of a.answer) n bytes a.out.now) value_of.ensures
