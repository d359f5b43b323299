-- `answers::lend_words` meets its contract: each return is one case of the definition, with four bytes for each number.
-- Assumes nothing.
use Prim.Native.Nat.{ℕ}
use mathlib.Core.Path.{ap, ◌∙◌}
use mathlib.Core.List.{List}
use native.Mathlib.Omega.{arith}
use Rattle.answers.specs.Lent.{word_bytes}
use Rattle.refusals.specs.Lent.{given}
use Rattle.refusals.specs.declared.Answer.TheVariants.{Done}
use Rattle.refusals.proofs.Giving.{laid, refused, too_short}
use Rattle.answers.proofs.Words.{length_words}
use Rattle.answers.proofs.lend_words.Goals as goal

pub returns-then-refusal-ne0 : goal.returns-then-refusal-ne0
returns-then-refusal-ne0 c = let a = c.args in refused a.refusal 0 (word_bytes a.v.now) a.out.now (omega arith)

pub returns-then-out-v : goal.returns-then-out-v
returns-then-out-v c =
    let a = c.args in
    too_short a.refusal 0 (word_bytes a.v.now) a.out.now (omega arith) (omega (arith, length_words a.v.now))

pub returns : goal.returns
returns c =
    let a = c.args in
    ap (λ (l : List ℕ). given (Done 0) l) c.put_words.ensures
    ∙ laid a.refusal 0 (word_bytes a.v.now) a.out.now (omega arith) (omega (arith, length_words a.v.now))
