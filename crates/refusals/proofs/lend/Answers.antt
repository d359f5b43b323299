-- `refusals::lend` meets its contract: each return is one case of the definition.
-- Assumes nothing.
use Prim.Native.Nat.{ℕ}
use mathlib.Core.Path.{ap, ◌∙◌}
use mathlib.Core.List.{List}
use native.Mathlib.Omega.{arith}
use borrow.Author.Rules.{rules}
use Rattle.refusals.specs.Lent.{given}
use Rattle.refusals.specs.declared.Answer.TheVariants.{Done}
use Rattle.refusals.proofs.Giving.{laid, refused, too_short}
use Rattle.refusals.proofs.lend.Goals as goal

pub returns-then-refusal-ne0 : goal.returns-then-refusal-ne0
returns-then-refusal-ne0 c =
    let args = c.args in
    refused args.refusal args.value args.bytes.now args.out.now (omega arith)

pub returns-then-out-bytes : goal.returns-then-out-bytes
returns-then-out-bytes c =
    let a = c.args in
    too_short a.refusal a.value a.bytes.now a.out.now (omega arith) (omega arith)

pub returns : goal.returns
returns c =
    let a = c.args in
    ap (λ (l : List ℕ). given (Done a.value) l) c.copy.ensures
    ∙ laid a.refusal a.value a.bytes.now a.out.now (omega arith) (omega arith)
