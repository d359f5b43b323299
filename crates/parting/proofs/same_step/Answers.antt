-- `parting::same_step` meets its contract: its tests are those of `alike`.
-- Assumes nothing.
use native.Mathlib.Omega.{arith}
use borrow.Author.Rules.{rules}
use Rattle.parting.proofs.Laws.{same_made}
use Rattle.parting.proofs.same_step.Goals as goal

pub returns : goal.returns
returns c =
    let a = c.args in
    same_made a.e.now a.f.now c.get.result c.get-2.result c.eight.result c.eight-2.result
    (λ k. omega (arith, c.type_inv.e k)) (λ k. omega (arith, c.type_inv.f k)) (search rules) (search rules)
    c.get.ensures.0 c.get-2.ensures.0 c.eight.ensures c.eight-2.ensures
