-- `answers::pack_fir` meets its contract: bytes of another length, or the packing of the numbers read.
-- Assumes nothing.
use mathlib.Core.Path.{ap, ◌∙◌}
use native.Mathlib.Omega.{arith}
use Rattle.fir.specs.declared.Packed.{Packed}
use Rattle.fir.specs.Packing.{packed}
use Rattle.refusals.specs.Lent.{lent_to}
use Rattle.answers.proofs.Giving.{no_packing, packing}
use Rattle.answers.proofs.pack_fir.Goals as goal

pub returns-then-values-ne64 : goal.returns-then-values-ne64
returns-then-values-ne64 c = let a = c.args in no_packing a.values.now a.out.now (λ e. omega arith)

pub returns : goal.returns
returns c =
    let a = c.args in
    c.lend.ensures
    ∙ ap (λ (r : Packed). lent_to r.refusal 0 r.bytes a.out.now) (c.pack_fir-answer.ensures ∙ ap packed c.coefficients.ensures)
    ∙ packing a.values.now a.out.now (omega arith)
