-- `answers::plan_pll` meets its contract: what is lent is what of the definition's plan stands on a sheet. Assumes nothing.
use mathlib.Core.Path.{ap, ◌∙◌}
use Rattle.pll.specs.declared.Kind.{Kind}
use Rattle.std.specs.Prelude.{Option}
use Rattle.worksheet.specs.declared.Sheet.{Sheet}
use Rattle.pll.specs.declared.Plan.{Plan}
use Rattle.pll.specs.Plan.{plan_of}
use Rattle.worksheet.specs.Sheet.{filled_by}
use Rattle.answers.specs.declared.Laid.{Laid}
use Rattle.answers.specs.Sheets.{laid_of, laid_to}
use Rattle.answers.proofs.plan_pll.Goals as goal

pub returns : goal.returns
returns c =
    let a = c.args in
    c.lend.ensures
    ∙ ap (λ (l : Laid). laid_to l a.out.now) c.laid_out-laid.ensures
    ∙ ap (λ (f : Option Sheet). laid_to (laid_of a.kind a.reference f) a.out.now) c.filled_by.ensures
    ∙ ap (λ (p : Option Plan). laid_to (laid_of a.kind a.reference (filled_by p)) a.out.now) c.plan_pll-plan.ensures
    ∙ ap (λ (k : Kind). laid_to (laid_of a.kind a.reference (filled_by (plan_of k a.lo a.reference))) a.out.now) c.named.ensures
