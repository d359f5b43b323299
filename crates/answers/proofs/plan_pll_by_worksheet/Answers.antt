-- `answers::plan_pll_by_worksheet` meets its contract: what is lent is the definition's sheet. Assumes nothing.
use mathlib.Core.Path.{ap, ◌∙◌}
use Rattle.pll.specs.declared.Kind.{Kind}
use Rattle.std.specs.Prelude.{Option}
use Rattle.worksheet.specs.declared.Sheet.{Sheet}
use Rattle.worksheet.specs.Sheet.{sheet_of}
use Rattle.answers.specs.declared.Laid.{Laid}
use Rattle.answers.specs.Sheets.{laid_of, laid_to}
use Rattle.answers.proofs.plan_pll_by_worksheet.Goals as goal

pub returns : goal.returns
returns c =
    let a = c.args in
    c.lend.ensures
    ∙ ap (λ (l : Laid). laid_to l a.out.now) c.laid_out-laid.ensures
    ∙ ap (λ (f : Option Sheet). laid_to (laid_of a.kind a.reference f) a.out.now) c.fill-sheet.ensures
    ∙ ap (λ (k : Kind). laid_to (laid_of a.kind a.reference (sheet_of k a.lo a.reference)) a.out.now) c.named.ensures
