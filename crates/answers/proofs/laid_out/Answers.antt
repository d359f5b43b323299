-- `answers::laid_out` meets its contract: each `return` is the law of its case. Assumes nothing.
use mathlib.Core.Path.{sym, ap, ◌∙◌}
use Rattle.answers.specs.Sheets.{filled_in}
use Rattle.answers.proofs.Engines.{laid, no_kind, no_reference}
use Rattle.answers.proofs.laid_out.Goals as goal

pub returns-then-kind-gt1 : goal.returns-then-kind-gt1
returns-then-kind-gt1 c = c.refused.ensures ∙ no_kind _ _ _ c.if-kind-gt1.true

pub returns-then-reference-eq0 : goal.returns-then-reference-eq0
returns-then-reference-eq0 c = c.refused-then-reference-eq0.ensures ∙ no_reference _ _ _ c.if-kind-gt1.false c.if-reference-eq0.true

pub returns-in_default : goal.returns-in_default
returns-in_default c =
    c.refused-in_default.ensures
    ∙ ap filled_in (sym c.in_default.is)
    ∙ laid _ _ _ c.if-kind-gt1.false c.if-reference-eq0.false

pub returns : goal.returns
returns c =
    ap filled_in (sym c.in-Some.is) ∙ laid _ _ _ c.if-kind-gt1.false c.if-reference-eq0.false
