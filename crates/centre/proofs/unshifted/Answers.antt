-- `centre::unshifted` meets its contract: only the difference of the two frequencies counts. Assumes nothing.
use mathlib.Core.Path.{◌∙◌}
use native.Mathlib.Omega.{arith}
use Rattle.centre.proofs.Rows.{same}
use Rattle.centre.proofs.unshifted.Goals as goal

pub returns-then-hz-tuned : goal.returns-then-hz-tuned
returns-then-hz-tuned c = c.less_both.ensures ∙ same _ _ _ _ (omega arith)

pub returns-else-hz-tuned : goal.returns-else-hz-tuned
returns-else-hz-tuned c = c.less_one.ensures ∙ same _ _ _ _ (omega arith)
