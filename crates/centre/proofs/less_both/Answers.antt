-- `centre::less_both` meets its contract: both are taken off, one after the other. Assumes nothing.
use native.Mathlib.Omega.{arith}
use Rattle.std.proofs.lemmas.Grind.{common_steps}
use Rattle.centre.proofs.Rows.{below_0, left}
use Rattle.centre.proofs.less_both.Goals as goal

pub returns-in_default : goal.returns-in_default
returns-in_default c = below_0 _ _ (grind (arith, common_steps))

pub returns : goal.returns
returns c = left _ _ _ (grind (arith, common_steps)) (omega arith)
