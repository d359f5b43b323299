-- `centre::less_one` meets its contract: what is put on may make up for what the oscillator lacks. Assumes nothing.
use native.Mathlib.Omega.{arith}
use Rattle.std.proofs.lemmas.Grind.{common_steps}
use Rattle.centre.proofs.Rows.{below_0, left, past_64}
use Rattle.centre.proofs.less_one.Goals as goal
use Rattle.centre.proofs.less_one.Goals.{in-Some, in-None}

pub returns-in_default : goal.returns-in_default
returns-in_default c = elim c.match-checked_sub.branch [ in-Some w ↦ past_64 _ _ (grind (arith, common_steps)) | in-None w ↦ below_0 _ _ (grind (arith, common_steps)) ]

pub returns : goal.returns
returns c = elim c.match-checked_sub.branch [ in-Some w ↦ left _ _ _ (grind (arith, common_steps)) (omega arith) | in-None w ↦ left _ _ _ (grind (arith, common_steps)) (omega arith) ]
