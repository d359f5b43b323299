-- `gain::gain_at` meets its contract: one division of the step, which the code's table has as the definition's.
-- Assumes nothing.
use Rattle.std.proofs.Common.{refl}
use Rattle.gain.specs.Product.{gain_of}
use Rattle.gain.specs.Steps.{steps}
use Rattle.gain.proofs.gain_at.Goals as goal

pub returns : goal.returns
unfolding gain_of steps
returns c = refl
