-- `registers::ratio_holds` meets its contract. Assumes nothing.
use mathlib.Core.Path.{refl}
use Rattle.registers.specs.Rates.{ratio_holds}
use Rattle.registers.proofs.ratio_holds.Goals as goal

pub returns : goal.returns
unfolding ratio_holds
returns c = refl
