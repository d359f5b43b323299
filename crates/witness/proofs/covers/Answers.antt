-- `witness::covers` meets its contract.
-- Assumes nothing.
use mathlib.Core.Path.{refl}
use Rattle.evidence.specs.Demodulator.{covers}
use Rattle.witness.proofs.covers.Goals as goal

pub returns : goal.returns
unfolding covers
returns c = refl
