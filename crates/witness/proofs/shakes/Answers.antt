-- `witness::shakes` meets its contract.
-- Assumes nothing.
use Rattle.evidence.specs.Demodulator.{shakes}
use Rattle.witness.proofs.shakes.Goals as goal

pub returns : goal.returns
unfolding shakes
returns c = rw (c.covers-2.ensures, c.covers.ensures)
