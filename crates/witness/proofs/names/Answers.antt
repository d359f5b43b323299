-- `witness::names` meets its contract.
-- Assumes nothing.
use Rattle.attempts.specs.Attempts.{names}
use Rattle.witness.proofs.names.Goals as goal

pub returns : goal.returns
unfolding names
returns c = rw c.past_of.ensures
