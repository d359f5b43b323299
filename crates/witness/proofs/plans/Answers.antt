-- `witness::plans` meets its contract.
-- Assumes nothing.
use Rattle.witness.proofs.plans.Goals as goal

pub returns : goal.returns
returns c = rw (c.names-4.ensures, c.names-3.ensures, c.names-2.ensures, c.names.ensures)
