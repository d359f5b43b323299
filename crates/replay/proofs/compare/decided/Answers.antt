-- `compare::decided` says Same only where it was told so. Assumes nothing.
use Rattle.replay.proofs.compare.decided.Goals as goal

pub returns : goal.returns
returns c = λ e. cc
