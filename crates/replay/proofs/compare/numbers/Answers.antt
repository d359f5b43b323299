-- `compare::numbers` says true only where all four numbers are the case's. Assumes nothing.
use Rattle.replay.proofs.Truth.{never}
use Rattle.replay.proofs.compare.numbers.Goals as goal

pub returns-then-one-a : goal.returns-then-one-a
returns-then-one-a c = never

pub returns-then-eight-a : goal.returns-then-eight-a
returns-then-eight-a c = never

pub returns-then-two-a : goal.returns-then-two-a
returns-then-two-a c = never

pub returns-then-two-a-2 : goal.returns-then-two-a-2
returns-then-two-a-2 c = never
