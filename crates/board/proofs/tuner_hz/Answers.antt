-- `board::tuner_hz` meets its contract: each return rewrites with the test that led there.
-- Assumes nothing.
use borrow.Author.Tests.{lt-ltb, le-ltb}
use Rattle.board.specs.Plans.{tuner_hz}
use Rattle.board.proofs.tuner_hz.Goals as goal

pub returns-then-hz-lt28800000 : goal.returns-then-hz-lt28800000
unfolding tuner_hz
returns-then-hz-lt28800000 c = simp (lt-ltb _ _ c.if-hz-lt28800000.true)

pub returns : goal.returns
unfolding tuner_hz
returns c = simp (le-ltb _ _ c.if-hz-lt28800000.false)
