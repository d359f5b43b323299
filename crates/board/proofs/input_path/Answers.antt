-- `board::input_path` meets its contract: each return rewrites with the tests that led there.
-- Assumes nothing.
use borrow.Author.Tests.{lt-ltb, le-ltb}
use Rattle.board.specs.Plans.{path_at}
use Rattle.board.proofs.input_path.Goals as goal

pub returns-then-hz-lt28800000 : goal.returns-then-hz-lt28800000
unfolding path_at
returns-then-hz-lt28800000 c = simp (lt-ltb _ _ c.if-hz-lt28800000.true)

pub returns-then-hz-lt250000000 : goal.returns-then-hz-lt250000000
unfolding path_at
returns-then-hz-lt250000000 c = simp (le-ltb _ _ c.if-hz-lt28800000.false, lt-ltb _ _ c.if-hz-lt250000000.true)

pub returns : goal.returns
unfolding path_at
returns c = simp (le-ltb _ _ c.if-hz-lt28800000.false, le-ltb _ _ c.if-hz-lt250000000.false)
