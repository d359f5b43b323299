-- `layout::number` meets its contract: the bytes are there, or it answers 0. Assumes nothing.
use Rattle.std.proofs.Common.{rules, le-leb}
use borrow.Author.Tests.{lt-leb}
use native.Mathlib.Nat.{one-le-pow}
use Rattle.replay.specs.Agreement.{number_at}
use Rattle.replay.proofs.layout.number.Goals as goal

pub returns-then-at-k : goal.returns-then-at-k
unfolding number_at
returns-then-at-k c = (simp (le-leb _ _ c.if-at-k.true) c.get.ensures.0, c.get.ensures.1)

pub returns : goal.returns
unfolding number_at
returns c = (simp (lt-leb _ _ c.if-at-k.false), one-le-pow _ 256 (search rules))
