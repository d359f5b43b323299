-- `wire::put` meets its contract. The loop's invariant: storing the bytes that are left gives what storing all of them gave.
-- Assumes nothing.
use mathlib.Core.Path.{refl, ◌∙◌}
use native.Mathlib.Omega.{arith}
use borrow.Author.Rules.{rules}
use Rattle.wire.proofs.Stores.{put_turn, put_start, put_end}
use Rattle.wire.proofs.put.Goals as goal

pub loop-i-preserved : goal.loop-i-preserved
loop-i-preserved c = (omega arith, (search rules, put_turn _ _ _ _ _ (search rules) ∙ c.loop-i.invariant.1.1))

pub returns : goal.returns
returns c = put_end _ _ _ _ _ (omega arith) ∙ c.loop-i.invariant.1.1
