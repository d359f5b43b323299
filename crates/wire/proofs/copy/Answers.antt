-- `wire::copy` meets its contract: the part of `dst` that was overwritten is a run of stores.
-- Assumes nothing.
use Rattle.std.proofs.Common.{arith}
use Rattle.wire.proofs.Stores.{copy_put}
use Rattle.wire.proofs.copy.Goals as goal

pub returns : goal.returns
returns c = grind (arith, copy_put)
