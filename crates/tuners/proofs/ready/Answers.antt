-- `tuners::ready` meets its contract: each return is one case of the definition.
-- Assumes nothing.
use Rattle.std.proofs.Common.{arith}
use borrow.Author.Tests.{le-ltb, lt-ltb}
use Rattle.tuners.proofs.Passed.{all_there, bad_argument, too_short}
use Rattle.tuners.specs.Over.{ready_of}
use Rattle.tuners.proofs.ready.Goals as goal

pub returns-then-argument-ne0 : goal.returns-then-argument-ne0
unfolding ready_of
returns-then-argument-ne0 c = bad_argument c.args.argument _ (λ z. omega arith)

pub returns-then-next-lt-TUNER : goal.returns-then-next-lt-TUNER
unfolding ready_of
returns-then-next-lt-TUNER c = too_short c.args.argument _ (omega arith) (lt-ltb c.args.next 78 (omega arith))

pub returns : goal.returns
unfolding ready_of
returns c = all_there c.args.argument _ (omega arith) (le-ltb c.args.next 78 (omega arith))
