-- `drivers::ready` meets its contract: each return is one case of the definition.
-- Assumes nothing.
use Rattle.std.proofs.Common.{arith}
use Rattle.tuners.proofs.Passed.{all_there, bad_argument, too_short}
use Rattle.drivers.specs.Drivers.{both_ready}
use Rattle.drivers.proofs.Passed.{driver_short, neither_short, tuner_short}
use Rattle.drivers.proofs.ready.Goals as goal

pub returns-then-argument-ne0 : goal.returns-then-argument-ne0
unfolding both_ready
returns-then-argument-ne0 c = bad_argument c.args.argument _ (λ z. omega arith)

pub returns-then-driver-lt-DRIVER : goal.returns-then-driver-lt-DRIVER
unfolding both_ready
returns-then-driver-lt-DRIVER c = let a = c.args in too_short a.argument _ (omega arith) (driver_short a.driver a.tuner (omega arith))

pub returns-then-tuner-lt-TUNER : goal.returns-then-tuner-lt-TUNER
unfolding both_ready
returns-then-tuner-lt-TUNER c =
    let a = c.args in too_short a.argument _ (omega arith) (tuner_short a.driver a.tuner (omega arith) (omega arith))

pub returns : goal.returns
unfolding both_ready
returns c = let a = c.args in all_there a.argument _ (omega arith) (neither_short a.driver a.tuner (omega arith) (omega arith))
