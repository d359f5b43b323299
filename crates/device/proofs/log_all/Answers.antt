-- `device::log_all` meets its contract. Assumes nothing.
use mathlib.Core.Path.{refl}
use native.Mathlib.Omega.{arith}
use Rattle.chip.specs.InCode.{in_room}
use Rattle.chip.specs.Steps.{run}
use Rattle.device.proofs.Programs.{further}
use Rattle.device.proofs.log_all.Goals as goal

pub loop-a-init : goal.loop-a-init
unfolding run
loop-a-init c = record { bound = omega arith; reached = λ chip. refl }

pub loop-a-preserved : goal.loop-a-preserved
loop-a-preserved c =
    record { bound = omega arith; reached = λ chip. further in_room _ _ _ _ _ _ _ (omega arith) (c.loop-a.invariant.reached chip) (c.log_access-l.ensures.room_after chip) }
