-- `demod::log_upward` meets its contract. Assumes nothing.
use mathlib.Core.Path.{refl}
use native.Mathlib.Omega.{arith}
use Rattle.chip.specs.InCode.{in_room}
use Rattle.chip.specs.Steps.{run}
use Rattle.device.specs.Accesses.{access_step}
use Rattle.demod.specs.Programs.{upward}
use Rattle.demod.proofs.Upward.{further}
use Rattle.demod.proofs.log_upward.Goals as goal

pub loop-i-init : goal.loop-i-init
unfolding run upward
loop-i-init c = record { bound = omega arith; reached = λ chip. refl }

pub loop-i-preserved : goal.loop-i-preserved
unfolding access_step
loop-i-preserved c =
    record { bound = omega arith; reached = λ chip. further in_room _ _ _ _ _ _ _ (omega arith) (c.loop-i.invariant.reached chip) (c.log_access-l.ensures.room_after chip) }
