-- `demod::power_steps` meets its contract. Assumes nothing.
use lib.ListN.{replicate}
use Rattle.chip.specs.InCode.{in_room}
use Rattle.device.specs.Accesses.{access_step}
use Rattle.demod.specs.Programs.{power_steps, upward}
use Rattle.chip.proofs.Laws.{then}
use Rattle.demod.proofs.power_steps.Goals as goal

pub returns-clause-room_after : goal.returns-clause-room_after
unfolding access_step power_steps
returns-clause-room_after c =
    then in_room _ power_steps (upward 0x16 (replicate 6 0)) _ _ _ c.access_all-on.ensures.room_after c.write_upward.ensures.room_after
