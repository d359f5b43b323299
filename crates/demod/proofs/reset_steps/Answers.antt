-- `demod::reset_steps` meets its contract: its accesses are the program. Assumes nothing.
use Rattle.device.specs.Accesses.{access_step}
use Rattle.demod.specs.Programs.{reset_steps}
use Rattle.demod.proofs.reset_steps.Goals as goal

pub returns-clause-room_after : goal.returns-clause-room_after
unfolding access_step reset_steps
returns-clause-room_after c = c.access_all.ensures.room_after
