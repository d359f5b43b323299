-- `demod::ddc` meets its contract. Assumes nothing.
use mathlib.Core.Path.{ap}
use Rattle.chip.specs.InCode.{in_room}
use Rattle.chip.specs.Steps.{run}
use Rattle.device.specs.Accesses.{access_step, demod_write}
use Rattle.demod.specs.Programs.{ddc_steps}
use Rattle.chip.proofs.Laws.{by_entry}
use Rattle.demod.proofs.ddc.Goals as goal

pub returns-clause-room_after : goal.returns-clause-room_after
unfolding run access_step ddc_steps
returns-clause-room_after c = by_entry in_room _ _ _ _ _ (ap (demod_write 1 0x15) c.ddc_byte.ensures) c.one_access.ensures.room_after
