-- `device::gpio_output` meets its contract. Assumes nothing.
use mathlib.Core.Path.{ap}
use mathlib.Core.List.{map}
use Rattle.chip.specs.InCode.{in_room}
use Rattle.chip.proofs.Laws.{by_program}
use Rattle.device.specs.Accesses.{access_step}
use Rattle.device.specs.Gpio.{output_steps}
use Rattle.device.proofs.gpio_output.Goals as goal

pub returns-clause-room_after : goal.returns-clause-room_after
unfolding output_steps
returns-clause-room_after c = by_program in_room _ _ _ _ _ (ap (map access_step) c.output_rows.ensures) c.access_all.ensures.room_after
