-- `device::gpio_bit` meets its contract. Assumes nothing.
use mathlib.Core.Path.{ap}
use mathlib.Core.List.{map}
use Rattle.chip.specs.InCode.{in_room}
use Rattle.chip.proofs.Laws.{by_program}
use Rattle.device.specs.Accesses.{access_step}
use Rattle.device.specs.Gpio.{bit_steps}
use Rattle.device.proofs.gpio_bit.Goals as goal

pub returns-clause-room_after : goal.returns-clause-room_after
unfolding bit_steps
returns-clause-room_after c = by_program in_room _ _ _ _ _ (ap (map access_step) c.bit_rows.ensures) c.access_all.ensures.room_after
