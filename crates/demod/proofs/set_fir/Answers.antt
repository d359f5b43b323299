-- `demod::set_fir` meets its contract: all twenty bytes are written. Assumes nothing.
use mathlib.Core.Path.{ap}
use Rattle.chip.specs.InCode.{in_room}
use Rattle.demod.specs.Programs.{fir_steps, upward}
use Rattle.chip.proofs.Laws.{by_program}
use Rattle.demod.proofs.set_fir.Goals as goal

pub returns-clause-room_after : goal.returns-clause-room_after
unfolding fir_steps
returns-clause-room_after c = by_program in_room _ _ _ _ _ (ap (upward 0x1c) c.default_bytes.ensures) c.write_upward.ensures.room_after
