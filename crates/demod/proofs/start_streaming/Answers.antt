-- `demod::start_streaming` meets its contract: its accesses are the program. Assumes nothing.
use Rattle.device.specs.Accesses.{access_step}
use Rattle.demod.specs.Programs.{start_steps}
use Rattle.chip.specs.Courses.{left_by}
use Rattle.device.specs.Calls.{free_result}
use Rattle.demod.proofs.start_streaming.Goals as goal

pub returns : goal.returns
unfolding free_result left_by access_step start_steps
returns c = c.perform.ensures
