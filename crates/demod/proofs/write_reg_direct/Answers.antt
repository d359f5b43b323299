-- `demod::write_reg_direct` meets its contract: its accesses are the program. Assumes nothing.
use Rattle.device.specs.Accesses.{access_step}
use Rattle.demod.specs.Programs.{direct_steps}
use Rattle.chip.specs.Courses.{left_by}
use Rattle.device.specs.Calls.{free_result}
use Rattle.demod.proofs.write_reg_direct.Goals as goal

pub returns : goal.returns
unfolding free_result left_by access_step direct_steps
returns c = c.perform.ensures
