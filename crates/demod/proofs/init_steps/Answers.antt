-- `demod::init_steps` meets its contract: its three parts. Assumes nothing.
use native.Mathlib.Omega.{arith}
use Rattle.chip.specs.InCode.{in_room}
use Rattle.device.specs.Accesses.{access_step}
use Rattle.demod.specs.Programs.{mode_steps}
use Rattle.demod.proofs.Baseband.{in_three}
use Rattle.demod.proofs.init_steps.Goals as goal

pub returns : goal.returns
unfolding access_step mode_steps
returns c =
    let access-all = c.access_all in
    let set-fir = c.set_fir-filtered in
    let power-steps = c.power_steps-on in record { room_after = in_three in_room _ _ _ _ _ power-steps.ensures.room_after set-fir.ensures.room_after access-all.ensures.room_after; bounds = omega (arith, access-all.ensures.bounds, set-fir.ensures.bounds, power-steps.ensures.bounds) }
