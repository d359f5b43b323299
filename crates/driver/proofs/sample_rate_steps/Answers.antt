-- `driver::sample_rate_steps` meets its contract: the tuner, the demodulator, the DDC byte. Assumes nothing.
use native.Mathlib.Omega.{arith}
use mathlib.Core.List.{◌++◌}
use Rattle.chip.specs.InCode.{in_room}
use Rattle.demod.specs.Programs.{ddc_steps}
use Rattle.driver.specs.Programs.{demod_setup, filter_steps}
use Rattle.chip.proofs.Laws.{then}
use Rattle.driver.proofs.sample_rate_steps.Goals as goal

pub returns : goal.returns
returns c =
    let ddc = c.ddc in
    let demod-setup = c.demod_setup-anew in
    let filtered = c.filter_steps-tuned in
    let args = c.args in record {
      room_after = then in_room _ (filter_steps args.hz args.rate) (demod_setup args.hz args.rate args.xtal ++ ddc_steps args.inverted) _ _ _
          filtered.ensures.room_after
          (then in_room _ (demod_setup args.hz args.rate args.xtal) (ddc_steps args.inverted) _ _ _ demod-setup.ensures.room_after ddc.ensures.room_after);
      bounds = omega (arith, filtered.ensures.bounds, demod-setup.ensures.bounds, ddc.ensures.bounds);
    }
