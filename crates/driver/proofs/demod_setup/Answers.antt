-- `driver::demod_setup` meets its contract: three programs one after the other. Assumes nothing.
use native.Mathlib.Omega.{arith}
use mathlib.Core.List.{◌++◌}
use Rattle.chip.specs.InCode.{in_room}
use Rattle.demod.specs.Programs.{if_steps, rate_steps, reset_steps}
use Rattle.chip.proofs.Laws.{then}
use Rattle.driver.proofs.demod_setup.Goals as goal

pub returns : goal.returns
returns c =
    let if-steps = c.if_steps in
    let rate-steps = c.rate_steps-rated in
    let reset-steps = c.reset_steps-reset in
    let args = c.args in record {
      room_after = then in_room _ reset_steps (rate_steps args.rate args.xtal ++ if_steps args.hz args.xtal) _ _ _ reset-steps.ensures.room_after
          (then in_room _ (rate_steps args.rate args.xtal) (if_steps args.hz args.xtal) _ _ _ rate-steps.ensures.room_after if-steps.ensures.room_after);
      bounds = omega (arith, reset-steps.ensures.bounds, rate-steps.ensures.bounds, if-steps.ensures.bounds);
    }
