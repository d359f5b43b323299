-- `driver::path_steps` meets its contract: GPIO 5, then the tuner. Assumes nothing.
use native.Mathlib.Omega.{arith}
use mathlib.Core.Path.{ap}
use mathlib.Core.List.{◌++◌}
use lib.ListN.{get_or}
use Rattle.chip.specs.InCode.{in_room}
use Rattle.device.specs.Gpio.{bit_steps, output_steps}
use Rattle.driver.specs.Programs.{level_for, tuner_path}
use Prim.Native.Nat.{ℕ}
use Rattle.chip.proofs.Laws.{by_program, then}
use Rattle.driver.proofs.path_steps.Goals as goal

pub tuner_path-requires : goal.tuner_path-requires
tuner_path-requires c =
    let gpio-bit = c.gpio_bit-switched in
    let gpio-output = c.gpio_output-driven in
    let pre = c.requires in
    omega (arith, gpio-output.ensures.bounds, gpio-output.auto, gpio-bit.ensures.bounds, gpio-bit.auto, pre.1, pre.2)

pub returns : goal.returns
returns c =
    let tuner-path = c.tuner_path in
    let gpio-bit = c.gpio_bit-switched in
    let gpio-output = c.gpio_output-driven in
    let args = c.args in
    let the-tuner-path = tuner_path args.kind args.path in
    let replies = args.replies.now in
    let get-d = get_or replies 2 0 in record {
      room_after = then in_room _ (output_steps 5 (get_or replies 0 0) (get_or replies 1 0)) (bit_steps 5 (level_for args.path) get-d ++ the-tuner-path) _ _ _
          gpio-output.ensures.room_after
          (then in_room _ (bit_steps 5 (level_for args.path) get-d) the-tuner-path _ _ _
          (by_program in_room _ _ _ _ _ (ap (λ (x : ℕ). bit_steps 5 x get-d) c.level.ensures) gpio-bit.ensures.room_after) tuner-path.ensures.room_after);
      bounds = omega (arith, gpio-output.ensures.bounds, gpio-bit.ensures.bounds, tuner-path.ensures.bounds);
    }
