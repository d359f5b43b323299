-- `device::set_gpio_bit` meets its contract: a pin that is refused, or the call. Assumes nothing.
use mathlib.Core.Path.{ap, ◌∙◌}
use native.Mathlib.Omega.{arith}
use borrow.Author.Tests.{lt-ltb, le-ltb}
use Rattle.device.specs.Gpio.{bit_rows, bit_steps}
use Rattle.device.proofs.Free.{argument_bad, accesses_good}
use Rattle.device.proofs.set_gpio_bit.Goals as goal

pub returns-then-gpio-gt7 : goal.returns-then-gpio-gt7
returns-then-gpio-gt7 c = c.refused.ensures _ ∙ argument_bad _ _ _ _ _ _ _ 6 (rw (lt-ltb 7 _ c.if-gpio-gt7.true)) (λ e. omega arith)

pub returns : goal.returns
unfolding bit_steps
returns c =
    let args = c.args in
    accesses_good _ _ _ _ _ _ _ _ (rw (le-ltb 7 _ c.if-gpio-gt7.false)) (c.bit_rows-rows.ensures ∙ ap (bit_rows args.gpio args.value) c.reply.ensures) c.perform.ensures
