-- `device::set_gpio_output` meets its contract: a pin that is refused, or the call. Assumes nothing.
use mathlib.Core.Path.{◌∙◌}
use native.Mathlib.Omega.{arith}
use borrow.Author.Tests.{lt-ltb, le-ltb}
use Rattle.device.specs.Gpio.{output_rows, output_steps}
use Rattle.device.proofs.Free.{argument_bad, accesses_good}
use Rattle.device.proofs.set_gpio_output.Goals as goal

pub returns-then-gpio-gt7 : goal.returns-then-gpio-gt7
returns-then-gpio-gt7 c = c.refused.ensures _ ∙ argument_bad _ _ _ _ _ _ _ 6 (rw (lt-ltb 7 _ c.if-gpio-gt7.true)) (λ e. omega arith)

pub returns : goal.returns
unfolding output_steps
returns c =
    accesses_good _ _ _ _ _ _ _ _ (rw (le-ltb 7 _ c.if-gpio-gt7.false))
    (c.output_rows-rows.ensures ∙ (λ i. output_rows c.args.gpio (c.reply-a.ensures i) (c.reply-b.ensures i))) c.perform.ensures
