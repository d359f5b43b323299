-- `demod::set_sample_rate_xtal` meets its contract: refused by the rate's number, or the call. Assumes nothing.
use mathlib.Core.Path.{sym, ◌∙◌}
use Rattle.demod.specs.Programs.{rate_steps}
use Rattle.registers.proofs.Ratios.{taken}
use Rattle.device.proofs.Free.{accesses_good, argument_bad}
use Rattle.demod.proofs.set_sample_rate_xtal.Goals as goal

pub returns-then-number-ne0 : goal.returns-then-number-ne0
returns-then-number-ne0 c = c.refused.ensures _ ∙ argument_bad _ _ _ _ _ _ _ _ (sym c.rate_number-number.ensures) c.if-number-ne0.true

pub rate_rows-requires : goal.rate_rows-requires
rate_rows-requires c = (taken _ _ (sym c.rate_number-number.ensures ∙ c.if-number-ne0.false)).some

pub returns : goal.returns
unfolding rate_steps
returns c = accesses_good _ _ _ _ _ _ _ _ (sym c.rate_number-number.ensures ∙ c.if-number-ne0.false) c.rate_rows.ensures c.perform.ensures
