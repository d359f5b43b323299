-- `demod::set_if_freq_xtal` meets its contract: refused for reference 0, or the call. Assumes nothing.
use native.Mathlib.Omega.{arith}
use borrow.Author.Tests.{eq-eqb, ne_eqb}
use Rattle.demod.specs.Programs.{if_steps}
use Rattle.device.proofs.Free.{accesses_good, argument_bad}
use mathlib.Core.Path.{◌∙◌}
use Rattle.demod.proofs.set_if_freq_xtal.Goals as goal

pub returns-then-xtal-eq0 : goal.returns-then-xtal-eq0
returns-then-xtal-eq0 c = c.refused.ensures _ ∙ argument_bad _ _ _ _ _ _ _ 4 (rw (eq-eqb _ 0 c.if-xtal-eq0.true)) (λ e. omega arith)

pub returns : goal.returns
unfolding if_steps
returns c = accesses_good _ _ _ _ _ _ _ _ (rw (ne_eqb _ 0 c.if-xtal-eq0.false)) c.if_rows.ensures c.perform.ensures
