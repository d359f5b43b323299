-- `answers::resample_regs` meets its contract: what is lent is the definition's registers.
-- Assumes nothing.
use Prim.Native.Nat.{◌<◌}
use mathlib.Core.Path.{sym, ap, subst, ◌∙◌}
use Rattle.registers.specs.declared.ResampleRegs.{ResampleRegs}
use Rattle.refusals.specs.Lent.{lent_to}
use Rattle.answers.proofs.Giving.{resample_small}
use Rattle.answers.proofs.resample_regs.Goals as goal

pub overflow_cast-regs : goal.overflow_cast-regs
overflow_cast-regs c =
    let a = c.args in
    record { fits = subst (λ (r : ResampleRegs). r.refusal < 256) (sym c.resample_regs-regs.ensures) (resample_small a.rate a.xtal) }
