-- `answers::if_freq_regs` meets its contract: what is lent is the definition's registers.
-- Assumes nothing.
use Prim.Native.Nat.{◌<◌}
use mathlib.Core.Path.{sym, ap, subst, ◌∙◌}
use Rattle.registers.specs.declared.IfRegs.{IfRegs}
use Rattle.refusals.specs.Lent.{lent_to}
use Rattle.answers.proofs.Giving.{if_small}
use Rattle.answers.proofs.if_freq_regs.Goals as goal

pub overflow_cast-regs : goal.overflow_cast-regs
overflow_cast-regs c =
    let a = c.args in
    record { fits = subst (λ (r : IfRegs). r.refusal < 256) (sym c.if_freq_regs-regs.ensures) (if_small a.hz a.xtal) }
