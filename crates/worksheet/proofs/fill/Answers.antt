-- `worksheet::fill` meets its contract: each `return` is the law of its case, and lo·m stays below the oscillator's upper end. Assumes nothing.
use mathlib.Core.Path.{sym, subst}
use Prim.Native.Nat.{◌^◌, ◌<◌}
use native.Mathlib.Omega.{arith}
use Rattle.worksheet.specs.declared.Work.{Work}
use Rattle.worksheet.proofs.Cases.{filled}
use Rattle.worksheet.proofs.Parts.{sum_short, vco_most}
use Rattle.worksheet.proofs.fill.Goals as goal

pub overflow_mul-vco : goal.overflow_mul-vco
overflow_mul-vco c = omega (arith, vco_most _ _ c.divider-m.ensures)

pub overflow_cast-short : goal.overflow_cast-short
overflow_cast-short c = record { fits = subst (λ (w : Work). w.sum < 2 ^ 16) (sym c.summed-end.ensures) (sum_short _ _) }

pub returns : goal.returns
returns c =
    filled _ _ _ _ _ _ c.if-r-eq0.false c.if-m-eq0.false c.divider-m.ensures c.if-n-lt13.false
    (omega (arith, c.if-most-n.false, c.most.ensures)) c.byte-setting.ensures c.summed-end.ensures
