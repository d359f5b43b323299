-- `Driver::rate_refusal` meets its contract. Assumes nothing.
use Prim.Native.Nat.{ℕ}
use mathlib.Core.Path.{ap, ◌∙◌}
use mathlib.Core.Bool.{cond}
use lib.Dec.{eqb}
use mir.Facts.{to_z-of_z}
use mir.Syntax.{w32}
use Rattle.refusals.specs.Table.{TABLE}
use Rattle.registers.specs.Rates.{rate_number}
use Rattle.driver.specs.Record.{xtal_by}
use Rattle.driver.proofs.Driver.rate_refusal.Goals as goal

pub returns : goal.returns
returns c =
    let a = c.args in
    c.rate_argument.ensures
    ∙ ap (λ (n : ℕ). cond (eqb a.planned.refusal TABLE) 19 n)
    (c.rate_number-number.ensures
    ∙ ap (rate_number a.rate)
    (c.xtal_by-corrected.ensures
    ∙ ap (xtal_by a.self.nominal) (to_z-of_z {w = w32} {z = a.self.ppm} (record { sfits = c.struct_told-1.given.1.1.0.1 }))))
