-- `Driver::corrected_xtal_hz` meets its contract. Assumes nothing.
use mathlib.Core.Path.{ap, ◌∙◌}
use mir.Facts.{to_z-of_z}
use mir.Syntax.{w32}
use Rattle.driver.specs.Record.{xtal_by}
use Rattle.driver.proofs.Making.{xtal_refused, xtal_told}
use Rattle.driver.proofs.Driver.corrected_xtal_hz.Goals as goal

pub returns-then-xtal-lt1 : goal.returns-then-xtal-lt1
returns-then-xtal-lt1 c =
    let args = c.args in
    xtal_refused _ _
    (c.xtal_by-xtal.ensures
    ∙ ap (xtal_by args.self.nominal) (to_z-of_z {w = w32} {z = args.self.ppm} (record { sfits = c.struct_told-1.given.1.1.0.1 })))
    c.if-xtal-lt1.true

pub returns : goal.returns
returns c =
    let args = c.args in
    xtal_told _ _
    (c.xtal_by-xtal.ensures
    ∙ ap (xtal_by args.self.nominal) (to_z-of_z {w = w32} {z = args.self.ppm} (record { sfits = c.struct_told-1.given.1.1.0.1 })))
    c.if-xtal-lt1.false
