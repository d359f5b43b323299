-- `pasetone::pasetone_set_ppm` meets its contract: it is the call below. Assumes nothing.
use mathlib.Core.Path.{ap, ◌∙◌}
use lib.IntN.{ℤ}
use mir.Facts.{to_z-of_z}
use Rattle.drivers.specs.Drivers.{correct_over}
use Rattle.pasetone.proofs.pasetone_set_ppm.Goals as goal

pub returns : goal.returns
returns c =
    let a = c.args in
    c.set_ppm.ensures ∙ ap (λ (z : ℤ). correct_over z a.tuner.now a.driver.now) (to_z-of_z c.ranges.ppm)
