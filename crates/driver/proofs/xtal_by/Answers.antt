-- `driver::xtal_by` meets its contract: the corrected reference, or 0. Assumes nothing.
use Rattle.std.proofs.Common.{ap, ◌∙◌}
use Rattle.std.proofs.Math.Facts.{to_z-of_z}
use Rattle.std.specs.Option.{unwrap_or}
use Rattle.reference.specs.Correct.{corrected_of}
use Rattle.driver.specs.Record.{xtal_by}
use Rattle.driver.proofs.xtal_by.Goals as goal

pub returns : goal.returns
unfolding xtal_by
returns c =
    let given = c.args in
    c.unwrap_or.ensures ∙ ap (λ x. unwrap_or x 0) (c.correct.ensures ∙ ap (corrected_of given.nominal) (to_z-of_z c.ranges.ppm))
