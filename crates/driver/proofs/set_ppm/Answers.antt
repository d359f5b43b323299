-- `driver::set_ppm` meets its contract: what its three calls give is what the definition leaves and answers. The numbers below zero are read back from their bits.
-- Assumes nothing.
use Rattle.std.proofs.Common.{◌≡◌, ap, ap₂, ◌∙◌, ℤ, [], rules, w32, to_z, of_z}
use mir.Facts.{to_z-of_z}
use Rattle.chip.specs.Calls.{called}
use Rattle.r82xx.specs.Record.{with_corrected}
use Rattle.driver.specs.Calls.{both}
use Rattle.driver.specs.Record.{with_ppm}
use Rattle.driver.specs.InCode.{kept_reference, kept_ppm, correction_answer}
use Rattle.driver.proofs.Corrections.{correction_left}
use Rattle.driver.proofs.set_ppm.Goals as goal

pub returns : goal.returns
returns c =
    let t = c.args.t.now in
    let d = c.args.d.now in
    let was : to_z w32 (of_z w32 d.ppm) ≡ d.ppm = to_z-of_z {w = w32} (search rules) in
    let asked : to_z w32 (of_z w32 c.args.ppm) ≡ c.args.ppm = to_z-of_z {w = w32} c.ranges.ppm in
    let left : to_z w32 (of_z w32 c.kept_ppm-d.result) ≡ c.kept_ppm-d.result = to_z-of_z {w = w32} (record { sfits = c.kept_ppm-d.type_inv }) in
    ap (λ (z : ℤ). called (both (with_corrected t c.kept_reference-t.result) (with_ppm d z)) [] 0 c.correction_answer.result) left
    ∙ correction_left t d c.args.ppm _ _ _
    (c.kept_reference-t.ensures ∙ ap₂ (kept_reference t.nominal t.corrected d.nominal) was asked)
    (c.kept_ppm-d.ensures ∙ ap₂ (kept_ppm t.nominal t.corrected d.nominal) was asked)
    (c.correction_answer.ensures ∙ ap₂ (correction_answer t.nominal t.corrected d.nominal) was asked)
