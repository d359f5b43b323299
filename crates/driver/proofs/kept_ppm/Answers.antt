-- `driver::kept_ppm` meets its contract. Each return is one law of the definition, with what the calls before it ensure. Assumes nothing.
use mathlib.Core.Path.{◌∙◌}
use native.Mathlib.Omega.{arith}
use mir.Facts.{to_z-of_z}
use Rattle.driver.specs.InCode.{correction_refusal}
use Rattle.driver.proofs.Corrections.{ppm_changes, ppm_stays}
use Rattle.driver.proofs.kept_ppm.Goals as goal

pub returns-then-correction_refusal-ne0 : goal.returns-then-correction_refusal-ne0
returns-then-correction_refusal-ne0 c =
    let a = c.args in
    let f = c.ranges in
    to_z-of_z f.had
    ∙ ppm_stays a.nominal a.corrected a.other a.had a.ppm _
    (c.correction_refusal.ensures
    ∙ (λ i. correction_refusal a.nominal a.corrected a.other (to_z-of_z f.had i) (to_z-of_z f.ppm i))) (λ z. omega arith)

pub returns : goal.returns
returns c =
    let a = c.args in
    let f = c.ranges in
    to_z-of_z f.ppm
    ∙ ppm_changes a.nominal a.corrected a.other a.had a.ppm _
    (c.correction_refusal.ensures
    ∙ (λ i. correction_refusal a.nominal a.corrected a.other (to_z-of_z f.had i) (to_z-of_z f.ppm i))) (omega arith)
