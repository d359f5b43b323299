-- `driver::correction_answer` meets its contract. Each return is one law of the definition, with what the calls before it ensure. Assumes nothing.
use mathlib.Core.Path.{◌∙◌}
use native.Mathlib.Omega.{arith}
use mir.Facts.{to_z-of_z}
use Rattle.driver.specs.InCode.{correction_refusal}
use Rattle.driver.proofs.Corrections.{answers_no, answers_yes}
use Rattle.driver.proofs.correction_answer.Goals as goal

pub returns-then-number-ne0 : goal.returns-then-number-ne0
returns-then-number-ne0 c =
    let a = c.args in
    let f = c.ranges in
    answers_no a.nominal a.corrected a.other a.had a.ppm _
    (c.correction_refusal-number.ensures
    ∙ (λ i. correction_refusal a.nominal a.corrected a.other (to_z-of_z f.had i) (to_z-of_z f.ppm i))) (λ z. omega arith)

pub returns : goal.returns
returns c =
    let a = c.args in
    let f = c.ranges in
    answers_yes a.nominal a.corrected a.other a.had a.ppm _
    (c.correction_refusal-number.ensures
    ∙ (λ i. correction_refusal a.nominal a.corrected a.other (to_z-of_z f.had i) (to_z-of_z f.ppm i))) (omega arith)
