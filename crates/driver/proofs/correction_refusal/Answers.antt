-- `driver::correction_refusal` meets its contract. Each return is one law of the definition, with what the calls before it ensure. Assumes nothing.
use mathlib.Core.Path.{ap, ◌∙◌}
use mir.Facts.{to_z-of_z}
use Rattle.driver.specs.Record.{xtal_by}
use Rattle.driver.proofs.Corrections.{not_taken, not_whole, taken}
use Rattle.driver.proofs.correction_refusal.Goals as goal

pub returns-then-not-whole : goal.returns-then-not-whole
returns-then-not-whole c =
    let a = c.args in
    let f = c.ranges in
    not_whole a.nominal a.corrected a.other a.had a.ppm _ _ c.sound.ensures
    (c.xtal_by.ensures ∙ ap (xtal_by a.other) (to_z-of_z f.had)) (c.if-not-whole.true)

pub returns-then-not-taken : goal.returns-then-not-taken
returns-then-not-taken c =
    let a = c.args in
    let f = c.ranges in
    not_taken a.nominal a.corrected a.other a.had a.ppm _ _ c.sound.ensures
    (c.xtal_by.ensures ∙ ap (xtal_by a.other) (to_z-of_z f.had)) (c.if-not-whole.false) _ _
    (c.xtal_by-2.ensures ∙ ap (xtal_by a.nominal) (to_z-of_z f.ppm)) (c.xtal_by-3.ensures ∙ ap (xtal_by a.other) (to_z-of_z f.ppm))
    (c.if-not-taken.true)

pub returns : goal.returns
returns c =
    let a = c.args in
    let f = c.ranges in
    taken a.nominal a.corrected a.other a.had a.ppm _ _ c.sound.ensures
    (c.xtal_by.ensures ∙ ap (xtal_by a.other) (to_z-of_z f.had)) (c.if-not-whole.false) _ _
    (c.xtal_by-2.ensures ∙ ap (xtal_by a.nominal) (to_z-of_z f.ppm)) (c.xtal_by-3.ensures ∙ ap (xtal_by a.other) (to_z-of_z f.ppm))
    (c.if-not-taken.false)
