-- `witness::evidence` meets its contract: refused by a reference or by the walk, or the answer that is laid out is lent.
-- Assumes nothing.
use mathlib.Core.Path.{◌∙◌}
use Rattle.sections.specs.Chain.{chain_entries}
use Rattle.restoring.proofs.Settled.{all_good}
use Rattle.witness.proofs.Answered.{answer_same, lends, no_reference, no_section}
use Rattle.witness.proofs.evidence.Goals as goal

pub returns-then-r-xtal : goal.returns-then-r-xtal
returns-then-r-xtal c =
    let a = c.args in
    no_reference a.sections.now a.address a.r a.xtal a.out.now c.if-r-xtal.true

pub returns-then-refusal-ne0 : goal.returns-then-refusal-ne0
returns-then-refusal-ne0 c =
    let a = c.args in
    no_section a.sections.now a.address a.r a.xtal a.out.now c.walked-refusal.result c.if-r-xtal.false c.walked-refusal.ensures.0 c.if-refusal-ne0.true

pub returns : goal.returns
returns c =
    let w = c.walked-refusal in
    let a = c.args in
    let s = a.sections.now in
    let good = all_good s w.result w.ensures.0 c.if-refusal-ne0.false in
    c.lend.ensures
    ∙ lends s a.address a.r a.xtal a.out.now c.answer_image-image.result c.if-r-xtal.false good
    (answer_same a.address (chain_entries s) w.new.seen (w.ensures.1 good) a.r a.xtal c.marks_in-m.result c.numbers_in-n.result
    c.answer_image-image.result
    c.marks_in-m.ensures
    c.numbers_in-n.ensures
    c.answer_image-image.ensures)
