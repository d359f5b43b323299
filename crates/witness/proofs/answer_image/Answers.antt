-- `witness::answer_image` meets its contract: the parts, stored one after the other over 52 bytes, are the answer's.
-- Assumes nothing.
use mathlib.Core.Path.{refl, ap₂, ◌∙◌}
use lib.ListN.{replicate}
use Rattle.witness.specs.Answer.{if_sure}
use Rattle.witness.proofs.Answered.{image_whole, then}
use Rattle.witness.proofs.answer_image.Goals as goal

pub returns : goal.returns
returns c =
    let centre = c.centre_mark-centre.ensures in
    let a = c.args in
    let p1 = then 0 1 c.put.ensures refl refl in
    let p2 = then 1 1 c.put-2.ensures p1 refl in
    let p3 = then 2 1 c.put-3.ensures p2 refl in
    let p4 = then 3 1 c.put-4.ensures p3 refl in
    let p5 = then 4 1 c.put-5.ensures p4 refl in
    let p6 = then 5 1 c.put-6.ensures p5 centre in
    let p7 = then 6 1 c.put-7.ensures p6 c.if_sure.ensures in
    let p8 = then 7 1 c.put-8.ensures p7 refl in
    let p9 = then 8 4 c.put-9.ensures p8 refl in
    let p10 = then 12 4 c.put-10.ensures p9 c.if_sure-2.ensures in
    let p11 = then 16 4 c.put-11.ensures p10 c.if_sure-3.ensures in
    let p12 = then 20 8 c.put-12.ensures p11 c.if_sure-4.ensures in
    let p13 = then 28 8 c.put-13.ensures p12 c.if_sure-5.ensures in
    let p14 = then 36 8 c.put-14.ensures p13 c.if_sure-6.ensures in
    then 44 8 c.put-15.ensures p14 (c.if_sure-7.ensures ∙ ap₂ if_sure centre c.centre_of.ensures)
    ∙ image_whole a.m a.n (replicate 52 0) refl
