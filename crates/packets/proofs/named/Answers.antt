-- `packets::named` meets its contract: the index's high byte picks the case, and the tests in it the kind.
-- Assumes nothing.
use mathlib.Core.Path.{◌≡◌, refl, ◌∙◌}
use mathlib.Core.Bool.{cond}
use lib.Dec.{eqb}
use borrow.Author.Tests.{eq-eqb, ne_eqb}
use Rattle.packets.specs.Heard.{length_in, type_in}
use Rattle.packets.proofs.Reading.{page_named, i2c_named, block_named}
use Rattle.packets.proofs.named.Goals as goal
use Rattle.packets.proofs.named.Goals.{then-n-eq1, else-n-eq1, then-write, else-write, then-not-write, else-not-write+then-n-eq1-2, else-not-write+else-n-eq1-2}

pub returns-then-high-eq0 : goal.returns-then-high-eq0
returns-then-high-eq0 c =
    let n = length_in c.args.w in
    let kind : c.if-n-eq1.kind ≡ cond (eqb n 1) 4 5 =
    elim c.if-n-eq1.branch
    [ then-n-eq1 w ↦ rw (eq-eqb n 1 w.if-n-eq1.true) w.kind-is | else-n-eq1 w ↦ rw (ne_eqb n 1 w.if-n-eq1.false) w.kind-is ] in
    c.step.ensures ∙ page_named c.args.w c.if-n-eq1.kind c.if-high-eq0.true kind

pub returns-then-high-eq6 : goal.returns-then-high-eq6
returns-then-high-eq6 c =
    let t = type_in c.args.w in
    let kind : c.if-write.kind ≡ cond (eqb t 0x40) 2 3 =
    elim c.if-write.branch [ then-write w ↦ rw (eq-eqb t 0x40 w.if-write.true) w.kind-is | else-write w ↦ rw (ne_eqb t 0x40 w.if-write.false) w.kind-is ] in
    c.step-then-high-eq6.ensures ∙ i2c_named c.args.w c.if-write.kind c.if-high-eq0.false c.if-high-eq6.true kind

pub returns : goal.returns
returns c =
    let t = type_in c.args.w in
    let n = length_in c.args.w in
    let kind : c.if-not-write.kind ≡ cond (eqb t 0x40) (cond (eqb n 1) 6 7) 8 =
    elim c.if-not-write.branch [
      | then-not-write w ↦ rw (ne_eqb t 0x40 w.if-not-write.true) w.kind-is
      | else-not-write+then-n-eq1-2 w ↦ rw (eq-eqb t 0x40 w.if-not-write.false, eq-eqb n 1 w.if-n-eq1-2.true) w.kind-is
      | else-not-write+else-n-eq1-2 w ↦ rw (eq-eqb t 0x40 w.if-not-write.false, ne_eqb n 1 w.if-n-eq1-2.false) w.kind-is
    ] in
    c.step-2.ensures ∙ block_named c.args.w (cond (eqb n 1) 6 7) c.if-not-write.kind c.if-high-eq0.false c.if-high-eq6.false refl kind
