-- `witness::noted_at` meets its contract: what the entry says of the slot is marked, and where it says nothing nothing is.
-- Assumes nothing.
use Prim.Native.Nat.{ℕ}
use mathlib.Core.Path.{ap, ◌∙◌}
use Rattle.restoring.specs.Standing.{known_as, only, over}
use Rattle.evidence.specs.Demodulator.{covers, demod_sent, place}
use Rattle.witness.proofs.Slots.{said, unsaid}
use Rattle.witness.proofs.noted_at.Goals as goal

pub returns-then-named-shaken : goal.returns-then-named-shaken
returns-then-named-shaken c =
    let a = c.args in
    let p = c.requires in
    let is = c.place_of-register.ensures in
    said a.e a.k c.byte_for-byte.result a.done a.known.now _ c.covers-named.result a.shaken p.0.1.0 p.0.1.1
    (c.covers-named.ensures ∙ ap (λ (r : ℕ). covers 4 a.e (place 1 r)) is)
    p.1.0
    c.if-named-shaken.true
    p.1.1
    (c.byte_for-byte.ensures ∙ ap (λ (r : ℕ). demod_sent a.e (place 1 r)) is)
    (c.marked.ensures ∙ ap (λ (m : ℕ). over (only a.k (known_as m c.byte_for-byte.result)) 0 a.known.now) c.mark_of-mark.ensures)

pub returns-else-named-shaken : goal.returns-else-named-shaken
returns-else-named-shaken c =
    let a = c.args in
    let p = c.requires in
    unsaid a.e a.k a.known.now c.covers-named.result a.shaken p.0.1.0 p.0.1.1
    (c.covers-named.ensures ∙ ap (λ (r : ℕ). covers 4 a.e (place 1 r)) c.place_of-register.ensures)
    p.1.0
    c.if-named-shaken.false
