-- The summary of older entries tells what they tell, and idle entries may be left out of newer ones where what they did to the demodulator is summed up
-- behind. Assumes nothing.
use Prim.Native.Nat.{ℕ, ◌+◌, ◌≤◌}
use mathlib.Core.Path.{◌≡◌, refl, sym, ap, ◌∙◌}
use mathlib.Core.Bool.{Bool, true, false, cond, not, ◌&&◌, ◌||◌, or-true, true≢false}
use mathlib.Core.List.{List, [], ◌∷◌, ◌++◌}
use native.Mathlib.Omega.{arith}
use native.Mathlib.Nat.{sub_self}
use borrow.Author.Tests.{eq-eqb, eqb-false, eqb-true, le-leb, leb-true, le-ltb, lt-ltb, not-true}
use lib.Dec.{eqb, leb, ltb}
use Rattle.transcript.specs.declared.Entry.{Entry}
use Rattle.attempts.specs.Attempts as chip
use Rattle.attempts.specs.Attempts.{names, tuner_at}
use Rattle.attempts.specs.Namings.{Last, Naming, last_by, last_from, last_in}
use Rattle.attempts.specs.Namings.Last.{Never, Tried}
use Rattle.attempts.proofs.Lasts.{known, last_append, last_known}
use Rattle.chip.proofs.Laws.{and_left, and_right}
use Rattle.evidence.specs.Alike.{Agree, SameLasts, demod_places}
use Rattle.evidence.specs.Cuts.{among}
use Rattle.evidence.specs.Demodulator.{Place, covers, demod_names, demod_settles, demodulator, last_at, place, shakes}
use Rattle.evidence.specs.Evidence.{lock_from, lock_mark, oscillator, planned, touches, tries_from, tries_of, try_of}
use Rattle.evidence.specs.Summary.{Dropped, attempt, attempts, chip_one, demod_one, demod_summary, idle, summary}
use Rattle.evidence.specs.Summary.Dropped.{none, kept, left}
use Rattle.evidence.proofs.Cuts.{touches_among}
use Rattle.evidence.proofs.Heard.{Heard, heard, heard_append, heard_by, heard_from, planned_too}

-- an order of numbers: the same, or on one side of it
apart : (q r : ℕ) → eqb q r ≡ false → (leb q r && ltb r (q + 1)) ≡ false
apart q r h = go (leb q r) refl
  where
    go : (b : Bool) → leb q r ≡ b → (leb q r && ltb r (q + 1)) ≡ false
    go true e =
        let less : q + 1 ≤ r = omega (arith, leb-true q r e, eqb-false q r h) in
        rw (e, le-ltb r (q + 1) less)
    go false e = rw e

together : (r : ℕ) → (leb r r && ltb r (r + 1)) ≡ true
together r = rw (le-leb r r (omega arith), lt-ltb r (r + 1) (omega arith))

-- ---- one write names one register, of any naming

module _ {P : Type 0} (any : Naming P) (at : ℕ → P) (write : ℕ → ℕ → Bool → Entry) where
  -- the write of q says this of r
  One : ℕ → Type 0
  One q = (r byte : ℕ) (ok : Bool) (l : Last) → last_by any (write q byte ok) (at r) l ≡ cond (eqb q r) (Tried byte ok) l

  abbrev Ones : List ℕ → Type 0
  Ones [] = Unit {0}
  Ones (q ∷ qs) = One q × Ones qs

  -- one attempt, or none
  attempt_says : (q : ℕ) → One q → (x : Last) (r : ℕ) (l : Last) → last_from any l (attempt write q x) (at r) ≡ cond (eqb q r) (known x l) l
  unfolding last_from One
  attempt_says q one Never r l = go (eqb q r)
    where
      go : (b : Bool) → l ≡ cond b l l
      go true = refl
      go false = refl
  attempt_says q one (Tried byte ok) r l = one r byte ok l

  known_twice : (x l : Last) → known x (known x l) ≡ known x l
  known_twice Never l = refl
  known_twice (Tried byte ok) l = refl

  attempts_say : (f : ℕ → Last) (qs : List ℕ) → Ones qs → (r : ℕ) (l : Last) → last_from any l (attempts write f qs) (at r) ≡ cond (among r qs) (known (f r) l) l
  unfolding last_from
  attempts_say f [] ones r l = refl
  attempts_say f (q ∷ qs) ones r l =
      last_append any l (attempt write q (f q)) (attempts write f qs) (at r)
      ∙ ap (λ (m : Last). last_from any m (attempts write f qs) (at r)) (attempt_says q ones.0 (f q) r l)
      ∙ go (eqb q r) refl (attempts_say f qs ones.1 r)
    where
      go : (b : Bool) → eqb q r ≡ b → ((m : Last) → last_from any m (attempts write f qs) (at r) ≡ cond (among r qs) (known (f r) m) m)
          → last_from any (cond (eqb q r) (known (f q) l) l) (attempts write f qs) (at r) ≡ cond (eqb q r || among r qs) (known (f r) l) l
      go true e ih =
          let same : f q ≡ f r = ap f (eqb-true q r e) in
          rw (e, same) (ih (known (f r) l) ∙ by (among r qs))
        where
          by : (b : Bool) → cond b (known (f r) (known (f r) l)) (known (f r) l) ≡ known (f r) l
          by true = known_twice (f r) l
          by false = refl
      go false e ih = rw e (ih l)

-- ---- the chip's and the demodulator's

chip_one_lem : (address q : ℕ) → One (tuner_at address) (λ r. r) (chip_one address) q
unfolding One names
chip_one_lem address q r byte ok l = go (eqb q r) refl
  where
    settled : (ok : Bool) → eqb (chip_one address q byte ok).outcome 0 ≡ ok
    settled true = refl
    settled false = refl

    go : (b : Bool) → eqb q r ≡ b → last_by (tuner_at address) (chip_one address q byte ok) r l ≡ cond (eqb q r) (Tried byte ok) l
    go true e =
        let same : q ≡ r = eqb-true q r e in
        rw (e, same, eq-eqb address address refl, together r, sub_self r, settled ok)
    go false e = rw (e, eq-eqb address address refl, apart q r e)

-- of a register that is neither the reset's nor past 0xff
demod_one_lem : (q : ℕ) → ((byte : ℕ) (ok : Bool) → shakes (demod_one q byte ok) ≡ false) → One demodulator (place 1) demod_one q
unfolding One demod_names demod_settles covers
demod_one_lem q calm r byte ok l = go (eqb q r) refl ok (calm byte ok)
  where
    go : (b : Bool) → eqb q r ≡ b → (ok : Bool) → shakes (demod_one q byte ok) ≡ false → last_by demodulator (demod_one q byte ok) (place 1 r) l ≡ cond (eqb q r) (Tried byte ok) l
    go true e true still = rw (e, still, eqb-true q r e, together r, sub_self r)
    go true e false still = rw (e, still, eqb-true q r e, together r, sub_self r)
    go false e ok still = rw (e, still, apart q r e)

-- each of the eight
calm_places : Ones demodulator (place 1) demod_one demod_places
unfolding shakes covers
calm_places = (
  demod_one_lem 0x15 (λ byte ok. refl),
  (
    demod_one_lem 0x19 (λ byte ok. refl),
    (
      demod_one_lem 0x1a (λ byte ok. refl),
      (
        demod_one_lem 0x1b (λ byte ok. refl),
        (demod_one_lem 0x9f (λ byte ok. refl), (demod_one_lem 0xa0 (λ byte ok. refl), (demod_one_lem 0xa1 (λ byte ok. refl), (demod_one_lem 0xa2 (λ byte ok. refl), tt)))),
      ),
    ),
  ),
)

chip_ones : (address : ℕ) (qs : List ℕ) → Ones (tuner_at address) (λ r. r) (chip_one address) qs
chip_ones address [] = tt
chip_ones address (q ∷ qs) = (chip_one_lem address q, chip_ones address qs)

-- the writes of one chip say nothing of the other's registers
module _ {P : Type 0} (any : Naming P) (write : ℕ → ℕ → Bool → Entry) (p : P) (quiet : (q byte : ℕ) (ok : Bool) → any.named (write q byte ok) p ≡ false) where
  quiet_one : (q : ℕ) (x l : Last) → last_from any l (attempt write q x) p ≡ l
  unfolding last_from
  quiet_one q Never l = refl
  quiet_one q (Tried byte ok) l = rw (quiet q byte ok)

  quiet_all : (f : ℕ → Last) (qs : List ℕ) (l : Last) → last_from any l (attempts write f qs) p ≡ l
  unfolding last_from
  quiet_all f [] l = refl
  quiet_all f (q ∷ qs) l =
      last_append any l (attempt write q (f q)) (attempts write f qs) p
      ∙ ap (λ (m : Last). last_from any m (attempts write f qs) p) (quiet_one q (f q) l)
      ∙ quiet_all f qs l

chip_quiet : (address r q byte : ℕ) (ok : Bool) → names address (demod_one q byte ok) r ≡ false
unfolding names
chip_quiet address r q byte ok = refl

demod_quiet : (address r q byte : ℕ) (ok : Bool) → demod_names (chip_one address q byte ok) (place 1 r) ≡ false
unfolding demod_names covers shakes
demod_quiet address r q byte ok = refl

known_never : (x : Last) → known x Never ≡ x
known_never Never = refl
known_never (Tried byte ok) = refl

-- after some entries, the eight once more
demod_again : (es ks : List Entry) (r : ℕ) → among r demod_places ≡ true → last_at (ks ++ demod_summary es) r ≡ known (last_at es r) (last_at ks r)
demod_again es ks r h =
    last_append demodulator Never ks (demod_summary es) (place 1 r)
    ∙ attempts_say demodulator (place 1) demod_one (last_at es) demod_places calm_places r (last_at ks r)
    ∙ ap (λ (b : Bool). cond b (known (last_at es r) (last_at ks r)) (last_at ks r)) h

module _ (address : ℕ) (es : List Entry) where
  chip_part : List Entry
  chip_part = attempts (chip_one address) (chip.last_in address es) oscillator

  chip_told : (r : ℕ) → among r oscillator ≡ true → chip.last_in address (summary address es) r ≡ chip.last_in address es r
  chip_told r h =
      last_append (tuner_at address) Never (attempts (chip_one address) (chip.last_in address es) oscillator) (demod_summary es) r
      ∙ quiet_all (tuner_at address) demod_one r (chip_quiet address r) (last_at es) demod_places _
      ∙ attempts_say (tuner_at address) (λ q. q) (chip_one address) (chip.last_in address es) oscillator (chip_ones address oscillator) r Never
      ∙ ap (λ (b : Bool). cond b (known (chip.last_in address es r) Never) Never) h
      ∙ known_never (chip.last_in address es r)

  demod_told : (r : ℕ) → among r demod_places ≡ true → last_at (summary address es) r ≡ last_at es r
  demod_told r h =
      demod_again es (attempts (chip_one address) (chip.last_in address es) oscillator) r h
      ∙ ap (known (last_at es r)) (quiet_all demodulator (chip_one address) (place 1 r) (demod_quiet address r) (chip.last_in address es) oscillator Never)
      ∙ known_never (last_at es r)

-- what holds of each place among some
agree_by : (f g : ℕ → Last) (qs : List ℕ) → ((r : ℕ) → among r qs ≡ true → f r ≡ g r) → Agree f g qs
agree_by f g [] h = tt
agree_by f g (q ∷ qs) h = (h q (rw (eq-eqb q q refl)), agree_by f g qs (λ r p. h r (rw p (or-true (eqb q r)))))

-- the summary leaves the same last attempts
pub summed : (address : ℕ) (es : List Entry) → SameLasts address (summary address es) es
summed address es =
    record {
      chip = agree_by (chip.last_in address (summary address es)) (chip.last_in address es) oscillator (chip_told address es);
      demod = agree_by (last_at (summary address es)) (last_at es) demod_places (demod_told address es);
    }

-- ---- idle entries left out

abbrev heard_of : Last → Bool
heard_of Never = false
heard_of (Tried byte ok) = true

module _ (address : ℕ) where
  idle_touches : (e : Entry) → idle address e ≡ true → touches address oscillator e ≡ false
  idle_touches e h = not-true (touches address oscillator e) (and_left (not (touches address oscillator e)) (not (try_of address e)) h)

  idle_try : (e : Entry) → idle address e ≡ true → try_of address e ≡ false
  idle_try e h = not-true (try_of address e) (and_right (not (touches address oscillator e)) (not (try_of address e)) h)

  idle_planned : (e : Entry) → idle address e ≡ true → touches address planned e ≡ false
  idle_planned e h = go (touches address planned e) refl
    where
      go : (b : Bool) → touches address planned e ≡ b → touches address planned e ≡ false
      go true t = absurd (true≢false (sym (planned_too address e t) ∙ idle_touches e h))
      go false t = t

  idle_heard : (e : Entry) → idle address e ≡ true → (h : Heard) → heard_by address e h ≡ h
  idle_heard e i h = rw (idle_touches e i, idle_planned e i, idle_try e i)

  -- one among some that are not named is not
  unnamed : (e : Entry) (r : ℕ) (qs : List ℕ) → among r qs ≡ true → touches address qs e ≡ false → names address e r ≡ false
  unnamed e r qs h t = go (names address e r) refl
    where
      go : (b : Bool) → names address e r ≡ b → names address e r ≡ false
      go true n = absurd (true≢false (sym (touches_among address r e n qs h) ∙ t))
      go false n = n

  dropped_heard : (ws ks : List Entry) → Dropped address ws ks → (h : Heard) → heard_from address h ws ≡ heard_from address h ks
  unfolding lock_from tries_from
  dropped_heard ws ks none h = refl
  dropped_heard ws ks (kept e vs js d) h = dropped_heard vs js d (heard_by address e h)
  dropped_heard ws ks (left e vs js d i) h = ap (λ (g : Heard). heard_from address g vs) (idle_heard e i h) ∙ dropped_heard vs ks d h

  dropped_chip : (r : ℕ) → among r oscillator ≡ true → (ws ks : List Entry) → Dropped address ws ks → (l : Last)
      → chip.last_from address l ws r ≡ chip.last_from address l ks r
  unfolding last_from
  dropped_chip r h ws ks none l = refl
  dropped_chip r h ws ks (kept e vs js d) l = dropped_chip r h vs js d (chip.last_by address e r l)
  dropped_chip r h ws ks (left e vs js d i) l =
      ap (λ (b : Bool). chip.last_from address (cond b (Tried ((tuner_at address).sent e r) ((tuner_at address).settles e)) l) vs r) (unnamed e r oscillator h (idle_touches e i))
      ∙ dropped_chip r h vs ks d l

  tried_stays : (ks : List Entry) (q : Place) (byte : ℕ) (ok : Bool) → last_from demodulator (Tried byte ok) ks q ≡ Never → ⊥
  tried_stays ks q byte ok h = go (last_in demodulator ks q) (sym (last_known demodulator (Tried byte ok) ks q) ∙ h)
    where
      go : (x : Last) → known x (Tried byte ok) ≡ Never → ⊥
      go Never e = true≢false (ap heard_of e)
      go (Tried b o) e = true≢false (ap heard_of e)

  -- what was never attempted among all was never attempted among some of them
  dropped_never : (q : Place) (ws ks : List Entry) → Dropped address ws ks → (l : Last) → last_from demodulator l ws q ≡ Never → last_from demodulator l ks q ≡ Never
  unfolding last_from
  dropped_never q ws ks none l h = h
  dropped_never q ws ks (kept e vs js d) l h = dropped_never q vs js d (last_by demodulator e q l) h
  dropped_never q ws ks (left e vs js d i) l h = go (demod_names e q) refl (dropped_never q vs ks d (last_by demodulator e q l) h)
    where
      go : (b : Bool) → demod_names e q ≡ b → last_from demodulator (last_by demodulator e q l) ks q ≡ Never → last_from demodulator l ks q ≡ Never
      go true t k = absurd (tried_stays ks q (demodulator.sent e q) (demodulator.settles e) (rw t at k))
      go false t k = rw t at k

  summary_heard : (f : ℕ → Last) (qs : List ℕ) (h : Heard) → heard_from address h (attempts demod_one f qs) ≡ h
  unfolding lock_from tries_from names
  summary_heard f [] h = refl
  summary_heard f (q ∷ qs) h = go (f q) (summary_heard f qs h)
    where
      go : (x : Last) → heard_from address h (attempts demod_one f qs) ≡ h → heard_from address h (attempt demod_one q x ++ attempts demod_one f qs) ≡ h
      go Never ih = ih
      go (Tried byte ok) ih = ih

  module _ (ws ks : List Entry) (d : Dropped address ws ks) where
    abbrev some : List Entry
    some = ks ++ demod_summary ws

    folded_demod : (r : ℕ) → among r demod_places ≡ true → last_at some r ≡ last_at ws r
    folded_demod r h = demod_again ws ks r h ∙ go (last_at ws r) refl
      where
        go : (x : Last) → last_at ws r ≡ x → known (last_at ws r) (last_at ks r) ≡ last_at ws r
        go Never e = rw e (dropped_never (place 1 r) ws ks d Never e)
        go (Tried byte ok) e = rw e

    folded_chip : (r : ℕ) → among r oscillator ≡ true → chip.last_in address some r ≡ chip.last_in address ws r
    folded_chip r h =
        last_append (tuner_at address) Never ks (demod_summary ws) r
        ∙ quiet_all (tuner_at address) demod_one r (chip_quiet address r) (last_at ws) demod_places (chip.last_in address ks r)
        ∙ sym (dropped_chip r h ws ks d Never)

    -- and what is left, with the demodulator's summary behind it, tells all that they told
    pub folded : SameLasts address some ws × (lock_mark address some ≡ lock_mark address ws) × (tries_of address some ≡ tries_of address ws)
    folded =
        let same : heard_from address (heard 0 0) some ≡ heard_from address (heard 0 0) ws =
        heard_append address (heard 0 0) ks (demod_summary ws)
        ∙ summary_heard (last_at ws) demod_places (heard_from address (heard 0 0) ks)
        ∙ sym (dropped_heard ws ks d (heard 0 0)) in (
          record {
            chip = agree_by (chip.last_in address some) (chip.last_in address ws) oscillator folded_chip;
            demod = agree_by (last_at some) (last_at ws) demod_places folded_demod;
          },
          ap (λ (h : Heard). h.mark) same,
          ap (λ (h : Heard). h.count) same,
        )
