-- A register that was last attempted in vain makes its number doubtful: by a failed write, and on the demodulator by a reset or a power-off after it. So a
-- call that was cut says so itself, whatever was before. Assumes nothing.
use Prim.Native.Nat.{ℕ}
use mathlib.Core.Path.{◌≡◌, refl, sym, ap, subst, ◌∙◌}
use mathlib.Core.Bool.{Bool, true, false, not, ◌&&◌, ◌||◌, and-false, or-true, false≢true}
use mathlib.Core.List.{List, [], ◌∷◌, ◌++◌, append_assoc}
use borrow.Author.Tests.{eqb-true, not-true}
use lib.Dec.{eqb}
use Rattle.transcript.specs.declared.Entry.{Entry}
use Rattle.attempts.specs.Attempts as chip
use Rattle.attempts.specs.Attempts.{done, names, tuner_at}
use Rattle.attempts.specs.Namings.{Last, Naming, last_by, last_from, last_in}
use Rattle.attempts.specs.Namings.Last.{Never, Tried}
use Rattle.attempts.proofs.Lasts.{last_append}
use Rattle.chip.specs.Entries.{repeater}
use Rattle.chip.specs.Steps.{every}
use Rattle.chip.proofs.Laws.{and_left, and_right}
use Rattle.history.specs.Histories.{Closing, Cut}
use Rattle.history.specs.Histories.Closing.{closed, nothing}
use Rattle.evidence.specs.Cuts.{Marked, among}
use Rattle.evidence.specs.Demodulator.{covers, demod_names, demod_settles, demodulator, last_at, place, shakes}
use Rattle.evidence.specs.Evidence.{if_places, lasts, lo_mark, lock_from, lock_mark, mark_all, mark_of, oscillator, rate_places, same, touches}
use Rattle.evidence.proofs.Marks.{one_mark}
use Rattle.evidence.proofs.Heard.{Heard, heard, heard_append}

-- what holds of each holds of one among them
abbrev Every : (ℕ → Type 0) → List ℕ → Type 0
Every P [] = Unit {0}
Every P (q ∷ qs) = P q × Every P qs

one_among : (P : ℕ → Type 0) (qs : List ℕ) (r : ℕ) → among r qs ≡ true → Every P qs → P r
one_among P [] r h p = absurd (false≢true h)
one_among P (q ∷ qs) r h p = go (eqb q r) refl (λ k. one_among P qs r k p.1)
  where
    go : (b : Bool) → eqb q r ≡ b → (among r qs ≡ true → P r) → P r
    go true e ih = subst P (eqb-true q r e) p.0
    go false e ih = ih (rw e at h)

-- ---- one in vain

module _ (f : ℕ → Last) (r byte : ℕ) (vain : f r ≡ Tried byte false) where
  differs : (mark : ℕ) → eqb 1 mark ≡ false → (rs : List ℕ) → among r rs ≡ true → same mark (lasts f rs) ≡ false
  differs mark other [] h = absurd (false≢true h)
  differs mark other (q ∷ qs) h = go (eqb q r) refl (λ k. differs mark other qs k)
    where
      go : (b : Bool) → eqb q r ≡ b → (among r qs ≡ true → same mark (lasts f qs) ≡ false) → (eqb (mark_of (f q)) mark && same mark (lasts f qs)) ≡ false
      go true e ih =
          let is : eqb (mark_of (f q)) mark ≡ false = ap (λ (x : ℕ). eqb (mark_of (f x)) mark) (eqb-true q r e) ∙ ap (λ (l : Last). eqb (mark_of l) mark) vain ∙ other in
          rw is
      go false e ih = rw (ih (rw e at h)) (and-false (eqb (mark_of (f q)) mark))

  -- "1 doubtful"
  pub vain_mark : (rs : List ℕ) → among r rs ≡ true → mark_all (lasts f rs) ≡ 1
  unfolding mark_all
  vain_mark rs h = rw (differs 2 refl rs h, differs 0 refl rs h)

-- ---- an entry that names a place and does not settle it, and nothing since names it

module _ {P : Type 0} (any : Naming P) (q : P) where
  abbrev pub sparing : Entry → Bool
  sparing e = not (any.named e q)

  spared_from : (l : Last) (ys : List Entry) → every sparing ys ≡ true → last_from any l ys q ≡ l
  unfolding last_from every
  spared_from l [] h = refl
  spared_from l (y ∷ ys) h =
      let none : any.named y q ≡ false = not-true (any.named y q) (and_left (sparing y) (every sparing ys) h) in
      rw none (spared_from l ys (and_right (sparing y) (every sparing ys) h))

  pub vain_since : (xs ys : List Entry) (e : Entry) → any.named e q ≡ true → any.settles e ≡ false → every sparing ys ≡ true
      → last_in any (xs ++ (e ∷ ys)) q ≡ Tried (any.sent e q) false
  unfolding last_from
  vain_since xs ys e named open-still h =
      last_append any Never xs (e ∷ ys) q
      ∙ spared_from (last_by any e q (last_in any xs q)) ys h
      ∙ rw (named, open-still)

-- ---- a call that was cut

closing_spares : {P : Type 0} (any : Naming P) (q : P) → ((ok : Bool) → any.named (repeater 0 ok) q ≡ false) → (cs : List Entry) → Closing cs → every (sparing any q) cs ≡ true
unfolding every
closing_spares any q h cs nothing = refl
closing_spares any q h cs (closed ok) = rw (h ok)

chip_spared : (address r : ℕ) (ok : Bool) → names address (repeater 0 ok) r ≡ false
unfolding names
chip_spared address r ok = refl

-- the repeater's own register is none of those that are told of
abbrev Spared : ℕ → Type 0
Spared r = (ok : Bool) → demod_names (repeater 0 ok) (place 1 r) ≡ false

if_spared : Every Spared if_places
unfolding demod_names covers shakes
if_spared = ((λ ok. refl), ((λ ok. refl), ((λ ok. refl), tt)))

rate_spared : Every Spared rate_places
unfolding demod_names covers shakes
rate_spared = ((λ ok. refl), ((λ ok. refl), ((λ ok. refl), ((λ ok. refl), tt))))

ddc_spared : Every Spared (0x15 ∷ [])
unfolding demod_names covers shakes
ddc_spared = ((λ ok. refl), tt)

pub touches_among : (address r : ℕ) (e : Entry) → names address e r ≡ true → (qs : List ℕ) → among r qs ≡ true → touches address qs e ≡ true
touches_among address r e named [] h = absurd (false≢true h)
touches_among address r e named (q ∷ qs) h = go (eqb q r) refl (λ k. touches_among address r e named qs k)
  where
    go : (b : Bool) → eqb q r ≡ b → (among r qs ≡ true → touches address qs e ≡ true) → (names address e q || touches address qs e) ≡ true
    go true t ih = rw (ap (names address e) (eqb-true q r t) ∙ named)
    go false t ih = rw (ih (rw t at h)) (or-true (names address e q))

module _ (i : ℕ) (cut whole : List Entry) (c : Cut i cut whole) (address : ℕ) (es : List Entry) where
  abbrev first : List Entry
  first = es ++ c.earlier

  split : es ++ cut ≡ first ++ (c.last ∷ c.closing)
  split = ap (λ (l : List Entry). es ++ l) c.cuts ∙ sym (append_assoc es c.earlier (c.last ∷ c.closing))

  lo_vain : (r : ℕ) → among r oscillator ≡ true → names address c.last r ≡ true → lo_mark address (es ++ cut) ≡ 1
  lo_vain r h named =
      vain_mark (chip.last_in address (es ++ cut)) r _
      (ap (λ (l : List Entry). chip.last_in address l r) split
      ∙ vain_since (tuner_at address) r first c.closing c.last named c.failed (closing_spares (tuner_at address) r (chip_spared address r) c.closing c.closes))
      oscillator h

  lost : demod_settles c.last ≡ false
  unfolding demod_settles
  lost = rw c.failed

  demod_vain : (rs : List ℕ) → Every Spared rs → (r : ℕ) → among r rs ≡ true → demod_names c.last (place 1 r) ≡ true → mark_all (lasts (last_at (es ++ cut)) rs) ≡ 1
  demod_vain rs spared r h named =
      vain_mark (last_at (es ++ cut)) r _
      (ap (λ (l : List Entry). last_at l r) split
      ∙ vain_since demodulator (place 1 r) first c.closing c.last named lost
      (closing_spares demodulator (place 1 r) (one_among Spared rs r h spared) c.closing c.closes))
      rs h

  -- no try was read since
  closing_lock : (cs : List Entry) → Closing cs → (mark : ℕ) → lock_from address mark cs ≡ mark
  unfolding lock_from names
  closing_lock cs nothing mark = refl
  closing_lock cs (closed ok) mark = refl

  lock_lost : (r : ℕ) → among r oscillator ≡ true → names address c.last r ≡ true → lock_mark address (es ++ cut) ≡ 0
  unfolding lock_from
  lock_lost r h named =
      ap (lock_mark address) split
      ∙ ap (λ (x : Heard). x.mark) (heard_append address (heard 0 0) first (c.last ∷ c.closing))
      ∙ rw (touches_among address r c.last named oscillator h) (closing_lock c.closing c.closes 0)

  -- "a call cut at a write that names one of the registers": the failing entry is `c.last`, number i of the call's
  pub marked : Marked address c.last (es ++ cut)
  marked =
      record {
        lo = lo_vain;
        lock = lock_lost;
        offset = demod_vain if_places if_spared;
        rate = demod_vain rate_places rate_spared;
        ddc = (λ named. sym (one_mark (last_at (es ++ cut) 0x15)) ∙ demod_vain (0x15 ∷ []) ddc_spared 0x15 refl named);
        lo_centre = (λ r h named ref xtal. rw (lo_vain r h named));
        if_centre = (λ r h named ref xtal.
            rw (demod_vain if_places if_spared r h named, and-false (eqb (lo_mark address (es ++ cut)) 2), and-false (eqb (lo_mark address (es ++ cut)) 0)));
      }

-- ---- a reset or a power-off, done or not, and no write of register r since

pub shaken : (xs ys : List Entry) (e : Entry) → shakes e ≡ true → (rs : List ℕ) (r : ℕ) → among r rs ≡ true → every (sparing demodulator (place 1 r)) ys ≡ true
    → mark_all (lasts (last_at (xs ++ (e ∷ ys))) rs) ≡ 1
unfolding demod_names demod_settles
shaken xs ys e shake rs r h since =
    vain_mark (last_at (xs ++ (e ∷ ys))) r _
    (vain_since demodulator (place 1 r) xs ys e (rw (shake, or-true (covers 4 e (place 1 r)))) (rw (shake, and-false (done e))) since) rs h
