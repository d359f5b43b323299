-- What an entry tells of the demodulator's eight registers, slot by slot; and entries one after the other. Assumes nothing.
use Prim.Native.Nat.{ℕ, ◌+◌, ◌≤◌, ◌<◌}
use mathlib.Core.Path.{◌≡◌, refl, sym, ap, ap₂, ◌∙◌}
use mathlib.Core.Bool.{Bool, true, false, cond, not, ◌&&◌, ◌||◌, and-false}
use mathlib.Core.List.{List, [], ◌∷◌, ◌++◌}
use native.Mathlib.Omega.{arith}
use borrow.Author.Tests.{eq-eqb, ne_eqb, eqb-true, eqb-false, leb-true, leb-false, le-leb, lt-leb, lt-ltb, le-ltb, ltb-true, ltb-false}
use lib.Dec.{T, eqb, leb, ltb}
use Rattle.below.proofs.Test.{below}
use Rattle.transcript.specs.declared.Entry.{Entry}
use Rattle.attempts.specs.Namings as any
use Rattle.attempts.specs.Namings.Last.{Never, Tried}
use Rattle.attempts.proofs.Lasts.{last_append, last_known}
use Rattle.chip.proofs.Laws.{and_left, and_right}
use Rattle.restoring.specs.Standing.{Known, counts, known_of, newer, only, over, told}
use Rattle.std.specs.Prelude.{None}
use Rattle.restoring.proofs.Overs.{over_over, over_quiet, over_same, quiet}
use Rattle.restoring.proofs.Telling.{told_known}
use Rattle.evidence.specs.Demodulator.{Place, covers, demod_names, demod_sent, demod_settles, demodulator, last_at, place, repeats, shakes}
use Rattle.witness.specs.Walk.{demod_in, place_of}

-- ---- one slot

-- a write that sends a byte to a register sends enough of them
pub reached : (e : Entry) (r : ℕ) → covers 4 e (place 1 r) ≡ true → (e.address ≤ r) × (r < e.address + e.n)
unfolding covers
reached e r h =
    let front = (eqb e.kind 4 || eqb e.kind 5) && eqb e.target 1 in
    let low = leb e.address r in (
      leb-true e.address r (and_right front low (and_left (front && low) (ltb r (e.address + e.n)) h)),
      ltb-true r (e.address + e.n) (and_right (front && low) (ltb r (e.address + e.n)) h),
    )

-- the repeater's register is none of them
other : (k : ℕ) → k < 16 → eqb (place_of k) 0x01 ≡ false
other k h = negated (eqb (place_of k) 0x01) (below (λ (n : ℕ). not (eqb (place_of n) 0x01)) 16 tt k h)
  where
    negated : (b : Bool) → T (not b) → b ≡ false
    negated true t = absurd t
    negated false t = refl

unfoldable pub told_by : Entry → ℕ → Bool → Known
told_by e k b = cond b (told (demod_sent e (place 1 (place_of k))) (demod_settles e)) None

pub slot_one : (e : Entry) (k : ℕ) → 8 ≤ k → k < 16 → demod_in (e ∷ []) k ≡ told_by e k (covers 4 e (place 1 (place_of k)) || shakes e)
unfolding demod_in any.last_from demod_names told_by
slot_one e k low high = rw (le-leb 8 k low, lt-ltb k 16 high) (go (covers 4 e q) (shakes e) refl refl)
  where
    q : Place
    q = place 1 (place_of k)

    silent : repeats e q ≡ false
    silent = rw (other k high, and-false (eqb e.kind 1 && true))

    go : (a b : Bool) → covers 4 e q ≡ a → shakes e ≡ b
        → known_of (cond (covers 4 e q || shakes e || repeats e q) (Tried (demod_sent e q) (demod_settles e)) Never)
        ≡ cond (covers 4 e q || shakes e) (told (demod_sent e q) (demod_settles e)) None
    go true b s t = rw s
    go false true s t = rw (s, t)
    go false false s t = rw (s, t, silent)

over_none : (k : ℕ) (t : Known) (l : List Known) → t ≡ None → l ≡ over (only k t) 0 l
unfolding only
over_none k t l h = sym (over_quiet (only k t) 0 l (λ q a b. go (counts q && eqb q k)))
  where
    go : (b : Bool) → cond b t None ≡ None
    go true = h
    go false = refl

-- an entry that says nothing of the slot
pub unsaid : (e : Entry) (k : ℕ) (l : List Known) (named shaken : Bool) → 8 ≤ k → k < 16 → named ≡ covers 4 e (place 1 (place_of k)) → shaken ≡ shakes e
    → named || shaken ≡ false → l ≡ over (only k (demod_in (e ∷ []) k)) 0 l
unfolding told_by
unsaid e k l named shaken low high n s h =
    over_none k (demod_in (e ∷ []) k) l (slot_one e k low high ∙ ap (told_by e k) (ap₂ (λ (a b : Bool). a || b) (sym n) (sym s) ∙ h))

-- and one that says something
pub said : (e : Entry) (k byte : ℕ) (ok : Bool) (l next : List Known) (named shaken : Bool) → 8 ≤ k → k < 16 → named ≡ covers 4 e (place 1 (place_of k))
    → shaken ≡ shakes e → named || shaken ≡ true → ok ≡ demod_settles e → byte ≡ demod_sent e (place 1 (place_of k))
    → next ≡ over (only k (told byte ok)) 0 l → next ≡ over (only k (demod_in (e ∷ []) k)) 0 l
unfolding told_by
said e k byte ok l next named shaken low high n s h m b was =
    was
    ∙ ap (λ (t : Known). over (only k t) 0 l)
    (ap₂ told b m ∙ sym (slot_one e k low high ∙ ap (told_by e k) (ap₂ (λ (x y : Bool). x || y) (sym n) (sym s) ∙ h)))

-- ---- all slots of an entry

pub below_none : (es : List Entry) (k : ℕ) → k < 8 → demod_in es k ≡ None
unfolding demod_in
below_none es k h = rw (lt-leb 8 k h)

pub past_none : (es : List Entry) (k : ℕ) → 16 ≤ k → demod_in es k ≡ None
unfolding demod_in
past_none es k h = rw (le-ltb k 16 h, and-false (leb 8 k))

-- the slots from k on
unfoldable pub from : List Entry → ℕ → ℕ → Known
from es k q = cond (leb k q) (demod_in es q) None

module _ (es : List Entry) (l : List Known) where
  pub from_start : over (from es 8) 0 l ≡ over (demod_in es) 0 l
  unfolding from
  from_start = over_same (from es 8) (demod_in es) (λ q. go q (leb 8 q) refl) 0 l
    where
      go : (q : ℕ) (b : Bool) → leb 8 q ≡ b → cond (leb 8 q) (demod_in es q) None ≡ demod_in es q
      go q true e = rw e
      go q false e = rw e (sym (below_none es q (leb-false 8 q e)))

  pub from_end : (k : ℕ) → 16 ≤ k → l ≡ over (from es k) 0 l
  unfolding from
  from_end k h = sym (over_quiet (from es k) 0 l (λ q a b. go q (leb k q) refl))
    where
      go : (q : ℕ) (b : Bool) → leb k q ≡ b → cond (leb k q) (demod_in es q) None ≡ None
      go q true e = rw e (past_none es q (omega (arith, leb-true k q e)))
      go q false e = rw e

  pub from_turn : (k : ℕ) (next : List Known) → 8 ≤ k → k < 16 → next ≡ over (only k (demod_in es k)) 0 l → over (from es (k + 1)) 0 next ≡ over (from es k) 0 l
  unfolding from only counts newer
  from_turn k next low high was =
      ap (over (from es (k + 1)) 0) was
      ∙ over_over (only k (demod_in es k)) (from es (k + 1)) 0 l
      ∙ over_same (λ q. newer (only k (demod_in es k) q) (from es (k + 1) q)) (from es k) (λ q. go q (eqb q k) refl) 0 l
    where
      step : (q : ℕ) → (q ≡ k → ⊥) → (b : Bool) → leb k q ≡ b → leb (k + 1) q ≡ leb k q
      step q a true e = rw e (le-leb (k + 1) q (above (leb-true k q e)))
        where
          above : k ≤ q → k + 1 ≤ q
          above z = omega (arith, a)
      step q a false e = rw e (lt-leb (k + 1) q (omega (arith, leb-false k q e)))

      go : (q : ℕ) (b : Bool) → eqb q k ≡ b → newer (cond (counts q && eqb q k) (demod_in es k) None) (cond (leb (k + 1) q) (demod_in es q) None) ≡ cond (leb k q) (demod_in es q) None
      go q true e =
          let at : q ≡ k = eqb-true q k e in
          rw (at, eq-eqb k k refl, le-leb 5 k (omega arith), lt-ltb k 32 (omega arith), lt-leb (k + 1) k (omega arith), le-leb k k (omega arith)) (quiet (demod_in es k))
      go q false e = rw (e, and-false (counts q), step q (eqb-false q k e) (leb k q) refl)

-- ---- entries of other kinds

module _ (e : Entry) (l : List Known) (other_kind : (k : ℕ) → 4 ≤ k → k ≤ 7 → eqb e.kind k ≡ false) where
  untouched : (kind : ℕ) (p r : ℕ) → 4 ≤ kind → kind ≤ 6 → covers kind e (place p r) ≡ false
  unfolding covers
  untouched kind p r low high = rw (other_kind kind low (omega arith), other_kind (kind + 1) (omega arith) (omega arith))

  steady : shakes e ≡ false
  unfolding shakes
  steady = rw (untouched 4 1 0x01 (omega arith) (omega arith), untouched 6 2 0x3000 (omega arith) (omega arith), other_kind 4 (omega arith) (omega arith), other_kind 5 (omega arith) (omega arith))

  nothing : (k : ℕ) → demod_in (e ∷ []) k ≡ None
  unfolding told_by
  nothing k = go (leb 8 k) (ltb k 16) refl refl
    where
      go : (a b : Bool) → leb 8 k ≡ a → ltb k 16 ≡ b → demod_in (e ∷ []) k ≡ None
      go true true s t = slot_one e k (leb-true 8 k s) (ltb-true k 16 t) ∙ rw (untouched 4 1 (place_of k) (omega arith) (omega arith), steady)
      go false b s t = below_none (e ∷ []) k (leb-false 8 k s)
      go true false s t = past_none (e ∷ []) k (ltb-false k 16 t)

  pub untold : l ≡ over (demod_in (e ∷ [])) 0 l
  untold = sym (over_quiet (demod_in (e ∷ [])) 0 l (λ k a b. nothing k))

pub low_kind : (e : Entry) (l : List Known) → e.kind < 4 → l ≡ over (demod_in (e ∷ [])) 0 l
low_kind e l h = untold e l (λ k a b. ne_eqb e.kind k (λ z. omega arith))

pub high_kind : (e : Entry) (l : List Known) → 7 < e.kind → l ≡ over (demod_in (e ∷ [])) 0 l
high_kind e l h = untold e l (λ k a b. ne_eqb e.kind k (λ z. omega arith))

-- ---- entries one after the other

slot_both : (xs ys : List Entry) (k : ℕ) → newer (demod_in ys k) (demod_in xs k) ≡ demod_in (xs ++ ys) k
unfolding demod_in
slot_both xs ys k = go (leb 8 k && ltb k 16)
  where
    q : Place
    q = place 1 (place_of k)

    go : (b : Bool) → newer (cond b (known_of (last_at ys (place_of k))) None) (cond b (known_of (last_at xs (place_of k))) None) ≡ cond b (known_of (last_at (xs ++ ys) (place_of k))) None
    go true =
        sym (ap known_of (last_append demodulator Never xs ys q ∙ last_known demodulator (any.last_in demodulator xs q) ys q)
        ∙ told_known (any.last_in demodulator ys q) (any.last_in demodulator xs q))
    go false = quiet None

pub slots_both : (xs ys : List Entry) (l : List Known) → over (demod_in xs) 0 (over (demod_in ys) 0 l) ≡ over (demod_in (xs ++ ys)) 0 l
slots_both xs ys l =
    over_over (demod_in ys) (demod_in xs) 0 l
    ∙ over_same (λ k. newer (demod_in ys k) (demod_in xs k)) (demod_in (xs ++ ys)) (slot_both xs ys) 0 l

pub slots_empty : (l : List Known) → l ≡ over (demod_in []) 0 l
unfolding demod_in any.last_from
slots_empty l = sym (over_quiet (demod_in []) 0 l (λ k a b. go (leb 8 k && ltb k 16)))
  where
    go : (b : Bool) → cond b (known_of Never) None ≡ None
    go true = refl
    go false = refl
