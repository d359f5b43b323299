-- What an entry, entries and sections tell of registers, from the newest to the oldest.
-- Assumes nothing.
use Prim.Native.Nat.{ℕ, zero, suc, ◌+◌, ◌-◌, ◌*◌, ◌≤◌, ◌<◌}
use mathlib.Core.Path.{◌≡◌, refl, sym, ap, ◌∙◌}
use mathlib.Core.Bool.{Bool, true, false, cond, ◌&&◌, and-false, false≢true, true≢false}
use mathlib.Core.List.{List, [], ◌∷◌, ◌++◌}
use native.Mathlib.Omega.{arith}
use borrow.Author.Tests.{eq-eqb, ne_eqb, eqb-true, eqb-false, leb-true, leb-false, le-leb, lt-leb, lt-ltb, le-ltb}
use lib.Dec.{eqb, leb, ltb}
use lib.ListN.{get_or, set, take, drop}
use lib.Seq.{set-get_or, drop-drop}
use Rattle.transcript.specs.declared.Entry.{Entry}
use Rattle.transcript.specs.Entries.{entry_fits, entry_of, fits}
use Rattle.transcript.specs.Sections.{all_fit, entries_in}
use Rattle.transcript.proofs.Reading.{both}
use Rattle.transcript.proofs.Rows.{row_of}
use Rattle.attempts.specs.Attempts.{Last, done, first_of, last_from, last_in, names, sent_to, tuner_at}
use Rattle.attempts.specs.Namings as any
use Rattle.attempts.specs.Namings.Last.{Never, Tried}
use Rattle.attempts.proofs.Lasts.{known, last_append, last_known}
use Rattle.restoring.specs.Standing.{Known, counts, newer, only, over, known_in, known_of, told}
use Rattle.std.specs.Option.{is_some}
use Rattle.std.specs.Prelude.{None, Some}
use Rattle.restoring.proofs.Overs.{over_one, over_over, over_quiet, over_same, quiet}

-- ---- one register

pub stays : (t u : Known) → is_some t ≡ true → newer t u ≡ t
unfolding newer
stays None u h = absurd (false≢true h)
stays (Some s) u h = refl

pub fresh : (t u : Known) → is_some t ≡ false → newer t u ≡ u
unfolding newer
fresh None u h = refl
fresh (Some s) u h = absurd (true≢false h)

module _ (l : List Known) (r : ℕ) (u : Known) where
  outside : counts r ≡ false → l ≡ over (only r u) 0 l
  unfolding only
  outside h = sym (over_quiet (only r u) 0 l (λ q a b. go q (eqb q r) refl))
    where
      go : (q : ℕ) (x : Bool) → eqb q r ≡ x → only r u q ≡ None
      go q true e = rw (ap counts (eqb-true q r e) ∙ h)
      go q false e = rw (e, and-false (counts q))

  -- "bytes for registers outside 0x05..0x1f count for nothing"
  pub under : r < 5 → l ≡ over (only r u) 0 l
  unfolding counts
  under h = outside (rw (lt-leb 5 r h))

  pub past : 31 < r → l ≡ over (only r u) 0 l
  unfolding counts
  past h = outside (rw (le-ltb r 32 (omega arith), and-false (leb 5 r)))

  module _ (low : 5 ≤ r) (high : r ≤ 31) where
    here : over (only r u) 0 l ≡ set l r (newer (get_or l r None) u)
    unfolding only counts
    here =
        let at : 0 + r ≡ r = omega arith in
        let said : only r u (0 + r) ≡ u = rw (at, le-leb 5 r low, lt-ltb r 32 (omega arith), eq-eqb r r refl) in
        over_one (only r u) 0 r l (λ q a. rw (ne_eqb q r (λ z. a (omega arith)), and-false (counts q)))
        ∙ ap (λ (t : Known). set l r (newer (get_or l r None) t)) said

    -- what is told already stays
    pub told_before : is_some (get_or l r None) ≡ true → l ≡ over (only r u) 0 l
    told_before some = sym (here ∙ ap (set l r) (stays (get_or l r None) u some) ∙ set-get_or l r None)

    pub told_now : is_some (get_or l r None) ≡ false → set l r u ≡ over (only r u) 0 l
    told_now blank = sym (here ∙ ap (set l r) (fresh (get_or l r None) u blank))

-- ---- one entry

tells_one : (address : ℕ) (e : Entry) (q : ℕ) → known_in address (e ∷ []) q ≡ cond (counts q && names address e q) (told (sent_to e q) (done e)) None
unfolding known_in any.last_from
tells_one address e q = go (counts q) (names address e q) refl refl
  where
    go : (a b : Bool) → counts q ≡ a → names address e q ≡ b
        → cond (counts q) (known_of (last_from address Never (e ∷ []) q)) None ≡ cond (counts q && names address e q) (told (sent_to e q) (done e)) None
    go false b s t = rw s
    go true true s t = rw (s, t)
    go true false s t = rw (s, t)

unnamed : (address : ℕ) (e : Entry) (l : List Known) → ((q : ℕ) → names address e q ≡ false) → l ≡ over (known_in address (e ∷ [])) 0 l
unnamed address e l h = sym (over_quiet (known_in address (e ∷ [])) 0 l (λ q a b. nothing q))
  where
    nothing : (q : ℕ) → known_in address (e ∷ []) q ≡ None
    nothing q = tells_one address e q ∙ rw (h q, and-false (counts q))

-- "Writes to other chips .. count for nothing"
pub other_kind : (address : ℕ) (e : Entry) (l : List Known) → (e.kind ≡ 2 → ⊥) → l ≡ over (known_in address (e ∷ [])) 0 l
unfolding names
other_kind address e l h = unnamed address e l (λ q. rw (ne_eqb e.kind 2 h))

pub other_chip : (address : ℕ) (e : Entry) (l : List Known) → (e.target ≡ address → ⊥) → l ≡ over (known_in address (e ∷ [])) 0 l
unfolding names
other_chip address e l h = unnamed address e l (λ q. rw (ne_eqb e.target address h, and-false (eqb e.kind 2)))

-- the registers of a write from the j-th on
unfoldable pub rest : ℕ → ℕ → Bool → List ℕ → ℕ → ℕ → Known
rest first n ok bytes j q = cond (counts q && (leb (first + j) q && ltb q (first + (n - 1)))) (told (get_or bytes (q - first + 1) 0) ok) None

pub rest_start : (address : ℕ) (e : Entry) (l : List Known) → e.kind ≡ 2 → e.target ≡ address
    → over (rest (first_of e) e.n (done e) e.bytes 0) 0 l ≡ over (known_in address (e ∷ [])) 0 l
unfolding rest names
rest_start address e l k c =
    over_same (rest (first_of e) e.n (done e) e.bytes 0) (known_in address (e ∷ [])) (λ q. same q) 0 l
  where
    same : (q : ℕ) → rest (first_of e) e.n (done e) e.bytes 0 q ≡ known_in address (e ∷ []) q
    same q =
        let none_yet : first_of e + 0 ≡ first_of e = omega arith in
        rw none_yet (sym (tells_one address e q ∙ rw (eq-eqb e.kind 2 k, eq-eqb e.target address c)))

module _ (first n : ℕ) (ok : Bool) (bytes : List ℕ) (l : List Known) (j : ℕ) where
  pub rest_end : n ≤ j + 1 → l ≡ over (rest first n ok bytes j) 0 l
  unfolding rest
  rest_end h = sym (over_quiet (rest first n ok bytes j) 0 l (λ q a b. go q (leb (first + j) q) refl))
    where
      go : (q : ℕ) (x : Bool) → leb (first + j) q ≡ x → rest first n ok bytes j q ≡ None
      go q true e = rw (e, le-ltb q (first + (n - 1)) (omega (arith, leb-true (first + j) q e)), and-false (counts q))
      go q false e = rw (e, and-false (counts q))

  pub rest_turn : (next : List Known) → j + 1 < n → next ≡ over (only (first + j) (told (get_or bytes (j + 1) 0) ok)) 0 l
      → over (rest first n ok bytes (j + 1)) 0 next ≡ over (rest first n ok bytes j) 0 l
  unfolding rest only newer
  rest_turn next h was =
      ap (over (rest first n ok bytes (j + 1)) 0) was
      ∙ over_over (only (first + j) now) (rest first n ok bytes (j + 1)) 0 l
      ∙ over_same (λ q. newer (only (first + j) now q) (rest first n ok bytes (j + 1) q)) (rest first n ok bytes j) (λ q. go q (counts q) (eqb q (first + j)) refl refl) 0 l
    where
      now : Known
      now = told (get_or bytes (j + 1) 0) ok

      step : (q : ℕ) → (q ≡ first + j → ⊥) → (x : Bool) → leb (first + j) q ≡ x → leb (first + (j + 1)) q ≡ leb (first + j) q
      step q a true e = rw e (le-leb (first + (j + 1)) q (above (leb-true (first + j) q e)))
        where
          above : first + j ≤ q → first + (j + 1) ≤ q
          above z = omega (arith, a)
      step q a false e = rw e (lt-leb (first + (j + 1)) q (omega (arith, leb-false (first + j) q e)))

      go : (q : ℕ) (x y : Bool) → counts q ≡ x → eqb q (first + j) ≡ y → newer (only (first + j) now q) (rest first n ok bytes (j + 1) q) ≡ rest first n ok bytes j q
      go q false y s t = rw s
      go q true true s t =
          let at : q ≡ first + j = eqb-true q (first + j) t in
          let place : q - first + 1 ≡ j + 1 = omega arith in
          rw (s, t, le-leb (first + j) q (omega arith), lt-ltb q (first + (n - 1)) (omega arith), place)
      go q true false s t =
          rw (s, t, step q (eqb-false q (first + j) t) (leb (first + j) q) refl)

-- ---- entries

pub told_known : (a b : Last) → known_of (known a b) ≡ newer (known_of a) (known_of b)
unfolding newer
told_known Never b = refl
told_known (Tried byte ok) b = refl

tells_both : (address : ℕ) (xs ys : List Entry) (r : ℕ) → newer (known_in address ys r) (known_in address xs r) ≡ known_in address (xs ++ ys) r
unfolding known_in
tells_both address xs ys r = go (counts r) refl
  where
    last : last_in address (xs ++ ys) r ≡ known (last_in address ys r) (last_in address xs r)
    last = last_append (tuner_at address) Never xs ys r ∙ last_known (tuner_at address) (last_in address xs r) ys r

    go : (b : Bool) → counts r ≡ b
        → newer (cond (counts r) (known_of (last_in address ys r)) None) (cond (counts r) (known_of (last_in address xs r)) None) ≡ cond (counts r) (known_of (last_in address (xs ++ ys) r)) None
    go true e = rw e (sym (ap known_of last ∙ told_known (last_in address ys r) (last_in address xs r)))
    go false e = rw e (quiet None)

-- older entries after newer ones
pub over_both_lem : (address : ℕ) (xs ys : List Entry) (l : List Known) → over (known_in address xs) 0 (over (known_in address ys) 0 l) ≡ over (known_in address (xs ++ ys)) 0 l
over_both_lem address xs ys l =
    over_over (known_in address ys) (known_in address xs) 0 l
    ∙ over_same (λ r. newer (known_in address ys r) (known_in address xs r)) (known_in address (xs ++ ys)) (tells_both address xs ys) 0 l

pub over_empty : (address : ℕ) (l : List Known) → l ≡ over (known_in address []) 0 l
unfolding known_in any.last_from
over_empty address l = sym (over_quiet (known_in address []) 0 l (λ r a b. go r (counts r) refl))
  where
    go : (r : ℕ) (b : Bool) → counts r ≡ b → cond (counts r) (known_of (last_from address Never [] r)) None ≡ None
    go r true e = rw e
    go r false e = rw e

-- the first i entries and the next
entries_snoc : (i : ℕ) (l : List ℕ) → entries_in (suc i) l ≡ entries_in i l ++ (entry_of (take 16 (drop (16 * i) l)) ∷ [])
unfolding entries_in
entries_snoc zero l = refl
entries_snoc (suc i) l =
    let next : 16 * suc i ≡ 16 + 16 * i = omega arith in
    ap (λ (es : List Entry). entry_of (take 16 l) ∷ es) (entries_snoc i (drop 16 l))
    ∙ ap (λ (b : List ℕ). entry_of (take 16 l) ∷ (entries_in i (drop 16 l) ++ (entry_of (take 16 b) ∷ []))) (drop-drop (16 * i) 16 l ∙ ap (λ (k : ℕ). drop k l) (sym next))

-- whatever a walk gathers of entries: older ones after newer ones gather what all of them do
abbrev pub Joins : {S : Type 0} → (List Entry → S → S) → Type 0
Joins {S} all = (xs ys : List Entry) (l : S) → all xs (all ys l) ≡ all (xs ++ ys) l

pub turn_on : {S : Type 0} (all : List Entry → S → S) (s : List ℕ) (start k : ℕ) (l next : S) (e : Entry) → Joins all → 0 < k
    → e ≡ entry_of (take 16 (drop (start + 16 * (k - 1)) s)) → next ≡ all (e ∷ []) l → all (entries_in (k - 1) (drop start s)) next ≡ all (entries_in k (drop start s)) l
turn_on all s start k l next e both some is was =
    let i = k - 1 in
    let one_more : suc (k - 1) ≡ k = omega arith in
    let there : e ≡ entry_of (take 16 (drop (16 * i) (drop start s))) = is ∙ ap (λ (b : List ℕ). entry_of (take 16 b)) (sym (drop-drop (16 * i) start s)) in
    ap (all (entries_in i (drop start s))) was
    ∙ both (entries_in i (drop start s)) (e ∷ []) l
    ∙ ap (λ (es : List Entry). all es l)
    (ap (λ (x : Entry). entries_in i (drop start s) ++ (x ∷ [])) there
    ∙ sym (entries_snoc i (drop start s))
    ∙ ap (λ (m : ℕ). entries_in m (drop start s)) one_more)

pub entry_turn : (address : ℕ) (s : List ℕ) (start k : ℕ) (l next : List Known) (e : Entry) → 0 < k → e ≡ entry_of (take 16 (drop (start + 16 * (k - 1)) s))
    → next ≡ over (known_in address (e ∷ [])) 0 l
    → over (known_in address (entries_in (k - 1) (drop start s))) 0 next ≡ over (known_in address (entries_in k (drop start s))) 0 l
entry_turn address s start k l next e some is was = turn_on (λ es. over (known_in address es) 0) s start k l next e (over_both_lem address) some is was

-- an entry of those that fit the table has eight data bytes at most
fits_at : (k i : ℕ) (l : List ℕ) → i < k → all_fit k l ≡ true → fits (take 16 (drop (16 * i) l)) ≡ true
unfolding all_fit
fits_at zero i l h f = absurd (omega arith)
fits_at (suc k) zero l h f = (both (fits (take 16 l)) (all_fit k (drop 16 l)) f).0
fits_at (suc k) (suc i) l h f =
    let next : 16 * suc i ≡ 16 + 16 * i = omega arith in
    rw (next, ← drop-drop (16 * i) 16 l) (fits_at k i (drop 16 l) (omega arith) (both (fits (take 16 l)) (all_fit k (drop 16 l)) f).1)

fits_few : (b : List ℕ) → fits b ≡ true → (entry_of b).n ≤ 8
unfolding fits
fits_few b h = (row_of (entry_of b) (both (eqb (get_or b 6 0) 0 && eqb (get_or b 7 0) 0) (entry_fits (entry_of b)) h).1).n

pub few : (s : List ℕ) (start count i : ℕ) (e : Entry) → i < count → all_fit count (drop start s) ≡ true → e ≡ entry_of (take 16 (drop (start + 16 * i) s)) → e.n ≤ 8
few s start count i e h f is =
    let there : fits (take 16 (drop (start + 16 * i) s)) ≡ true = rw (← drop-drop (16 * i) start s) (fits_at count i (drop start s) h f) in
    let small = fits_few (take 16 (drop (start + 16 * i) s)) there in
    rw is small

pub turn_end : {S : Type 0} (all : List Entry → S → S) (s : List ℕ) (start i : ℕ) (l : S) → l ≡ all [] l → i ≡ 0 → l ≡ all (entries_in i (drop start s)) l
unfolding entries_in
turn_end all s start i l empty h = empty ∙ ap (λ (k : ℕ). all (entries_in k (drop start s)) l) (sym h)

pub entries_end : (address : ℕ) (s : List ℕ) (start i : ℕ) (l : List Known) → i ≡ 0 → l ≡ over (known_in address (entries_in i (drop start s))) 0 l
entries_end address s start i l h = turn_end (λ es. over (known_in address es) 0) s start i l (over_empty address l) h
