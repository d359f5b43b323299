-- One law for each way in which a test of the code goes, and one turn of each loop.
-- Assumes nothing.
use Prim.Native.Nat.{ℕ, suc, ◌+◌, ◌-◌, ◌*◌, ◌/◌, ◌<◌, ◌≤◌}
use mathlib.Core.Path.{◌≡◌, refl, sym, ap, ap₂, ◌∙◌}
use mathlib.Core.List.{List, [], ◌∷◌}
use mathlib.Core.Bool.{Bool, true, false, cond, ◌&&◌, ◌||◌, true≢false, false≢true}
use native.Mathlib.Omega.{arith}
use lib.Dec.{eqb, leb, ltb}
use lib.ListN.{length, get_or, take, drop, length-drop}
use lib.Seq.{drop-drop, take_all}
use borrow.Author.Tests.{eq-eqb, eqb-true, le-leb, leb-false, leb-true, lt-leb, ne_eqb}
use Rattle.wire.specs.Bytes.{le_bytes, le_value, Bytes}
use Rattle.wire.proofs.Widths.{one_number}
use Rattle.transcript.specs.declared.Entry.{Entry}
use Rattle.std.specs.Prelude.{Some, None, min}
use Rattle.transcript.specs.Table.{is_read}
use Rattle.transcript.specs.Entries.{entry_of, zeros8}
use Rattle.transcript.specs.Sections.{entries_in, entries_of, section_at, section_entries, section_of}
use Rattle.transcript.proofs.Exact.{entries_in-take, length-entries_in}
use Rattle.transcript.proofs.Reading.{both, entries_part, found}
use Rattle.parting.specs.Parting.{agree, alike, cut_of, equal_bytes, equal_entries, nowhere, parting_of, place, placed, rest_of}
use Rattle.parting.specs.declared.Place.{Place}

-- ---- one step against another

-- the test says that bytes are equal
pub bytes_equal : (xs ys : List ℕ) → equal_bytes xs ys ≡ true → xs ≡ ys
unfolding equal_bytes
bytes_equal [] [] h = refl
bytes_equal [] (y ∷ ys) h = absurd (false≢true h)
bytes_equal (x ∷ xs) [] h = absurd (false≢true h)
bytes_equal (x ∷ xs) (y ∷ ys) h =
    let p = both (eqb x y) (equal_bytes xs ys) h in
    ap₂ ◌∷◌ (eqb-true x y p.0) (bytes_equal xs ys p.1)

pub bytes_same : (xs : List ℕ) → equal_bytes xs xs ≡ true
unfolding equal_bytes
bytes_same [] = refl
bytes_same (x ∷ xs) = rw (eq-eqb x x refl, bytes_same xs)

-- and eight bytes are equal where their numbers are
numbers_by : (xs ys : List ℕ) (v w : ℕ) → v ≡ le_value xs → w ≡ le_value ys → le_bytes 8 v ≡ xs → le_bytes 8 w ≡ ys
    → (t u : Bool) → eqb v w ≡ t → equal_bytes xs ys ≡ u → t ≡ u
numbers_by xs ys v w p q r s true true h k = refl
numbers_by xs ys v w p q r s false false h k = refl
numbers_by xs ys v w p q r s true false h k =
    let same : xs ≡ ys = sym r ∙ ap (le_bytes 8) (eqb-true v w h) ∙ s in
    absurd (true≢false (sym (bytes_same ys) ∙ ap (λ (l : List ℕ). equal_bytes l ys) (sym same) ∙ k))
numbers_by xs ys v w p q r s false true h k =
    let same : v ≡ w = p ∙ ap le_value (bytes_equal xs ys k) ∙ sym q in
    absurd (true≢false (sym (eq-eqb v w same) ∙ h))

numbers_made : (b d : List ℕ) (v w : ℕ) → Bytes b → Bytes d → length b ≡ 16 → length d ≡ 16
    → v ≡ le_value (take 8 (drop 8 b)) → w ≡ le_value (take 8 (drop 8 d)) → eqb v w ≡ equal_bytes (take 8 (drop 8 b)) (take 8 (drop 8 d))
numbers_made b d v w bytes more long also p q =
    numbers_by (take 8 (drop 8 b)) (take 8 (drop 8 d)) v w p q
    (ap (le_bytes 8) p ∙ one_number 8 8 b bytes (omega arith)) (ap (le_bytes 8) q ∙ one_number 8 8 d more (omega arith))
    (eqb v w) (equal_bytes (take 8 (drop 8 b)) (take 8 (drop 8 d))) refl refl

data_made : (t r : Bool) (a b : List ℕ) → r ≡ equal_bytes a b → (t || r) ≡ equal_bytes (cond t zeros8 a) (cond t zeros8 b)
unfolding equal_bytes
data_made true r a b h = refl
data_made false r a b h = h

module _ (e f : Entry) (r : Bool) (h : r ≡ equal_bytes e.bytes f.bytes) where
  by_kind : (t : Bool) → eqb e.kind f.kind ≡ t
      → (eqb e.kind f.kind && eqb e.target f.target && eqb e.n f.n && eqb e.address f.address && (is_read e.kind || r)) ≡ alike e f
  unfolding equal_entries
  by_kind false d = rw d
  by_kind true d = rw (d, ← eqb-true e.kind f.kind d, data_made (is_read e.kind) r e.bytes f.bytes h)

  tests_made : (eqb e.kind f.kind && eqb e.target f.target && eqb e.n f.n && eqb e.address f.address && (is_read e.kind || r)) ≡ alike e f
  tests_made = by_kind (eqb e.kind f.kind) refl

-- the fields of two entries' bytes
pub same_made : (b d : List ℕ) (i j v w : ℕ) → Bytes b → Bytes d → length b ≡ 16 → length d ≡ 16
    → i ≡ le_value (take 2 (drop 4 b)) → j ≡ le_value (take 2 (drop 4 d)) → v ≡ le_value (take 8 (drop 8 b)) → w ≡ le_value (take 8 (drop 8 d))
    → (eqb (get_or b 0 0) (get_or d 0 0) && eqb (get_or b 2 0) (get_or d 2 0) && eqb (get_or b 3 0) (get_or d 3 0) && eqb i j && (is_read (get_or b 0 0) || eqb v w)) ≡ alike (entry_of b) (entry_of d)
unfolding entry_of
same_made b d i j v w bytes more long also hi hj hv hw =
    let one : take 8 (drop 8 b) ≡ drop 8 b = take_all 8 (drop 8 b) (omega (arith, length-drop 8 b)) in
    let two : take 8 (drop 8 d) ≡ drop 8 d = take_all 8 (drop 8 d) (omega (arith, length-drop 8 d)) in
    rw (hi, hj) (tests_made (entry_of b) (entry_of d) (eqb v w) (numbers_made b d v w bytes more long also hv hw ∙ ap₂ equal_bytes one two))

-- ---- the entries that are left after k of them

abbrev pub left : ℕ → ℕ → List ℕ → ℕ → List Entry
left a m x k = entries_in (m - k) (drop (a + 16 * k) x)

abbrev pub entry_at : ℕ → List ℕ → ℕ → Entry
entry_at a x k = entry_of (take 16 (drop (a + 16 * k) x))

left_cons : (a m : ℕ) (x : List ℕ) (k : ℕ) → k < m → left a m x k ≡ entry_at a x k ∷ left a m x (k + 1)
unfolding entries_in
left_cons a m x k h =
    let more : m - k ≡ suc (m - (k + 1)) = omega arith in
    let next : a + 16 * k + 16 ≡ a + 16 * (k + 1) = omega arith in
    rw (more, drop-drop 16 (a + 16 * k) x, next)

left_none : (a m : ℕ) (x : List ℕ) (k : ℕ) → m ≤ k → left a m x k ≡ []
unfolding entries_in
left_none a m x k h =
    let none : m - k ≡ 0 = omega arith in
    rw none

left_all : (a m : ℕ) (x : List ℕ) → left a m x 0 ≡ entries_in m (drop a x)
left_all a m x =
    let all : m - 0 ≡ m = omega arith in
    let here : a + 16 * 0 ≡ a = omega arith in
    rw (all, here)

-- an entry's bytes as the code cuts them out
pub entry_cut : (i : ℕ) (x : List ℕ) → entry_of (take (i + 16 - i) (drop i x)) ≡ entry_of (take 16 (drop i x))
entry_cut i x =
    let wide : i + 16 - i ≡ 16 = omega arith in
    rw wide

agree_nil : (es : List Entry) → agree es [] ≡ 0
unfolding agree
agree_nil [] = refl
agree_nil (e ∷ es) = refl

counted : (t : Bool) (k m n : ℕ) → (k ≤ m) × (k ≤ n) → (cond t (suc k) 0 ≤ suc m) × (cond t (suc k) 0 ≤ suc n)
counted true k m n h = (omega (arith, h.0), omega (arith, h.1))
counted false k m n h = (omega arith, omega arith)

-- no more are alike than there are
pub within : (es fs : List Entry) → (agree es fs ≤ length es) × (agree es fs ≤ length fs)
unfolding agree
within [] fs = (omega arith, omega arith)
within (e ∷ es) [] = (omega arith, omega arith)
within (e ∷ es) (f ∷ fs) = counted (alike e f) (agree es fs) (length es) (length fs) (within es fs)

pub within_both : (k m n : ℕ) (l r : List ℕ) → k ≡ agree (entries_in m l) (entries_in n r) → (k ≤ m) × (k ≤ n)
within_both k m n l r e =
    let w = within (entries_in m l) (entries_in n r) in
    (omega (arith, w.0, length-entries_in m l), omega (arith, w.1, length-entries_in n r))

module _ (a m : ℕ) (x : List ℕ) (b n : ℕ) (y : List ℕ) where
  pub agree_start : 0 + agree (left a m x 0) (left b n y 0) ≡ agree (entries_in m (drop a x)) (entries_in n (drop b y))
  agree_start = omega (arith, ap₂ agree (left_all a m x) (left_all b n y))

  pub agree_on : (k : ℕ) → k < m → k < n → alike (entry_at a x k) (entry_at b y k) ≡ true
      → k + 1 + agree (left a m x (k + 1)) (left b n y (k + 1)) ≡ k + agree (left a m x k) (left b n y k)
  unfolding agree
  agree_on k h i e =
      let one : agree (left a m x k) (left b n y k) ≡ suc (agree (left a m x (k + 1)) (left b n y (k + 1))) =
      ap₂ agree (left_cons a m x k h) (left_cons b n y k i) ∙ rw e in
      omega arith

  pub agree_stop : (k : ℕ) → k < m → k < n → alike (entry_at a x k) (entry_at b y k) ≡ false → k ≡ k + agree (left a m x k) (left b n y k)
  unfolding agree
  agree_stop k h i e =
      let none : agree (left a m x k) (left b n y k) ≡ 0 = ap₂ agree (left_cons a m x k h) (left_cons b n y k i) ∙ rw e in
      omega arith

  -- one of the two is at its end
  pub agree_end : agree (left a m x (min m n)) (left b n y (min m n)) ≡ 0
  unfolding agree
  agree_end = by_end (leb m n) refl
    where
      by_end : (t : Bool) → leb m n ≡ t → agree (left a m x (min m n)) (left b n y (min m n)) ≡ 0
      by_end true e =
          let less : m ≤ n = leb-true m n e in
          rw (left_none a m x (min m n) (omega arith))
      by_end false e =
          let less : n < m = leb-false m n e in
          rw (left_none b n y (min m n) (omega arith)) (agree_nil (left a m x (min m n)))

-- ---- whose part it is

pub first_goes_on : (a m b n k : ℕ) → (leb n k && ltb k m) ≡ true → place 1 (a + 16 * k) (m - k) k ≡ placed a m b n k
unfolding placed
first_goes_on a m b n k h = rw h

pub second_goes_on : (a m b n k : ℕ) → (leb n k && ltb k m) ≡ false → place 2 (b + 16 * k) (n - k) k ≡ placed a m b n k
unfolding placed
second_goes_on a m b n k h = rw h

-- ---- sections that were read, or not

pub entries_read : (s : List ℕ) (a m : ℕ) → Some (section_at a m) ≡ section_of s → entries_in m (drop a s) ≡ section_entries s
entries_read s a m h =
    let wide : a + 16 * m - a ≡ 16 * m = omega arith in
    let part : take (16 * m) (drop a s) ≡ entries_of s = rw wide at (entries_part s a m h) in
    sym (entries_in-take m (drop a s)) ∙ ap₂ entries_in (found s a m h).1.1 part

module _ (x y : List ℕ) where
  pub no_first : None ≡ section_of x → nowhere ≡ parting_of x y
  unfolding parting_of
  no_first h = rw (← h)

  pub no_second : (a m : ℕ) → Some (section_at a m) ≡ section_of x → None ≡ section_of y → nowhere ≡ parting_of x y
  unfolding parting_of
  no_second a m h i = rw (← h, ← i)

  pub both_read : (a m b n k : ℕ) → Some (section_at a m) ≡ section_of x → Some (section_at b n) ≡ section_of y
      → k ≡ agree (entries_in m (drop a x)) (entries_in n (drop b y)) → placed a m b n k ≡ parting_of x y
  unfolding parting_of
  both_read a m b n k h i e =
      let same : k ≡ agree (section_entries x) (section_entries y) = e ∙ ap₂ agree (entries_read x a m h) (entries_read y b n i) in
      rw (← h, ← i, same)

-- ---- a part of a slice

module _ (start count : ℕ) (s : List ℕ) where
  pub past_start : length s < start → [] ≡ cut_of start count s
  unfolding cut_of
  past_start h = rw (lt-leb start (length s) h)

  pub past_end : start ≤ length s → (length s - start) / 16 < count → [] ≡ cut_of start count s
  unfolding cut_of
  past_end h i =
      let over : length s - start < 16 * count = omega arith in
      rw (le-leb start (length s) h, lt-leb (16 * count) (length s - start) over)

  pub lies_in : start ≤ length s → 16 * count ≤ length s - start → take (start + 16 * count - start) (drop start s) ≡ cut_of start count s
  unfolding cut_of
  lies_in h i =
      let wide : start + 16 * count - start ≡ 16 * count = omega arith in
      rw (le-leb start (length s) h, le-leb (16 * count) (length s - start) i, wide)

-- of the slice that a place names
module _ (x y : List ℕ) (p : Place) (part : List ℕ) where
  pub of_first : p.whose ≡ 1 → part ≡ cut_of p.start p.count x → part ≡ rest_of x y p
  of_first h e = rw (eq-eqb p.whose 1 h) e

  pub of_second : (p.whose ≡ 1 → ⊥) → part ≡ cut_of p.start p.count y → part ≡ rest_of x y p
  of_second h e = rw (ne_eqb p.whose 1 h) e
