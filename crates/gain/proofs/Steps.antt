-- The step worked out is the nearest of document 01's sentence, there is one such index, and a count of the middles below t finds it. Assumes nothing.
use mathlib.Core.Path.{◌≡◌, refl, sym, ap, ◌∙◌, subst}
use mathlib.Core.Bool.{Bool, true, false, ◌&&◌}
use mathlib.Core.List.{List, [], ◌∷◌}
use Prim.Native.Nat.{ℕ, zero, suc, ◌+◌, ◌/◌, ◌≤◌, ◌<◌}
use native.Mathlib.Nat.{le_of_lt, le_trans, lt_of_lt_of_le, le_refl, lt_irrefl, lt_trans, lt-suc_self, not-suc-le-zero}
use native.Mathlib.Numerals.{add-one}
use native.Mathlib.Omega.{arith}
use borrow.Author.Count.{below_more}
use borrow.Author.Tests.{ltb-true, ltb-false, lt-ltb, le-ltb}
use lib.Dec.{ltb, lit<}
use lib.IntN.{ℤ, pos, negsuc}
use lib.Ieee.{Float}
use lib.ListN.{get_or, length}
use mir.Val.{bool_byte}
use Rattle.gain.specs.Product.{tenths_of}
use Rattle.gain.specs.Steps.{NearestIn, Nearest, apart, better, chosen_of, clamped, nearest_in, nearest_of, step_at, steps}

-- what holds of every j below n, and of n, holds of every j below suc n
up_to : (n : ℕ) (P : ℕ → Type 0) → ((j : ℕ) → j < n → P j) → P n → (j : ℕ) → j < suc n → P j
up_to n P all here j l = below_more P n all here j (subst (λ (m : ℕ). j < m) (sym (add-one n)) l)

-- one step more, taken where it is nearer
onward : (n k : ℕ) (t : ℤ) (b : Bool) → ltb (apart n t) (apart k t) ≡ b → NearestIn n t k → NearestIn (suc n) t (better b n k)
onward n k t true e h =
    let d : apart n t < apart k t = ltb-true (apart n t) (apart k t) e in
    let under : (j : ℕ) → j < n → apart n t < apart j t = λ j l. lt_of_lt_of_le d (h.least j l) in
    record {
      within = lt-suc_self n;
      least = up_to n (λ j. apart n t ≤ apart j t) (λ j l. le_of_lt (under j l)) (le_refl (apart n t));
      lowest = under;
    }
onward n k t false e h =
    record {
      within = lt_trans h.within (lt-suc_self n);
      least = up_to n (λ j. apart k t ≤ apart j t) h.least (ltb-false (apart n t) (apart k t) e);
      lowest = h.lowest;
    }

alone : (t : ℤ) → NearestIn 1 t 0
alone t =
    record {
      within = lt-suc_self 0;
      least = up_to 0 (λ j. apart 0 t ≤ apart j t) (λ j l. absurd (not-suc-le-zero l)) (le_refl (apart 0 t));
      lowest = λ j l. absurd (not-suc-le-zero l);
    }

first : (t : ℤ) (b : Bool) → NearestIn 1 t (better b 0 0)
first t true = alone t
first t false = alone t

nearest_in_lem : (n : ℕ) (t : ℤ) → NearestIn (suc n) t (nearest_in (suc n) t)
unfolding nearest_in
nearest_in_lem zero t = first t (ltb (apart 0 t) (apart 0 t))
nearest_in_lem (suc n) t = onward (suc n) (nearest_in (suc n) t) t (ltb (apart (suc n) t) (apart (nearest_in (suc n) t) t)) refl (nearest_in_lem n t)

-- document 01's sentence holds of the step worked out
pub nearest_of_lem : (t : ℤ) → Nearest t (nearest_of t)
unfolding nearest_of
nearest_of_lem t = nearest_in_lem 28 t

pub nearest_lt : (t : ℤ) → nearest_of t < 29
nearest_lt t = (nearest_of_lem t).within

pub chosen_lt : (db : Float) → chosen_of db < 29
unfolding chosen_of
chosen_lt db = nearest_lt (tenths_of db)

pub chosen_nearest : (db : Float) → Nearest (tenths_of db) (chosen_of db)
unfolding chosen_of
chosen_nearest db = nearest_of_lem (tenths_of db)

pub clamped_lt : (k : ℕ) → clamped k < 29
clamped_lt k = omega arith

lower : (t : ℤ) (j k : ℕ) → Nearest t j → Nearest t k → j < k → ⊥
lower t j k a b l = lt_irrefl (apart k t) (lt_of_lt_of_le (b.lowest j l) (a.least k b.within))

-- and of no other
pub one_nearest : (t : ℤ) (j k : ℕ) → Nearest t j → Nearest t k → j ≡ k
one_nearest t j k a b =
    let p : j < k → ⊥ = lower t j k a b in
    let q : k < j → ⊥ = lower t k j b a in
    omega arith

-- every t below zero is nearest to step 0
pub below_zero : (n : ℕ) → 0 ≡ nearest_of (negsuc n)
unfolding steps
below_zero n =
    one_nearest (negsuc n) 0 (nearest_of (negsuc n))
    (record { within = lit< tt; least = λ j l. omega arith; lowest = λ j l. absurd (not-suc-le-zero l) })
    (nearest_of_lem (negsuc n))

-- ---- one step more, with the best so far

nearer : (k best : ℕ) (t : ℤ) → best ≡ nearest_in k t → apart k t < apart best t → k ≡ nearest_in (k + 1) t
unfolding nearest_in
nearer k best t e h = simp (add-one k, sym e, lt-ltb (apart k t) (apart best t) h)

no_nearer : (k best : ℕ) (t : ℤ) → best ≡ nearest_in k t → apart best t ≤ apart k t → best ≡ nearest_in (k + 1) t
unfolding nearest_in
no_nearer k best t e h = simp (add-one k, sym e, le-ltb (apart k t) (apart best t) h)

-- ---- the steps ascend: one test of the table

abbrev ascends : List ℕ → Bool
ascends (x ∷ y ∷ xs) = ltb x y && ascends (y ∷ xs)
ascends (x ∷ []) = true
ascends [] = true

both_left : (a b : Bool) → (a && b) ≡ true → a ≡ true
both_left true b h = refl
both_left false b h = h

both_right : (a b : Bool) → (a && b) ≡ true → b ≡ true
both_right true b h = h
both_right false b h = cc

next_above : (xs : List ℕ) (k : ℕ) → suc k < length xs → ascends xs ≡ true → get_or xs k 0 < get_or xs (suc k) 0
next_above [] k l h = absurd (not-suc-le-zero l)
next_above (x ∷ []) k l h = absurd (omega arith)
next_above (x ∷ y ∷ xs) zero l h = ltb-true x y (both_left (ltb x y) (ascends (y ∷ xs)) h)
next_above (x ∷ y ∷ xs) (suc k) l h = next_above (y ∷ xs) k (omega arith) (both_right (ltb x y) (ascends (y ∷ xs)) h)

neighbour_above : (k : ℕ) → k < 28 → step_at k < step_at (suc k)
unfolding steps
neighbour_above k l = next_above steps k (omega arith) refl

above : (j k : ℕ) → j < k → k < 29 → step_at j < step_at k
above j zero l h = absurd (not-suc-le-zero l)
above j (suc k) l h =
    let here : step_at k < step_at (suc k) = neighbour_above k (omega arith) in
    up_to k (λ i. step_at i < step_at (suc k)) (λ i m. lt_trans (above i k m (omega arith)) here) here j l

-- ---- the middles between neighbouring steps: above one the upper step is nearer, up to it the lower one is taken

abbrev pub halves : List ℕ → List ℕ
halves (x ∷ y ∷ xs) = (x + y) / 2 ∷ halves (y ∷ xs)
halves (x ∷ []) = []
halves [] = []

half_at : (xs : List ℕ) (k : ℕ) → suc k < length xs → get_or (halves xs) k 0 ≡ (get_or xs k 0 + get_or xs (suc k) 0) / 2
half_at [] k l = absurd (not-suc-le-zero l)
half_at (x ∷ []) k l = absurd (omega arith)
half_at (x ∷ y ∷ xs) zero l = refl
half_at (x ∷ y ∷ xs) (suc k) l = half_at (y ∷ xs) k (omega arith)

abbrev pub middle_at : ℕ → ℕ
middle_at k = get_or (halves steps) k 0

middle_at_lem : (k : ℕ) → k < 28 → middle_at k ≡ (step_at k + step_at (suc k)) / 2
unfolding steps
middle_at_lem k l = half_at steps k (omega arith)

pub nearest_first : (k n : ℕ) (t : ℤ) → n ≡ nearest_in (k + 1) t → NearestIn (suc k) t n
nearest_first k n t e = subst (NearestIn (suc k) t) (ap (λ (m : ℕ). nearest_in m t) (sym (add-one k)) ∙ sym e) (nearest_in_lem k t)

-- before any middle is looked at
pub none_counted : (t : ℤ) → 0 ≡ nearest_in 1 t
none_counted t = let w = (nearest_in_lem 0 t).within in omega arith

-- A middle below t: so is its lower step k, which is therefore nearer than all before it, and the upper one is nearer still. Else k is no farther than
-- the upper one, and the best so far no farther than k.
by_middle : (k n t : ℕ) (b : Bool) → ltb (middle_at k) t ≡ b → k < 28 → n ≡ nearest_in (k + 1) (pos t) → n + bool_byte b ≡ nearest_in (k + 1 + 1) (pos t)
by_middle k n t true e l h =
    let m : middle_at k < t = ltb-true (middle_at k) t e in
    let half = middle_at_lem k l in
    let up = neighbour_above k l in
    let d : apart (suc k) (pos t) < apart k (pos t) = omega arith in
    let so_far = nearest_first k n (pos t) h in
    let near = so_far.least k (lt-suc_self k) in
    let last : n < k → ⊥ = λ b. let p = above n k b (omega arith) in omega arith in
    let same : n ≡ k = let w = so_far.within in omega arith in
    let upper : apart (k + 1) (pos t) < apart n (pos t) = rw (same, add-one k) d in
    ap (λ (x : ℕ). x + 1) same ∙ nearer (k + 1) n (pos t) h upper
by_middle k n t false e l h =
    let m : t ≤ middle_at k = ltb-false (middle_at k) t e in
    let half = middle_at_lem k l in
    let up = neighbour_above k l in
    let d : apart k (pos t) ≤ apart (suc k) (pos t) = omega arith in
    let near = (nearest_first k n (pos t) h).least k (lt-suc_self k) in
    let upper : apart n (pos t) ≤ apart (k + 1) (pos t) = rw (add-one k) (le_trans near d) in
    let z : n + 0 ≡ n = omega arith in
    z ∙ no_nearer (k + 1) n (pos t) h upper

-- one turn of the count
pub counted : (k n t : ℕ) → k < 28 → n ≡ nearest_in (k + 1) (pos t) → n + bool_byte (ltb (middle_at k) t) ≡ nearest_in (k + 1 + 1) (pos t)
counted k n t = by_middle k n t (ltb (middle_at k) t) refl
