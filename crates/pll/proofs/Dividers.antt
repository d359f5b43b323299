-- The divider, by intervals of lo; that it is the first right one of its list; and that one exists exactly in document 01's range.
-- Assumes nothing.
use Rattle.std.proofs.Common.{◌≡◌, ℕ, zero, suc, ◌+◌, ◌*◌, ◌<◌, ◌≤◌, Bool, true, false, cond, ◌&&◌, T, ltb, leb, ◌⊎◌, List, [], ◌∷◌, Option, Some, None, length, get_or, refl, ap, subst, inl, inr, ⊎_elim, le_of_suc-le-suc, not-suc-le-zero, mul-le-mul_left, arith, ltb-false, ltb-true, le-ltb, lt-ltb, le-leb, leb-true}
use mir.Facts.{and_yes, leb_yes}
use borrow.Author.Tests.{lt-leb}
use Rattle.below.proofs.Test.{below}
use Rattle.pll.specs.Divide.{in_vco, first_mixer, dividers, divider_of}

-- lo·m is below, in, or above the oscillator's range
under : (lo m : ℕ) → lo * m < 1_770_000_000 → in_vco lo m ≡ false
unfolding in_vco
under lo m h = simp (lt-leb _ _ h)

within : (lo m : ℕ) → 1_770_000_000 ≤ lo * m → lo * m < 3_600_000_000 → in_vco lo m ≡ true
unfolding in_vco
within lo m h k = simp (le-leb _ _ h, lt-ltb _ _ k)

over : (lo m : ℕ) → 3_600_000_000 ≤ lo * m → in_vco lo m ≡ false
unfolding in_vco
over lo m h =
    let l : 1_770_000_000 ≤ lo * m = omega arith in
    simp (le-leb _ _ l, le-ltb _ _ h)

pub both : (a b : Bool) → (a && b) ≡ true → (a ≡ true) × (b ≡ true)
both true b e = (refl, e)
both false b e = (e, let z : ◌≡◌ {A = ℕ} 0 1 = cc in absurd (omega arith))

-- and back
vco_range : (lo m : ℕ) → in_vco lo m ≡ true → (1_770_000_000 ≤ lo * m) × (lo * m < 3_600_000_000)
unfolding in_vco
vco_range lo m e =
    let r : (leb 1_770_000_000 (lo * m) ≡ true) × (ltb (lo * m) 3_600_000_000 ≡ true) = both (leb 1_770_000_000 (lo * m)) (ltb (lo * m) 3_600_000_000) e in
    (leb-true _ _ r.0, ltb-true _ _ r.1)

-- each divider, by its interval
pub by2 : (lo : ℕ) → 885_000_000 ≤ lo → lo < 1_800_000_000 → divider_of lo ≡ Some (2, 0)
unfolding first_mixer
by2 lo h k = simp (within lo 2 (omega arith) (omega arith))

pub by4 : (lo : ℕ) → 442_500_000 ≤ lo → lo < 885_000_000 → divider_of lo ≡ Some (4, 1)
unfolding first_mixer
by4 lo h k = simp (under lo 2 (omega arith), within lo 4 (omega arith) (omega arith))

pub by8 : (lo : ℕ) → 221_250_000 ≤ lo → lo < 442_500_000 → divider_of lo ≡ Some (8, 2)
unfolding first_mixer
by8 lo h k = simp (under lo 2 (omega arith), under lo 4 (omega arith), within lo 8 (omega arith) (omega arith))

pub by16 : (lo : ℕ) → 110_625_000 ≤ lo → lo < 221_250_000 → divider_of lo ≡ Some (16, 3)
unfolding first_mixer
by16 lo h k =
    simp (under lo 2 (omega arith), under lo 4 (omega arith), under lo 8 (omega arith), within lo 16 (omega arith) (omega arith))

pub by32 : (lo : ℕ) → 55_312_500 ≤ lo → lo < 110_625_000 → divider_of lo ≡ Some (32, 4)
unfolding first_mixer
by32 lo h k =
    simp
    (under lo 2 (omega arith), under lo 4 (omega arith), under lo 8 (omega arith), under lo 16 (omega arith), within lo 32 (omega arith) (omega arith))

pub by64 : (lo : ℕ) → 27_656_250 ≤ lo → lo < 55_312_500 → divider_of lo ≡ Some (64, 5)
unfolding first_mixer
by64 lo h k =
    simp
    (under lo 2 (omega arith), under lo 4 (omega arith), under lo 8 (omega arith), under lo 16 (omega arith), under lo 32 (omega arith), within lo 64 (omega arith) (omega arith))

pub too_low : (lo : ℕ) → lo < 27_656_250 → divider_of lo ≡ None
unfolding first_mixer
too_low lo h =
    simp
    (under lo 2 (omega arith), under lo 4 (omega arith), under lo 8 (omega arith), under lo 16 (omega arith), under lo 32 (omega arith), under lo 64 (omega arith))

pub too_high : (lo : ℕ) → 1_800_000_000 ≤ lo → divider_of lo ≡ None
unfolding first_mixer
too_high lo h =
    simp
    (over lo 2 (omega arith), over lo 4 (omega arith), over lo 8 (omega arith), over lo 16 (omega arith), over lo 32 (omega arith), over lo 64 (omega arith))

-- `pll::divider` meets its contract by these alone: its attribute names them
pub ruleset intervals = (by2, by4, by8, by16, by32, by64, too_low, too_high)

-- m stands in the list at the place k (counted from `number`), is right, and none before it is
pub record First (lo : ℕ) (ms : List ℕ) (number m k : ℕ) : Type 0 where
  pub place : ℕ
  pub counted : k ≡ number + place
  pub inside : place < length ms
  pub stands : get_or ms place 0 ≡ m
  pub right : in_vco lo m ≡ true
  pub before : (i : ℕ) → i < place → in_vco lo (get_or ms i 0) ≡ false

first_here : (lo m : ℕ) (ms : List ℕ) (number m' k : ℕ) → in_vco lo m ≡ true → ◌≡◌ {A = Option (ℕ × ℕ)} (Some (m, number)) (Some (m', k)) → First lo (m ∷ ms) number m' k
first_here lo m ms number m' k e same =
    let pair : ◌≡◌ {A = ℕ × ℕ} (m, number) (m', k) = cc in
    let p : m ≡ m' = ap (λ (x : ℕ × ℕ). x.0) pair in
    let q : number ≡ k = ap (λ (x : ℕ × ℕ). x.1) pair in
    record {
      place = 0;
      counted = omega arith;
      inside = omega arith;
      stands = p;
      right = subst (λ (n : ℕ). in_vco lo n ≡ true) p e;
      before = λ i h. absurd (not-suc-le-zero h);
    }

first_later : (lo m : ℕ) (ms : List ℕ) (number m' k : ℕ) → in_vco lo m ≡ false → First lo ms (number + 1) m' k → First lo (m ∷ ms) number m' k
first_later lo m ms number m' k e f =
    record {
      place = suc f.place;
      counted = let c = f.counted in omega arith;
      inside = let l = f.inside in omega arith;
      stands = f.stands;
      right = f.right;
      before = earlier;
    }
  where
    earlier : (i : ℕ) → i < suc f.place → in_vco lo (get_or (m ∷ ms) i 0) ≡ false
    earlier zero h = e
    earlier (suc i) h = f.before i (le_of_suc-le-suc h)

step : (lo m : ℕ) (ms : List ℕ) (number m' k : ℕ) (b : Bool)
    → in_vco lo m ≡ b
    → cond b (Some (m, number)) (first_mixer lo ms (number + 1)) ≡ Some (m', k)
    → (first_mixer lo ms (number + 1) ≡ Some (m', k) → First lo ms (number + 1) m' k)
    → First lo (m ∷ ms) number m' k
step lo m ms number m' k true e same later = first_here lo m ms number m' k e same
step lo m ms number m' k false e same later = first_later lo m ms number m' k e (later same)

-- the divider found is the first right one: of any list
pub first : (lo : ℕ) (ms : List ℕ) (number m k : ℕ) → first_mixer lo ms number ≡ Some (m, k) → First lo ms number m k
unfolding first_mixer
first lo [] number m k e = let z : ◌≡◌ {A = ℕ} 0 1 = cc in absurd (omega arith)
first lo (x ∷ ms) number m k e = step lo x ms number m k (in_vco lo x) refl e (first lo ms (number + 1) m k)

-- and where none is found, none is right
abbrev pub AllWrong : ℕ → List ℕ → Type 0
AllWrong lo ms = (i : ℕ) → i < length ms → in_vco lo (get_or ms i 0) ≡ false

none_step : (lo m : ℕ) (ms : List ℕ) (number : ℕ) (b : Bool)
    → in_vco lo m ≡ b
    → cond b (Some (m, number)) (first_mixer lo ms (number + 1)) ≡ None
    → (first_mixer lo ms (number + 1) ≡ None → AllWrong lo ms)
    → AllWrong lo (m ∷ ms)
none_step lo m ms number true t e later i h = let z : ◌≡◌ {A = ℕ} 0 1 = cc in absurd (omega arith)
none_step lo m ms number false t e later zero h = t
none_step lo m ms number false t e later (suc i) h = later e i (le_of_suc-le-suc h)

pub none : (lo : ℕ) (ms : List ℕ) (number : ℕ) → first_mixer lo ms number ≡ None → AllWrong lo ms
unfolding first_mixer
none lo [] number e = λ i h. absurd (not-suc-le-zero h)
none lo (m ∷ ms) number e = none_step lo m ms number (in_vco lo m) refl e (none lo ms (number + 1))

-- so is the one of `divider_of`; its number is at most 5 and it is one of 2 .. 64
pub record Found (lo m k : ℕ) : Type 0 where
  pub low : 1_770_000_000 ≤ lo * m
  pub high : lo * m < 3_600_000_000
  pub small : k ≤ 5
  pub least : 2 ≤ m
  pub most : m ≤ 64

-- each of the list is one of 2 .. 64
fair : ℕ → Bool
fair j = leb 2 (get_or dividers j 0) && leb (get_or dividers j 0) 64

one_of : (j : ℕ) → j < 6 → (2 ≤ get_or dividers j 0) × (get_or dividers j 0 ≤ 64)
unfolding fair
one_of j h =
    let t : T (leb 2 (get_or dividers j 0)) × T (leb (get_or dividers j 0) 64) = and_yes (leb 2 (get_or dividers j 0)) (leb (get_or dividers j 0) 64) (below fair 6 tt j h) in
    (leb_yes t.0, leb_yes t.1)

pub found : (lo m k : ℕ) → divider_of lo ≡ Some (m, k) → Found lo m k
found lo m k e =
    let f : First lo dividers 0 m k = first lo dividers 0 m k e in
    let r : (1_770_000_000 ≤ lo * m) × (lo * m < 3_600_000_000) = vco_range lo m f.right in
    let b : (2 ≤ get_or dividers f.place 0) × (get_or dividers f.place 0 ≤ 64) = one_of f.place f.inside in
    let s : get_or dividers f.place 0 ≡ m = f.stands in
    record {
      low = r.0;
      high = r.1;
      small = omega (arith, f.counted, f.inside);
      least = subst (λ (n : ℕ). 2 ≤ n) s b.0;
      most = subst (λ (n : ℕ). n ≤ 64) s b.1;
    }

-- one exists exactly if 27,656,250 ≤ lo < 1,800,000,000
pub only : (lo m k : ℕ) → divider_of lo ≡ Some (m, k) → (27_656_250 ≤ lo) × (lo < 1_800_000_000)
only lo m k e =
    let f : Found lo m k = found lo m k e in
    (omega (arith, mul-le-mul_left lo f.most, f.low), omega (arith, mul-le-mul_left lo f.least, f.high))

pub below_or : (a b : ℕ) → (a < b) ⊎ (b ≤ a)
below_or a b = go (ltb a b) refl
  where
    go : (t : Bool) → ltb a b ≡ t → (a < b) ⊎ (b ≤ a)
    go true e = inl (ltb-true a b e)
    go false e = inr (ltb-false a b e)

pub exists : (lo : ℕ) → 27_656_250 ≤ lo → lo < 1_800_000_000 → (m : ℕ) × (k : ℕ) × (divider_of lo ≡ Some (m, k))
exists lo h k =
    or_else 885_000_000 (λ a. (2, 0, by2 lo a k))
    (λ b. or_else 442_500_000 (λ a. (4, 1, by4 lo a b))
    (λ b. or_else 221_250_000 (λ a. (8, 2, by8 lo a b))
    (λ b. or_else 110_625_000 (λ a. (16, 3, by16 lo a b))
    (λ b. or_else 55_312_500 (λ a. (32, 4, by32 lo a b)) (λ b. (64, 5, by64 lo h b))))))
  where
    or_else : (at : ℕ) → (at ≤ lo → (m : ℕ) × (k : ℕ) × (divider_of lo ≡ Some (m, k))) → (lo < at → (m : ℕ) × (k : ℕ) × (divider_of lo ≡ Some (m, k))) → (m : ℕ) × (k : ℕ) × (divider_of lo ≡ Some (m, k))
    or_else at above under = ⊎_elim under above (below_or lo at)
