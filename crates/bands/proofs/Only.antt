-- At most one band of a well-formed table holds a frequency: the plan is that band's, whichever way the table is searched. Assumes nothing.
use Prim.Native.Nat.{ℕ, zero, suc, ◌%◌, ◌<◌, ◌≤◌}
use mathlib.Core.Path.{◌≡◌, refl, ap}
use mathlib.Core.Bool.{Bool, true, false, ◌&&◌, and-false}
use mathlib.Core.List.{List, [], ◌∷◌}
use native.Mathlib.Omega.{arith}
use borrow.Author.Tests.{leb-true, lt-leb}
use lib.Dec.{eqb, leb}
use lib.ListN.{length}
use Rattle.refusals.specs.Table.{FREQUENCY}
use Rattle.bands.specs.declared.Band.{Band}
use Rattle.bands.specs.Formed.{nth}
use Rattle.bands.specs.Tables.{ascending, bands_of, fits_of, holds, plan_at, plan_by, plan_in, refused, table_ok}

pub both : (a b : Bool) → a && b ≡ true → (a ≡ true) × (b ≡ true)
both true b h = (refl, h)
both false b h =
    let z : ◌≡◌ {A = ℕ} 0 1 = cc in
    absurd (omega arith)

-- what the tests say of a band
pub record Fitting (b : Band) : Type 0 where
  pub order : b.first ≤ b.last
  pub inverted : b.inverted ≤ 1
  pub path : b.path ≤ 3
  pub notch : b.notch ≤ 1

pub fitting : (b : Band) → fits_of b ≡ true → Fitting b
fitting b h =
    let u = both (leb b.first b.last && leb b.inverted 1 && leb b.path 3) (leb b.notch 1) h in
    let v = both (leb b.first b.last && leb b.inverted 1) (leb b.path 3) u.0 in
    let w = both (leb b.first b.last) (leb b.inverted 1) v.0 in
    record {
      order = leb-true b.first b.last w.0;
      inverted = leb-true b.inverted 1 w.1;
      path = leb-true b.path 3 v.1;
      notch = leb-true b.notch 1 u.1;
    }

-- and of the first band and those behind it
pub record Begins (least : ℕ) (b : Band) (bs : List Band) : Type 0 where
  pub fit : Fitting b
  pub from : least ≤ b.first
  pub rest : ascending (suc b.last) bs ≡ true

pub begins : (least : ℕ) (b : Band) (bs : List Band) → ascending least (b ∷ bs) ≡ true → Begins least b bs
unfolding ascending
begins least b bs h =
    let p = both (fits_of b && leb least b.first) (ascending (suc b.last) bs) h in
    let q = both (fits_of b) (leb least b.first) p.0 in
    record { fit = fitting b q.0; from = leb-true least b.first q.1; rest = p.1 }

pub held : (b : Band) (hz : ℕ) → holds b hz ≡ true → (b.first ≤ hz) × (hz ≤ b.last)
held b hz h =
    let p = both (leb b.first hz) (leb hz b.last) h in
    (leb-true b.first hz p.0, leb-true hz b.last p.1)

module _ (hz : ℕ) where
  -- a band that holds it lies above
  above : (least : ℕ) (bs : List Band) → ascending least bs ≡ true → (i : ℕ) → i < length bs → holds (nth bs i) hz ≡ true → least ≤ hz
  above least [] h i l t = absurd (omega (arith, l))
  above least (b ∷ bs) h zero l t = omega (arith, (begins least b bs h).from, (held b hz t).0)
  above least (b ∷ bs) h (suc i) l t =
      let g = begins least b bs h in
      let next : suc b.last ≤ hz = above (suc b.last) bs g.rest i (omega (arith, l)) t in
      omega (arith, next, g.fit.order, g.from)

  one : (least : ℕ) (bs : List Band) → ascending least bs ≡ true → (i j : ℕ) → i < length bs → j < length bs
      → holds (nth bs i) hz ≡ true → holds (nth bs j) hz ≡ true → i ≡ j
  one least [] h i j l m t u = absurd (omega (arith, l))
  one least (b ∷ bs) h zero zero l m t u = refl
  one least (b ∷ bs) h zero (suc j) l m t u =
      let next : suc b.last ≤ hz = above (suc b.last) bs (begins least b bs h).rest j (omega (arith, m)) u in
      absurd (omega (arith, next, (held b hz t).1))
  one least (b ∷ bs) h (suc i) zero l m t u =
      let next : suc b.last ≤ hz = above (suc b.last) bs (begins least b bs h).rest i (omega (arith, l)) t in
      absurd (omega (arith, next, (held b hz u).1))
  one least (b ∷ bs) h (suc i) (suc j) l m t u =
      ap suc (one (suc b.last) bs (begins least b bs h).rest i j (omega (arith, l)) (omega (arith, m)) t u)

  chosen : (least : ℕ) (bs : List Band) → ascending least bs ≡ true → (i : ℕ) → i < length bs → holds (nth bs i) hz ≡ true
      → plan_in bs hz ≡ plan_at (nth bs i) hz
  unfolding plan_in
  chosen least [] h i l t = absurd (omega (arith, l))
  chosen least (b ∷ bs) h zero l t = rw t
  chosen least (b ∷ bs) h (suc i) l t =
      let g = begins least b bs h in
      let next : suc b.last ≤ hz = above (suc b.last) bs g.rest i (omega (arith, l)) t in
      rw (lt-leb hz b.last next, and-false) (chosen (suc b.last) bs g.rest i (omega (arith, l)) t)

  pub nowhere : (bs : List Band) → ((i : ℕ) → i < length bs → holds (nth bs i) hz ≡ false) → plan_in bs hz ≡ refused FREQUENCY
  unfolding plan_in
  nowhere [] h = refl
  nowhere (b ∷ bs) h = rw (h 0 (omega arith)) (nowhere bs (λ i l. h (suc i) (omega (arith, l))))

pub ascends : (s : List ℕ) → table_ok s ≡ true → ascending 0 (bands_of s) ≡ true
unfolding table_ok
ascends s h = (both (eqb (length s % 27) 0 && leb (length s) 432) (ascending 0 (bands_of s)) h).1

-- "Bands ascend and don't overlap"
module _ (s : List ℕ) (ok : table_ok s ≡ true) (hz i : ℕ) (l : i < length (bands_of s)) (t : holds (nth (bands_of s) i) hz ≡ true) where
  pub only_one : (j : ℕ) → j < length (bands_of s) → holds (nth (bands_of s) j) hz ≡ true → i ≡ j
  only_one j m u = one hz 0 (bands_of s) (ascends s ok) i j l m t u

  pub by_its_band : plan_by s hz ≡ plan_at (nth (bands_of s) i) hz
  unfolding plan_by
  by_its_band = rw ok (chosen hz 0 (bands_of s) (ascends s ok) i l t)

pub by_no_band : (s : List ℕ) (hz : ℕ) → table_ok s ≡ true → ((i : ℕ) → i < length (bands_of s) → holds (nth (bands_of s) i) hz ≡ false)
    → plan_by s hz ≡ refused FREQUENCY
unfolding plan_by
by_no_band s hz ok h = rw ok (nowhere hz (bands_of s) h)
