-- A signed number and its bits at a width: each is the other's inverse, within the width. The width is said by half the numbers that it has.
-- Assumes nothing.
use mathlib.Core.Path.{◌≡◌, refl, ap, ◌∙◌, subst}
use mathlib.Core.Bool.{Bool, true, false, cond}
use Prim.Native.Nat.{ℕ, zero, suc, ◌-◌, ◌*◌, ◌%◌, ◌^◌, ◌<◌, ◌≤◌}
use native.Mathlib.Nat.{lt_of_lt_of_le, mod-lt, mod-eq_of_lt, zero-add}
use native.Mathlib.Omega.{arith}
use borrow.Author.Tests.{ltb-true, ltb-false, lt-ltb, le-ltb}
use mir.Syntax.{w32}
use mir.Val.{to_z, of_z}
use mir.ValLaws.{to_z-of_z}
use lib.Dec.{T, ltb}
use lib.IntN.{ℤ, pos, negsuc, ◌-ℤ◌}
use lib.Signed.{lt_z, mag}
use Rattle.fir.specs.Packing.{low_of, signed_of, within}

-- ---- by the sign

-- below zero -1 - z is the number that mag gives
pub turned : (z : ℤ) → lt_z z (pos 0) ≡ true → negsuc 0 -ℤ z ≡ pos (mag z)
turned (pos n) h = absurd (let l : n < 0 = ltb-true n 0 h in omega arith)
turned (negsuc n) h =
    let e : suc n - 1 ≡ n = omega arith in
    let l : 1 ≤ suc n = omega arith in
    simp (le-ltb (suc n) 1 l) (ap pos e)

pub plain : (z : ℤ) → lt_z z (pos 0) ≡ false → z ≡ pos (mag z)
plain (pos n) h = refl
plain (negsuc n) h = absurd (subst T h tt)

pub low_under : (half : ℕ) (z : ℤ) → lt_z z (pos 0) ≡ true → 2 * half - 1 - mag z % (2 * half) ≡ low_of half z
low_under half (pos n) h = absurd (let l : n < 0 = ltb-true n 0 h in omega arith)
low_under half (negsuc n) h = refl

pub low_over : (half : ℕ) (z : ℤ) → lt_z z (pos 0) ≡ false → mag z % (2 * half) ≡ low_of half z
low_over half (pos n) h = refl
low_over half (negsuc n) h = absurd (subst T h tt)

-- ---- there and back

pub low_lt : (half : ℕ) (z : ℤ) → 0 < half → low_of half z < 2 * half
low_lt half (pos n) h = let p : 0 < 2 * half = omega arith in mod-lt n p
low_lt half (negsuc n) h = omega arith

pub signed_low : (half : ℕ) (z : ℤ) → within half z ≡ true → signed_of half (low_of half z) ≡ z
signed_low half (pos n) h =
    let l : n < half = ltb-true n half h in
    let e : n % (2 * half) ≡ n = mod-eq_of_lt (omega arith) in
    simp (e, lt-ltb n half l)
signed_low half (negsuc n) h =
    let l : n < half = ltb-true n half h in
    let e : n % (2 * half) ≡ n = mod-eq_of_lt (omega arith) in
    let g : half ≤ 2 * half - 1 - n = omega arith in
    let b : 2 * half - 1 - (2 * half - 1 - n) ≡ n = omega arith in
    simp (e, le-ltb (2 * half - 1 - n) half g) (ap negsuc b)

pub low_signed : (half n : ℕ) → n < 2 * half → low_of half (signed_of half n) ≡ n
low_signed half n h = go (ltb n half) refl
  where
    go : (b : Bool) → ltb n half ≡ b → low_of half (cond b (pos n) (negsuc (2 * half - 1 - n))) ≡ n
    go true e = mod-eq_of_lt h
    go false e =
        let l : 2 * half - 1 - n < 2 * half = omega arith in
        let b : 2 * half - 1 - (2 * half - 1 - n) ≡ n = omega arith in
        ap (λ (m : ℕ). 2 * half - 1 - m) (mod-eq_of_lt l) ∙ b

-- every number stands for one within the width
pub signed_within : (half n : ℕ) → 0 < half → within half (signed_of half n) ≡ true
signed_within half n h = go (ltb n half) refl
  where
    go : (b : Bool) → ltb n half ≡ b → within half (cond b (pos n) (negsuc (2 * half - 1 - n))) ≡ true
    go true e = e
    go false e = let l : half ≤ n = ltb-false n half e in lt-ltb (2 * half - 1 - n) half (omega arith)

pub minus : (m : ℕ) → negsuc 0 -ℤ pos m ≡ negsuc m
minus zero = refl
minus (suc m) = ap (λ (k : ℕ). negsuc (suc k)) (zero-add m)

-- ---- as the machine holds it

-- a number of an i32, put into its 32 bits and read back
pub kept : (z : ℤ) → mag z < 2 ^ 31 → to_z w32 (of_z w32 z) ≡ z
kept z h = to_z-of_z w32 z (record { sfits = h })

pub told : (half n : ℕ) (z : ℤ) → 0 < half → half ≤ 2048 → z ≡ signed_of half n → to_z w32 (of_z w32 z) ≡ signed_of half n
told half n z p l e =
    let h : mag (signed_of half n) < half = ltb-true (mag (signed_of half n)) half (signed_within half n p) in
    let m : half ≤ 2 ^ 31 = omega arith in
    ap (λ (y : ℤ). to_z w32 (of_z w32 y)) e ∙ kept (signed_of half n) (lt_of_lt_of_le h m)
