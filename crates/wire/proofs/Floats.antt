-- binary32 by its bits, for every pattern: which patterns are the one NaN, and the way there and back.
-- Assumes nothing.
use Prim.Native.Nat.{ℕ, ◌%◌, ◌<◌, ◌≤◌}
use mathlib.Core.Path.{◌≡◌, refl, sym, ap, ◌∙◌, subst}
use mathlib.Core.Bool.{true, false, not}
use native.Mathlib.Omega.{arith}
use borrow.Author.Tests.{lt-ltb, le-ltb}
use lib.Dec.{T}
use lib.Ieee.{Float, nan, inf, fin, ne, div, is_nan, nan_bits, of_bits, to_bits, binary32}
use lib.Ieee.Bits.{nan_bits_is, nan_bits_above, to_bits-of_bits}
use lib.Ieee.Compare.{differs_from_itself}

-- a value that differs from itself is the NaN
pub nan_bits_lem : (x : Float) → ne x x ≡ true → 0x7fc0_0000 ≡ to_bits binary32 x
unfolding to_bits
nan_bits_lem x h = sym (ap (to_bits binary32) (differs_from_itself x (subst T (sym h) tt)))

-- and one that does not is not
pub no_nan : (x : Float) → ne x x ≡ false → T (not (is_nan x))
unfolding ne is_nan
no_nan nan h =
    let z : ◌≡◌ {A = ℕ} 0 1 = cc in
    absurd (omega arith)
no_nan (inf s) h = tt
no_nan (fin s m e) h = tt

is_nan_lem : (x : Float) → is_nan x ≡ true → nan ≡ x
unfolding is_nan
is_nan_lem nan h = refl
is_nan_lem (inf s) h =
    let z : ◌≡◌ {A = ℕ} 0 1 = cc in
    absurd (omega arith)
is_nan_lem (fin s m e) h =
    let z : ◌≡◌ {A = ℕ} 0 1 = cc in
    absurd (omega arith)

-- the patterns above infinity's
pub nan_above : (n : ℕ) → 0x7f80_0000 < n % 0x8000_0000 → div binary32 (of_bits binary32 0) (of_bits binary32 0) ≡ of_bits binary32 n
unfolding div of_bits
nan_above n h = is_nan_lem (of_bits binary32 n) (sym (nan_bits_is binary32 n) ∙ nan_bits_above binary32 n ∙ lt-ltb 0x7f80_0000 (n % 0x8000_0000) h)

pub no_nan_above : (n : ℕ) → n % 0x8000_0000 ≤ 0x7f80_0000 → T (not (nan_bits binary32 n))
no_nan_above n h =
    let none : nan_bits binary32 n ≡ false = nan_bits_above binary32 n ∙ le-ltb 0x7f80_0000 (n % 0x8000_0000) h in
    subst (λ b. T (not b)) (sym none) tt

-- there and back: a NaN's pattern becomes the one pattern, and each other is kept
pub nan_pattern : (n : ℕ) → 0x7f80_0000 < n % 0x8000_0000 → to_bits binary32 (of_bits binary32 n) ≡ 0x7fc0_0000
unfolding to_bits div of_bits
nan_pattern n h = sym (ap (to_bits binary32) (nan_above n h))

pub own_pattern : (n : ℕ) → n < 0x1_0000_0000 → n % 0x8000_0000 ≤ 0x7f80_0000 → to_bits binary32 (of_bits binary32 n) ≡ n
own_pattern n fits h =
    to_bits-of_bits binary32 n fits (subst (λ b. T (not b)) (nan_bits_is binary32 n) (no_nan_above n h))
