-- How the cut of a binary32 to an i32 is read off its bits: the value of a pattern that is no NaN's, cut, is its whole part with the pattern's
-- sign, held to the i32's range; and the whole part by ranges of the exponent's field. Assumes nothing.
use mathlib.Core.Path.{◌≡◌, refl, sym, ap, ◌∙◌, subst}
use mathlib.Core.Bool.{Bool, true, false, not, cond, true≢false}
use Prim.Native.Nat.{ℕ, zero, suc, ◌+◌, ◌-◌, ◌*◌, ◌/◌, ◌%◌, ◌^◌, ◌≤◌, ◌<◌, min}
use native.Mathlib.Nat.{add_comm, div-eq_of_lt, le-div_iff_mul-le, le_trans, lt_of_lt_of_le, min-eq_left, min-eq_right, min-le_left, le_of_eq, le_of_lt, mul_assoc, mul-le-mul, zero-add}
use native.Mathlib.Omega.{arith}
use borrow.Author.Tests.{eqb-true}
use lib.Dec.{T, eqb, leb, lit≤}
use lib.IntN.{ℤ, pos, negsuc, neg_ℤ, ◌-ℤ◌}
use lib.Pow.{pow_pos, pow_mono, pow-add, shl_lt, shl_exact, shl-shr, shr-shr, shr_le, field}
use lib.Ieee.{Float, nan, inf, fin, binary32, up, down, odd, ne, is_nan, fits, to_signed, of_fields, of_bits, to_bits}
use lib.Ieee.Bits.{of_bits-to_bits}
use lib.Ieee.Compare.{nan_differs}
use lib.Ieee.Exact.{HasValue, odd_sign}
use lib.Ieee.Fits.{down_pos}
use lib.Ieee.Nearest.{div_same}
use Rattle.gain.specs.Product.{whole_part}

-- a size with a sign, held to the range of an i32
abbrev pub held : Bool → ℕ → ℤ
held s w = cond s (neg_ℤ (pos (min w (2 ^ 31)))) (pos (min w (2 ^ 31 - 1)))

of_value : (x : Float) (s : Bool) (a c : ℕ) → 0 < c → HasValue x s a c → to_signed 31 x ≡ held s (a / c)
unfolding to_signed
of_value nan s a c C v = absurd v
of_value (inf t) s a c C v = absurd v
of_value (fin t m e) s a c C v =
    ap (λ (w : ℕ). held t w) (div_same (m * up e) (down e) a c (down_pos e) C v.1) ∙ ap (λ (u : Bool). held u (a / c)) v.0

-- ---- the whole part by the exponent's field; `full` is the digits with the leading one

pub none : (x t : ℕ) → x < 127 → t < 0x80_0000 → whole_part x t ≡ 0
unfolding whole_part
none zero t X h = div-eq_of_lt (lt_of_lt_of_le (shl_lt 23 0 h) (pow_mono {i = 23 + 0} {j = 149} (lit≤ tt)))
none (suc x) t X h =
    let full : 0x80_0000 + t < 2 ^ 24 = omega arith in
    let most : 24 + x ≤ 149 = omega arith in
    div-eq_of_lt (lt_of_lt_of_le (shl_lt 24 x full) (pow_mono {i = 24 + x} {j = 149} most))

-- digits fall off
pub fewer : (x t k : ℕ) → x + k ≡ 149 → whole_part (suc x) t ≡ (t + 0x80_0000) / 2 ^ k
unfolding whole_part
fewer x t k e =
    ap (λ (n : ℕ). (0x80_0000 + t) * 2 ^ x / 2 ^ n) (sym e)
    ∙ sym (shr-shr ((0x80_0000 + t) * 2 ^ x) x k)
    ∙ ap (λ (n : ℕ). n / 2 ^ k) (shl-shr (0x80_0000 + t) x)
    ∙ ap (λ (n : ℕ). n / 2 ^ k) (add_comm 0x80_0000 t)

-- zeros follow
pub more : (x t k : ℕ) → k + 149 ≡ x → whole_part (suc x) t ≡ (t + 0x80_0000) * 2 ^ k
unfolding whole_part
more x t k e =
    ap (λ (n : ℕ). (0x80_0000 + t) * 2 ^ n / 2 ^ 149) (sym e)
    ∙ ap (λ (n : ℕ). (0x80_0000 + t) * n / 2 ^ 149) (pow-add 2 k 149)
    ∙ ap (λ (n : ℕ). n / 2 ^ 149) (sym (mul_assoc (0x80_0000 + t) (2 ^ k) (2 ^ 149)))
    ∙ shl-shr ((0x80_0000 + t) * 2 ^ k) 149
    ∙ ap (λ (n : ℕ). n * 2 ^ k) (add_comm 0x80_0000 t)

pub past : (x t : ℕ) → 157 ≤ x → 2 ^ 31 ≤ whole_part (suc x) t
unfolding whole_part
past x t h =
    let full : 2 ^ 23 ≤ 0x80_0000 + t = omega arith in
    (le-div_iff_mul-le (pow_pos 149)).1 (le_trans (lit≤ {m = 2 ^ 31 * 2 ^ 149} {n = 2 ^ 23 * 2 ^ 157} tt) (mul-le-mul full (pow_mono {i = 157} {j = x} h)))

-- ---- the same at a field, held to 2 ^ 31 as the code holds it

fits_in : (w r : ℕ) → w ≡ r → r ≤ 2 ^ 31 → r ≡ min w (2 ^ 31)
fits_in w r e h = sym (min-eq_left h) ∙ ap (λ (n : ℕ). min n (2 ^ 31)) (sym e)

full_lt : (t : ℕ) → t < 0x80_0000 → t + 0x80_0000 < 2 ^ 24
full_lt t h = omega arith

pub is_none : (x t : ℕ) → x < 127 → t < 0x80_0000 → 0 ≡ min (whole_part x t) (2 ^ 31)
is_none x t X h = fits_in (whole_part x t) 0 (none x t X h) (lit≤ tt)

pub is_fewer : (x t : ℕ) → 127 ≤ x → x < 151 → t < 0x80_0000 → (t + 0x80_0000) / 2 ^ (150 - x) ≡ min (whole_part x t) (2 ^ 31)
is_fewer zero t L U h = absurd (omega arith)
is_fewer (suc x) t L U h =
    let k : x + (150 - suc x) ≡ 149 = omega arith in
    fits_in (whole_part (suc x) t) ((t + 0x80_0000) / 2 ^ (150 - suc x)) (fewer x t (150 - suc x) k)
    (le_trans (shr_le (t + 0x80_0000) (150 - suc x)) (le_trans (le_of_lt (full_lt t h)) (lit≤ tt)))

pub is_more : (x t : ℕ) → 151 ≤ x → x < 158 → t < 0x80_0000 → (t + 0x80_0000) * 2 ^ (x - 150) % 2 ^ 32 ≡ min (whole_part x t) (2 ^ 31)
is_more zero t L U h = absurd (omega arith)
is_more (suc x) t L U h =
    let k : suc x - 150 + 149 ≡ x = omega arith in
    let i : 24 + (suc x - 150) ≤ 31 = omega arith in
    let j : 24 + (suc x - 150) ≤ 32 = omega arith in
    shl_exact 24 (suc x - 150) 32 (full_lt t h) j
    ∙ fits_in (whole_part (suc x) t) ((t + 0x80_0000) * 2 ^ (suc x - 150)) (more x t (suc x - 150) k)
    (le_of_lt (lt_of_lt_of_le (shl_lt 24 (suc x - 150) (full_lt t h)) (pow_mono {i = 24 + (suc x - 150)} {j = 31} i)))

pub is_past : (x t : ℕ) → 158 ≤ x → 2 ^ 31 ≡ min (whole_part x t) (2 ^ 31)
is_past zero t L = absurd (omega arith)
is_past (suc x) t L = let l : 157 ≤ x = omega arith in sym (min-eq_right (past x t l))

-- ---- a pattern that is no NaN's

-- an infinity is cut to the end of the range on its side, as any size past the range is
at_the_end : (s : Bool) (w : ℕ) → 2 ^ 31 ≤ w → to_signed 31 (inf s) ≡ held s w
unfolding to_signed
at_the_end true w h = ap (λ (n : ℕ). neg_ℤ (pos n)) (sym (min-eq_right h))
at_the_end false w h = ap pos (sym (min-eq_right (le_trans (lit≤ tt) h)))

above : (s : Bool) (x t : ℕ) (b z : Bool) → eqb (suc x) 255 ≡ b
    → T (not (is_nan (cond b (cond z (inf s) nan) (odd 24 s (0x80_0000 + t) x 149))))
    → to_signed 31 (cond b (cond z (inf s) nan) (odd 24 s (0x80_0000 + t) x 149)) ≡ held s (whole_part (suc x) t)
unfolding is_nan whole_part
above s x t false z e h = of_value (odd 24 s (0x80_0000 + t) x 149) s ((0x80_0000 + t) * 2 ^ x) (2 ^ 149) (pow_pos 149) (odd_sign 24 s (0x80_0000 + t) x 149)
above s x t true true e h = at_the_end s (whole_part (suc x) t) (past x t (all_ones x (eqb-true (suc x) 255 e)))
  where
    all_ones : (n : ℕ) → suc n ≡ 255 → 157 ≤ n
    all_ones n e = omega arith
above s x t true false e h = absurd h

of_fields_lem : (s : Bool) (x t : ℕ) → T (not (is_nan (of_fields binary32 s x t))) → to_signed 31 (of_fields binary32 s x t) ≡ held s (whole_part x t)
unfolding of_fields whole_part
of_fields_lem s zero t h = of_value (odd 24 s t 0 149) s (t * 2 ^ 0) (2 ^ 149) (pow_pos 149) (odd_sign 24 s t 0 149)
of_fields_lem s (suc x) t h = above s x t (eqb (suc x) 255) (eqb t 0) refl h

-- the whole part of a pattern, by its two fields
abbrev pub whole_of : ℕ → ℕ
whole_of b = whole_part (b / 0x80_0000 % 256) (b % 0x80_0000)

of_bits_lem : (b : ℕ) → T (not (is_nan (of_bits binary32 b))) → to_signed 31 (of_bits binary32 b) ≡ held (leb 0x8000_0000 b) (whole_of b)
unfolding of_bits
of_bits_lem b h =
    of_fields_lem (leb 0x8000_0000 b) (b % 0x8000_0000 / 0x80_0000) (b % 0x80_0000) h
    ∙ ap (λ (x : ℕ). held (leb 0x8000_0000 b) (whole_part x (b % 0x80_0000))) (field b 8 23)

pub of_float : (x : Float) → T (fits binary32 x) → T (not (is_nan x)) → to_signed 31 x ≡ held (leb 0x8000_0000 (to_bits binary32 x)) (whole_of (to_bits binary32 x))
of_float x f h =
    let e : of_bits binary32 (to_bits binary32 x) ≡ x = of_bits-to_bits binary32 x f in
    ap (to_signed 31) (sym e) ∙ of_bits_lem (to_bits binary32 x) (subst (λ (y : Float). T (not (is_nan y))) (sym e) h)

-- what passes the test `x != x` is no NaN
pub no_nan : (x : Float) → ne x x ≡ false → T (not (is_nan x))
unfolding is_nan
no_nan nan h = absurd (true≢false (sym nan_differs ∙ h))
no_nan (inf s) h = tt
no_nan (fin s m e) h = tt

-- ---- from the size n that the code has, the whole part held to 2 ^ 31, to the answer

pub inside : (w n : ℕ) → n ≡ min w (2 ^ 31) → n < 2 ^ 31 → pos n ≡ held false w
inside w n e h = ap pos (omega arith)

pub outside : (w n : ℕ) → n ≡ min w (2 ^ 31) → 2 ^ 31 ≤ n → pos 0x7fff_ffff ≡ held false w
outside w n e h = ap pos (sym (min-eq_right (le_trans (lit≤ tt) (le_trans h (le_trans (le_of_eq e) (min-le_left w (2 ^ 31)))))))

pub nought : (w n : ℕ) → n ≡ min w (2 ^ 31) → n ≡ 0 → pos 0 ≡ held true w
nought w n e h = ap (λ (m : ℕ). neg_ℤ (pos m)) (sym h ∙ e)

-- -1 - (n - 1) is -n
pub negated : (w n : ℕ) → n ≡ min w (2 ^ 31) → 0 < n → negsuc 0 -ℤ pos (n - 1) ≡ held true w
negated w n e h = less n h ∙ ap (λ (m : ℕ). neg_ℤ (pos m)) e
  where
    less : (n : ℕ) → 0 < n → negsuc 0 -ℤ pos (n - 1) ≡ neg_ℤ (pos n)
    less zero h = absurd (omega arith)
    less (suc zero) h = refl
    less (suc (suc n)) h = let e : suc (suc n) - 1 ≡ suc n = omega arith in ap (λ (m : ℕ). negsuc 0 -ℤ pos m) e ∙ ap (λ (m : ℕ). negsuc (suc m)) (zero-add n)
