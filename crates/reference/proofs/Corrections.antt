-- The corrected reference by the sign of ppm, over whole numbers without a sign, as the code works it out. Assumes nothing.
use mathlib.Core.Path.{◌≡◌, refl, sym, ap, ◌∙◌, subst}
use mathlib.Core.Bool.{Bool, true, false, cond, ◌&&◌}
use Prim.Native.Nat.{ℕ, zero, suc, ◌+◌, ◌-◌, ◌*◌, ◌/◌, ◌≤◌, ◌<◌}
use native.Mathlib.Omega.{arith}
use lib.Dec.{T, leb, ltb}
use mir.Facts.{and_yes, leb_yes}
use lib.IntN.{ℤ, pos, negsuc, neg_ℤ, nat_abs, ◌+ℤ◌, ◌*ℤ◌}
use lib.Signed.{quot_z, lt_z}
use borrow.Author.Tests.{le-ltb, le-leb, ltb-true}
use Rattle.std.specs.Prelude.{Some, None}
use Rattle.reference.specs.Correct.{accept_of, corrected_of}

-- no number that is not negative is below 0
pub not_below {ℓ} : {X : Type ℓ} (n : ℕ) → ltb n 0 ≡ true → X
not_below n t = let l : n < 0 = ltb-true n 0 t in absurd (omega arith)

-- what is added or taken off
abbrev pub share_of : ℕ → ℤ → ℕ
share_of n z = n * nat_abs z / 1_000_000

quot_neg : (p : ℕ) → quot_z (neg_ℤ (pos p)) (pos 1_000_000) ≡ neg_ℤ (pos (p / 1_000_000))
quot_neg zero = refl
quot_neg (suc p) = refl

less : (n q : ℕ) → q ≤ n → pos n +ℤ neg_ℤ (pos q) ≡ pos (n - q)
less n zero h = let e : n + 0 ≡ n - 0 = omega arith in ap pos e
less n (suc q) h = simp (le-ltb n (suc q) h)

pub upward : (n : ℕ) (z : ℤ) → lt_z z (pos 0) ≡ false → corrected_of n z ≡ accept_of (pos (n + share_of n z))
unfolding corrected_of
upward n (pos k) h = refl
upward n (negsuc k) h = let z : ◌≡◌ {A = ℕ} 0 1 = cc in absurd (omega arith)

pub downward : (n : ℕ) (z : ℤ) → lt_z z (pos 0) ≡ true → share_of n z ≤ n → corrected_of n z ≡ accept_of (pos (n - share_of n z))
unfolding corrected_of
downward n (pos k) h l = not_below k h
downward n (negsuc k) h l =
    ap (λ (x : ℤ). accept_of (pos n +ℤ x)) (quot_neg (n * suc k)) ∙ ap accept_of (less n (n * suc k / 1_000_000) l)

ranged : (x : ℤ) (v : ℕ) → accept_of x ≡ Some v → (0 < v) × (v ≤ 4_294_967_295)
ranged (negsuc k) v e = let z : ◌≡◌ {A = ℕ} 0 1 = cc in absurd (omega arith)
ranged (pos k) v e = by (leb 1 k && leb k 4_294_967_295) refl e
  where
    by : (b : Bool) → (leb 1 k && leb k 4_294_967_295) ≡ b → cond b (Some k) None ≡ Some v → (0 < v) × (v ≤ 4_294_967_295)
    by false t e = let z : ◌≡◌ {A = ℕ} 0 1 = cc in absurd (omega arith)
    by true t e =
        let both : T (leb 1 k) × T (leb k 4_294_967_295) = and_yes (leb 1 k) (leb k 4_294_967_295) (subst T (sym t) tt) in
        let same : k ≡ v = cc in
        subst (λ (n : ℕ). (0 < n) × (n ≤ 4_294_967_295)) same (leb_yes both.0, leb_yes both.1)

-- a corrected reference is one of 1..4,294,967,295
pub in_range_lem : (n : ℕ) (z : ℤ) (v : ℕ) → corrected_of n z ≡ Some v → (0 < v) × (v ≤ 4_294_967_295)
unfolding corrected_of
in_range_lem n z v e = ranged (pos n +ℤ quot_z (pos n *ℤ z) (pos 1_000_000)) v e

-- with no correction it is the nominal one, as in a fresh record
pub uncorrected : (n : ℕ) → 0 < n → n ≤ 4_294_967_295 → corrected_of n (pos 0) ≡ Some n
unfolding corrected_of
uncorrected n h l =
    let e : n + n * 0 / 1_000_000 ≡ n = omega arith in
    ap (λ (k : ℕ). accept_of (pos k)) e ∙ simp (le-leb 1 n h, le-leb n 4_294_967_295 l)
