-- Which ratios the resampler's register holds, and that then the ratio is sent, without its two low bits; which rates are taken with a reference of
-- 28,800,000 Hz; the true rate is at least the rate asked. Document 02, #103 and #104. Assumes nothing.
use mathlib.Core.Path.{◌≡◌, refl, sym, ap, ◌∙◌}
use mathlib.Core.Bool.{Bool, true, false, ◌&&◌, ◌||◌, cond, false≢true}
use Prim.Native.Nat.{ℕ, zero, suc, ◌+◌, ◌*◌, ◌/◌, ◌%◌, ◌^◌, ◌<◌, ◌≤◌}
use native.Mathlib.Omega.{arith}
use native.Mathlib.Nat.{div-lt_iff_lt-mul, le-div_iff_mul-le, le_trans, mul-div-le, mul-le-mul_left}
use borrow.Author.Tests.{eq-eqb, eqb-false, eqb-true, le-leb, le-ltb, leb-false, leb-true, lt-leb, lt-ltb, ltb-true, ne_eqb}
use lib.Dec.{eqb, leb, ltb}
use mathlib.Core.List.{[], ◌∷◌}
use Rattle.registers.specs.declared.ResampleRegs.{ResampleRegs}
use Rattle.registers.specs.Rates.{four_of, ratio_holds, ratio_of, rate_number, resample_regs_of, sent_of, true_of, zero_number}
use Rattle.registers.proofs.Values.{sent_fits, sent_is}

-- ---- the numbers of zeros

-- the first number stands before any later one
pub zero_first : (rate xtal later z : ℕ) → z ≡ zero_number rate xtal 0 → (z ≡ 0 → ⊥) → z ≡ zero_number rate xtal later
zero_first rate xtal later z = go (eqb rate 0) (eqb xtal 0)
  where
    go : (a b : Bool) → z ≡ cond a 3 (cond b 4 0) → (z ≡ 0 → ⊥) → z ≡ cond a 3 (cond b 4 later)
    go true b e h = e
    go false true e h = e
    go false false e h = absurd (h e)

-- where no number is given, both are above 0, and the later one is not given either
pub none_given : (rate xtal later : ℕ) → zero_number rate xtal later ≡ 0 → (0 < rate) × (0 < xtal) × (later ≡ 0)
none_given rate xtal later = go (eqb rate 0) (eqb xtal 0) refl refl
  where
    go : (a b : Bool) → eqb rate 0 ≡ a → eqb xtal 0 ≡ b → cond a 3 (cond b 4 later) ≡ 0 → (0 < rate) × (0 < xtal) × (later ≡ 0)
    go true b p q e = absurd (omega (arith, e))
    go false true p q e = absurd (omega (arith, e))
    go false false p q e =
        let some : rate ≡ 0 → ⊥ = eqb-false rate 0 p in
        let too : xtal ≡ 0 → ⊥ = eqb-false xtal 0 q in
        (omega arith, omega arith, e)

passed : (rate xtal later z : ℕ) → z ≡ zero_number rate xtal 0 → z ≡ 0 → later ≡ zero_number rate xtal later
passed rate xtal later z e n = go (eqb rate 0) (eqb xtal 0) (sym e ∙ n)
  where
    go : (a b : Bool) → ◌≡◌ {A = ℕ} (cond a 3 (cond b 4 0)) 0 → later ≡ cond a 3 (cond b 4 later)
    go true b h = absurd (omega (arith, h))
    go false true h = absurd (omega (arith, h))
    go false false h = refl

-- a rate's number over the code, whose parts were worked out apart
pub number_first : (rate xtal z : ℕ) → z ≡ zero_number rate xtal 0 → (z ≡ 0 → ⊥) → z ≡ rate_number rate xtal
unfolding rate_number
number_first rate xtal z e h = zero_first rate xtal (cond (ratio_holds (ratio_of rate xtal)) 0 13) z e h

pub number_last : (rate xtal z r : ℕ) (b : Bool) → z ≡ zero_number rate xtal 0 → z ≡ 0 → r ≡ ratio_of rate xtal → b ≡ ratio_holds r → cond b 0 13 ≡ rate_number rate xtal
unfolding rate_number
number_last rate xtal z r b e n v h =
    ap (λ (x : Bool). cond x 0 13) (h ∙ ap ratio_holds v) ∙ passed rate xtal (cond (ratio_holds (ratio_of rate xtal)) 0 13) z e n

-- the leaf's registers likewise
pub no_regs : (rate xtal z : ℕ) → z ≡ zero_number rate xtal 0 → (z ≡ 0 → ⊥)
    → ◌≡◌ {A = ResampleRegs} (record { refusal = z; bytes = 0 ∷ 0 ∷ 0 ∷ 0 ∷ [] }) (resample_regs_of rate xtal)
unfolding resample_regs_of
no_regs rate xtal z e h = rw (← e, ne_eqb z 0 h)

pub some_regs : (rate xtal z r : ℕ) → z ≡ zero_number rate xtal 0 → z ≡ 0 → r ≡ ratio_of rate xtal
    → ◌≡◌ {A = ResampleRegs} (record { refusal = 0; bytes = four_of r }) (resample_regs_of rate xtal)
unfolding resample_regs_of
some_regs rate xtal z r e n v = rw (← e, eq-eqb z 0 n, v)

-- ---- the ratios

held_by : (a b c : Bool) → (a && b && c) ≡ true → (a ≡ true) × (b ≡ true) × (c ≡ true)
held_by true true true e = (refl, refl, refl)
held_by true true false e = absurd (false≢true e)
held_by true false c e = absurd (false≢true e)
held_by false b c e = absurd (false≢true e)

pub record Held (r : ℕ) : Type 0 where
  pub least : 4 ≤ r
  pub most : r < 2 ^ 29
  pub alike : r / 2 ^ 27 % 2 ≡ r / 2 ^ 28 % 2

pub held : (r : ℕ) → ratio_holds r ≡ true → Held r
unfolding ratio_holds
held r h =
    let parts = held_by (leb 4 r) (ltb r (2 ^ 29)) (eqb (r / 2 ^ 27 % 2) (r / 2 ^ 28 % 2)) h in
    record { least = leb-true 4 r parts.0; most = ltb-true r (2 ^ 29) parts.1; alike = eqb-true (r / 2 ^ 27 % 2) (r / 2 ^ 28 % 2) parts.2 }

-- bit 28 is the highest
only : (r : ℕ) → r < 2 ^ 29 → r / 2 ^ 28 % 2 ≡ r / 4 / 2 ^ 26
only r h = omega arith

-- what is sent of a ratio that is held: the ratio, with its two low bits cleared
pub sent_held : (r : ℕ) → ratio_holds r ≡ true → sent_of r ≡ r / 4 * 4
sent_held r h =
    let top : r / 2 ^ 27 % 2 ≡ r / 4 / 2 ^ 26 = (held r h).alike ∙ only r (held r h).most in
    sent_is r ∙ ap (λ (x : ℕ). x * 2 ^ 28 + r / 4 % 2 ^ 26 * 4) top ∙ whole (r / 4)
  where
    whole : (q : ℕ) → q / 2 ^ 26 * 2 ^ 28 + q % 2 ^ 26 * 4 ≡ q * 4
    whole q = omega arith

-- and no ratio is refused without need: one that is sent so, and not as 0, is held
pub needed : (r : ℕ) → sent_of r ≡ r / 4 * 4 → 0 < sent_of r → ratio_holds r ≡ true
unfolding ratio_holds
needed r e s =
    let least : 4 ≤ r = omega (arith, e, s) in
    let most : r < 2 ^ 29 = omega (arith, e, sent_fits r) in
    let alike : r / 2 ^ 27 % 2 ≡ r / 2 ^ 28 % 2 = top (r / 2 ^ 27 % 2) (r / 4) (sym (sent_is r) ∙ e) ∙ sym (only r most) in
    rw (le-leb 4 r least, lt-ltb r (2 ^ 29) most, eq-eqb _ _ alike)
  where
    top : (t q : ℕ) → t * 2 ^ 28 + q % 2 ^ 26 * 4 ≡ q * 4 → t ≡ q / 2 ^ 26
    top t q h = omega (arith, h)

-- a rate that is taken has such a ratio
pub record Taken (rate xtal : ℕ) : Type 0 where
  pub some : 0 < rate
  pub referred : 0 < xtal
  pub ratio : ratio_holds (ratio_of rate xtal) ≡ true

pub taken : (rate xtal : ℕ) → rate_number rate xtal ≡ 0 → Taken rate xtal
unfolding rate_number
taken rate xtal e =
    let parts = none_given rate xtal (cond (ratio_holds (ratio_of rate xtal)) 0 13) e in
    record { some = parts.0; referred = parts.1; ratio = last (ratio_holds (ratio_of rate xtal)) parts.2 }
  where
    last : (b : Bool) → ◌≡◌ {A = ℕ} (cond b 0 13) 0 → b ≡ true
    last true h = refl
    last false h = absurd (omega (arith, h))

pub sent_taken : (rate xtal : ℕ) → rate_number rate xtal ≡ 0 → sent_of (ratio_of rate xtal) ≡ ratio_of rate xtal / 4 * 4
sent_taken rate xtal e = sent_held (ratio_of rate xtal) (taken rate xtal e).ratio

-- ---- the true rate

-- something is sent of a ratio that is held
pub sent_some : (rate xtal : ℕ) → rate_number rate xtal ≡ 0 → 0 < sent_of (ratio_of rate xtal)
sent_some rate xtal e =
    let least : 4 ≤ ratio_of rate xtal = (held (ratio_of rate xtal) (taken rate xtal e).ratio).least in
    let is : sent_of (ratio_of rate xtal) ≡ ratio_of rate xtal / 4 * 4 = sent_taken rate xtal e in
    above_none (sent_of (ratio_of rate xtal)) (ratio_of rate xtal) is least
  where
    above_none : (s r : ℕ) → s ≡ r / 4 * 4 → 4 ≤ r → 0 < s
    above_none s r e h = omega (arith, e, h)

-- "The true rate must be shown to be at least the rate asked wherever #103 accepts"
pub true_least : (rate xtal : ℕ) → rate_number rate xtal ≡ 0 → rate ≤ true_of rate xtal
unfolding true_of
true_least rate xtal e =
    let is : sent_of (ratio_of rate xtal) ≡ ratio_of rate xtal / 4 * 4 = sent_taken rate xtal e in
    let below : sent_of (ratio_of rate xtal) ≤ ratio_of rate xtal = no_more (sent_of (ratio_of rate xtal)) (ratio_of rate xtal) is in
    (le-div_iff_mul-le (sent_some rate xtal e)).1
    (le_trans (mul-le-mul_left rate below) (mul-div-le (xtal * 2 ^ 22) rate))
  where
    no_more : (s r : ℕ) → s ≡ r / 4 * 4 → s ≤ r
    no_more s r e = omega (arith, e)

-- the ratios that are held, as two ranges
pub held_low : (r : ℕ) → 4 ≤ r → r < 2 ^ 27 → ratio_holds r ≡ true
unfolding ratio_holds
held_low r h k =
    let alike : r / 2 ^ 27 % 2 ≡ r / 2 ^ 28 % 2 = omega arith in
    rw (le-leb 4 r h, lt-ltb r (2 ^ 29) (omega arith), eq-eqb _ _ alike)

pub held_high : (r : ℕ) → 3 * 2 ^ 27 ≤ r → r < 2 ^ 29 → ratio_holds r ≡ true
unfolding ratio_holds
held_high r h k =
    let alike : r / 2 ^ 27 % 2 ≡ r / 2 ^ 28 % 2 = omega arith in
    rw (le-leb 4 r (omega arith), lt-ltb r (2 ^ 29) k, eq-eqb _ _ alike)

pub between : (r : ℕ) → 2 ^ 27 ≤ r → r < 3 * 2 ^ 27 → ratio_holds r ≡ false
unfolding ratio_holds
between r h k =
    let least : 1 ≤ r / 2 ^ 27 = omega arith in
    let most : r / 2 ^ 27 ≤ 2 = omega arith in
    let half : r / 2 ^ 28 ≡ r / 2 ^ 27 / 2 = omega arith in
    rw (le-leb 4 r (omega arith), lt-ltb r (2 ^ 29) (omega arith), ne_eqb (r / 2 ^ 27 % 2) (r / 2 ^ 28 % 2) (λ e. unlike (r / 2 ^ 27) least most (e ∙ ap (λ (x : ℕ). x % 2) half)))
  where
    unlike : (q : ℕ) → 1 ≤ q → q ≤ 2 → q % 2 ≡ q / 2 % 2 → ⊥
    unlike zero h k e = omega (arith, h)
    unlike (suc zero) h k e = omega (arith, e)
    unlike (suc (suc zero)) h k e = omega (arith, e)
    unlike (suc (suc (suc q))) h k e = omega (arith, k)

pub above : (r : ℕ) → 2 ^ 29 ≤ r → ratio_holds r ≡ false
unfolding ratio_holds
above r h = rw (le-leb 4 r (omega arith), le-ltb r (2 ^ 29) h)

-- ---- a reference of 28,800,000 Hz

module _ (rate : ℕ) (small : rate < 2 ^ 32) (some : 0 < rate) where
  at_least : (k : ℕ) → k * rate ≤ 28_800_000 * 2 ^ 22 → k ≤ ratio_of rate 28_800_000
  at_least k h = (le-div_iff_mul-le some).1 h

  at_most : (k : ℕ) → 28_800_000 * 2 ^ 22 < k * rate → ratio_of rate 28_800_000 < k
  at_most k h = (div-lt_iff_lt-mul some).1 h

  usual_ratio : (x y z : Bool) → leb 225_001 rate ≡ x → leb rate 300_000 ≡ y → leb 900_001 rate ≡ z
      → ratio_holds (ratio_of rate 28_800_000) ≡ ((x && y) || z)
  usual_ratio true true true p q s = let one = leb-true rate 300_000 q in let two = leb-true 900_001 rate s in absurd (omega arith)
  usual_ratio true true false p q s =
      let one = leb-true 225_001 rate p in
      let two = leb-true rate 300_000 q in
      held_high (ratio_of rate 28_800_000) (at_least (3 * 2 ^ 27) (omega arith)) (at_most (2 ^ 29) (omega arith))
  usual_ratio true false true p q s =
      let one = leb-true 900_001 rate s in
      held_low (ratio_of rate 28_800_000) (at_least 4 (omega arith)) (at_most (2 ^ 27) (omega arith))
  usual_ratio true false false p q s =
      let one = leb-false rate 300_000 q in
      let two = leb-false 900_001 rate s in
      between (ratio_of rate 28_800_000) (at_least (2 ^ 27) (omega arith)) (at_most (3 * 2 ^ 27) (omega arith))
  usual_ratio false y true p q s = let one = leb-false 225_001 rate p in let two = leb-true 900_001 rate s in absurd (omega arith)
  usual_ratio false true false p q s = let one = leb-false 225_001 rate p in above (ratio_of rate 28_800_000) (at_least (2 ^ 29) (omega arith))
  usual_ratio false false false p q s = let one = leb-false 225_001 rate p in above (ratio_of rate 28_800_000) (at_least (2 ^ 29) (omega arith))

-- "At 28,800,000 that is 225,001 to 300,000, and 900,001 upward": of every rate that a u32 has, exactly these
pub at_28800000 : (rate : ℕ) → rate < 2 ^ 32
    → rate_number rate 28_800_000 ≡ cond (eqb rate 0) 3 (cond ((leb 225_001 rate && leb rate 300_000) || leb 900_001 rate) 0 13)
unfolding rate_number
at_28800000 rate small = go (eqb rate 0) refl
  where
    go : (b : Bool) → eqb rate 0 ≡ b
        → ◌≡◌ {A = ℕ} (cond b 3 (cond (ratio_holds (ratio_of rate 28_800_000)) 0 13)) (cond b 3 (cond ((leb 225_001 rate && leb rate 300_000) || leb 900_001 rate) 0 13))
    go true e = refl
    go false e =
        let none : rate ≡ 0 → ⊥ = eqb-false rate 0 e in
        ap (λ (x : Bool). cond x 0 13) (usual_ratio rate small (omega arith) (leb 225_001 rate) (leb rate 300_000) (leb 900_001 rate) refl refl refl)
