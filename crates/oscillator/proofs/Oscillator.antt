-- What the registers of a plan say of the oscillator: 2R(N + S/65,536) is lo·m but for what the rest and the quotients' cuts leave. Assumes nothing.
use mathlib.Core.Path.{◌≡◌, refl, sym, ap, subst, ◌∙◌}
use mathlib.Core.Bool.{Bool, true, false, cond, false≢true}
use Prim.Native.Nat.{ℕ, zero, suc, ◌+◌, ◌-◌, ◌*◌, ◌/◌, ◌%◌, ◌^◌, ◌≤◌, ◌<◌}
use native.Mathlib.Omega.{arith}
use native.Mathlib.Nat.{div-lt_iff_lt-mul, mul-div-le, mul-le-mul_left, pow-succ'}
use borrow.Author.Tests.{eqb-true}
use lib.Pow.{pow-add, pow_pos}
use lib.Dec.{eqb, eqb→eq}
use lib.ListN.{get_or}
use Rattle.below.proofs.Test.{below}
use Rattle.pll.specs.declared.Kind.{Kind}
use Rattle.pll.specs.declared.Plan.{Plan}
use Rattle.std.specs.Prelude.{Some}
use Rattle.pll.specs.declared.Sum.{Sum}
use Rattle.pll.specs.Fraction.{sum_of, sum_start, taken_of, takes_turn, turn_of, turns_of}
use Rattle.pll.specs.Plan.{fraction_of, made_of, plan_of, whole_of}
use Rattle.pll.proofs.Bits.{bits_of, sum_is}
use Rattle.pll.specs.Divide.{divider_of, dividers}
use Rattle.pll.proofs.Dividers.{First, Found, first, found}
use Rattle.pll.proofs.Plans.{Known, known}
use Rattle.oscillator.specs.Registers.{Bytes, Within, divider_in, hz_in, off, stands_by, sum_in, vco_in, whole_in}
use Rattle.oscillator.proofs.Rests.{rest_most}

-- the turn at n, with t behind it, has the weight 2^t, and n·2^t is 65,536
worth : (t i n : ℕ) → n ≡ 2 * 2 ^ i → t + i ≡ 15 → n * 2 ^ t ≡ 65_536
worth t i n e l =
    let whole : 2 ^ t * 2 ^ i ≡ 32_768 = sym (pow-add 2 t i) ∙ ap (λ (x : ℕ). 2 ^ x) l in
    omega (arith, whole, ap (λ (x : ℕ). x * 2 ^ t) e)

module _ (t i k n : ℕ) (s : Sum) (e : n ≡ 2 * 2 ^ i) (l : suc t + i ≡ 16) where
  further : n * 2 ≡ 2 * 2 ^ suc i
  further = omega (arith, pow-succ' 2 i)

  left : t + suc i ≡ 16
  left = omega arith

  some : 0 < n
  some = omega (arith, pow_pos i)

  at : n * 2 ^ t ≡ 65_536
  at = worth t i n e (omega arith)

  -- 65,536 times the quotient is at most its bit's worth, and one more is more
  least : 65_536 * (2 * k / n) ≤ 2 * k * 2 ^ t
  least = omega (arith, mul-le-mul_left (2 ^ t) (mul-div-le (2 * k) n), ap (λ (x : ℕ). x * (2 * k / n)) at)

  most : 2 * k * 2 ^ t ≤ 65_536 * (2 * k / n + 1)
  most =
      let cut : 2 * k < (2 * k / n + 1) * n = (div-lt_iff_lt-mul some).0 (omega arith) in
      let less : 2 * k ≤ (2 * k / n + 1) * n = omega arith in
      omega (arith, mul-le-mul_left (2 ^ t) less, ap (λ (x : ℕ). x * (2 * k / n + 1)) at)

-- what was taken, in thousands of Hz, against what S says at 2K
low : (t i k n : ℕ) (s : Sum) → n ≡ 2 * 2 ^ i → t + i ≡ 16 → 65_536 * taken_of t k n s ≤ 2 * k * bits_of t k n s
unfolding taken_of bits_of
low zero i k n s e l = omega arith
low (suc t) i k n s e l = go (takes_turn k n s) (low t (suc i) k (n * 2) (turn_of k n s) (further t i k n s e l) (left t i k n s e l))
  where
    T : ℕ
    T = taken_of t k (n * 2) (turn_of k n s)

    B : ℕ
    B = bits_of t k (n * 2) (turn_of k n s)

    go : (b : Bool) → 65_536 * T ≤ 2 * k * B → 65_536 * (cond b (2 * k / n) 0 + T) ≤ 2 * k * (cond b 1 0 * 2 ^ t + B)
    go true h = omega (arith, least t i k n s e l)
    go false h = omega arith

pub high : (t i k n : ℕ) (s : Sum) → n ≡ 2 * 2 ^ i → t + i ≡ 16 → 2 * k * bits_of t k n s ≤ 65_536 * (taken_of t k n s + t)
unfolding taken_of bits_of
high zero i k n s e l = omega arith
high (suc t) i k n s e l = go (takes_turn k n s) (high t (suc i) k (n * 2) (turn_of k n s) (further t i k n s e l) (left t i k n s e l))
  where
    T : ℕ
    T = taken_of t k (n * 2) (turn_of k n s)

    B : ℕ
    B = bits_of t k (n * 2) (turn_of k n s)

    go : (b : Bool) → 2 * k * B ≤ 65_536 * (T + t) → 2 * k * (cond b 1 0 * 2 ^ t + B) ≤ 65_536 * (cond b (2 * k / n) 0 + T + suc t)
    go true h = omega (arith, most t i k n s e l)
    go false h = omega arith

-- the oscillator of the registers, times 65,536·m, against lo
pub record Near (lo r : ℕ) (p : Plan) : Type 0 where
  pub below : 65_536 * (lo * p.m) ≤ 2 * r * (65_536 * p.n + p.sum) + 65_536 * (1_000 * p.rest + 999)
  pub above : 2 * r * (65_536 * p.n + p.sum) + 65_536 * (1_000 * p.rest) ≤ 65_536 * (lo * p.m) + 65_536 * 17_998

near_made : (vco m number r : ℕ) → 0 < r → taken_of 16 (r / 1000) 2 (sum_start (fraction_of vco r)) + (sum_of (r / 1000) (fraction_of vco r)).rest ≡ fraction_of vco r
    → (sum_of (r / 1000) (fraction_of vco r)).sum < 2 ^ 16
    → (65_536 * vco ≤ 2 * r * (65_536 * whole_of vco r + (sum_of (r / 1000) (fraction_of vco r)).sum) + 65_536 * (1_000 * (sum_of (r / 1000) (fraction_of vco r)).rest + 999))
    × (2 * r * (65_536 * whole_of vco r + (sum_of (r / 1000) (fraction_of vco r)).sum) + 65_536 * (1_000 * (sum_of (r / 1000) (fraction_of vco r)).rest) ≤ 65_536 * vco + 65_536 * 17_998)
near_made vco m number r h taken fits =
    let k : ℕ = r / 1000 in
    let f : ℕ = fraction_of vco r in
    let S : ℕ = (sum_of k f).sum in
    let N : ℕ = whole_of vco r in
    let is : S ≡ bits_of 16 k 2 (sum_start f) = omega (arith, sum_is 16 0 k 2 (sum_start f) refl refl) in
    let lower : 65_536 * taken_of 16 k 2 (sum_start f) ≤ 2 * k * S =
    subst (λ (x : ℕ). 65_536 * taken_of 16 k 2 (sum_start f) ≤ 2 * k * x) (sym is) (low 16 0 k 2 (sum_start f) refl refl) in
    let upper : 2 * k * S ≤ 65_536 * (taken_of 16 k 2 (sum_start f) + 16) =
    subst (λ (x : ℕ). 2 * k * x ≤ 65_536 * (taken_of 16 k 2 (sum_start f) + 16)) (sym is) (high 16 0 k 2 (sum_start f) refl refl) in
    let part : 2 * r * N ≤ vco = mul-div-le vco (2 * r) in
    let thousand : 1000 * k ≤ r = omega arith in
    let rest_of : r ≤ 1000 * k + 999 = omega arith in
    let more : S * (1000 * k) ≤ S * r = mul-le-mul_left S thousand in
    let less : S * r ≤ S * (1000 * k + 999) = mul-le-mul_left S rest_of in
    let g : ℕ = vco - 2 * r * N in
    let gf : 1000 * f ≤ g = omega arith in
    let gg : g ≤ 1000 * f + 999 = omega arith in
    (omega (arith, lower, more, part, gf, gg, taken), omega (arith, upper, less, part, gf, gg, taken, fits))

pub near : (kind : Kind) (lo r : ℕ) (p : Plan) → plan_of kind lo r ≡ Some p → Near lo r p
near kind lo r p is =
    let w : Known kind lo r p = known kind lo r p is in
    subst (Near lo r) (sym w.made) (go w)
  where
    go : Known kind lo r p → Near lo r (made_of (lo * p.m) p.m p.number r)
    go w =
        let q : Plan = made_of (lo * p.m) p.m p.number r in
        let taken : taken_of 16 (r / 1000) 2 (sum_start q.fraction) + q.rest ≡ q.fraction =
        subst (λ (x : Plan). taken_of 16 (r / 1000) 2 (sum_start x.fraction) + x.rest ≡ x.fraction) w.made w.taken in
        let fits : q.sum < 2 ^ 16 = subst (λ (x : Plan). x.sum < 2 ^ 16) w.made w.sum in
        let both = near_made (lo * p.m) p.m p.number r w.reference taken fits in
        record { below = both.0; above = both.1 }

-- what is left of lo·m is less than 2R, so F is at most 2K + 1
pub fraction_most : (vco r : ℕ) → 0 < r → fraction_of vco r ≤ 2 * (r / 1000) + 1
fraction_most vco r h =
    let some : 0 < 2 * r = omega arith in
    let cut : vco < (whole_of vco r + 1) * (2 * r) = (div-lt_iff_lt-mul some).0 (omega arith) in
    let left : vco - 2 * r * whole_of vco r < 2 * r = omega (arith, cut) in
    omega (arith, left)

-- N is 13 or more, so the reference is below 138,461,539 Hz
reference_most : (vco r : ℕ) → vco < 3_600_000_000 → 13 ≤ whole_of vco r → r < 138_461_539
reference_most vco r h l =
    let part : 2 * r * whole_of vco r ≤ vco = mul-div-le vco (2 * r) in
    let least : 2 * r * 13 ≤ 2 * r * whole_of vco r = mul-le-mul_left (2 * r) l in
    omega (arith, part, least)

-- what is left of the fraction, of every tuning that is accepted and by any reference
pub rest_24 : (kind : Kind) (lo r : ℕ) (p : Plan) → plan_of kind lo r ≡ Some p → p.rest ≤ 24
rest_24 kind lo r p is =
    let w : Known kind lo r p = known kind lo r p is in
    let vco : ℕ = lo * p.m in
    let f : Found lo p.m p.number = found lo p.m p.number w.divider in
    let thirteen : 13 ≤ whole_of vco r = subst (λ (x : Plan). 13 ≤ x.n) w.made w.least in
    let small : r < 138_461_539 = reference_most vco r f.high thirteen in
    let left : (sum_of (r / 1000) (fraction_of vco r)).rest ≤ 2 * (r / 1000) / 32_768 + 16 =
    rest_most (r / 1000) (fraction_of vco r) (fraction_most vco r w.reference) in
    subst (λ (x : Plan). x.rest ≤ 24) (sym w.made) (omega (arith, left, small))

-- the divider is a power of two, and its number says which
power : ℕ → Bool
power j = eqb (get_or dividers j 0) (2 ^ suc j)

pub divider_power : (lo m k : ℕ) → divider_of lo ≡ Some (m, k) → m ≡ 2 ^ suc k
unfolding power
divider_power lo m k e =
    let f : First lo dividers 0 m k = first lo dividers 0 m k e in
    let j : ℕ = f.place in
    let same : k ≡ j = omega (arith, f.counted) in
    sym f.stands ∙ eqb→eq _ _ (below power 6 tt j f.inside) ∙ ap (λ (x : ℕ). 2 ^ suc x) (sym same)

-- no fraction, no sum: no turn is taken
none_taken : (t k n : ℕ) → turns_of t k n (sum_start 0) ≡ sum_start 0
unfolding turns_of turn_of
none_taken zero k n = refl
none_taken (suc t) k n = none_taken t k (n * 2)

pub no_sum : (kind : Kind) (lo r : ℕ) (p : Plan) → plan_of kind lo r ≡ Some p → p.fraction ≡ 0 → p.sum ≡ 0
no_sum kind lo r p is e =
    let w : Known kind lo r p = known kind lo r p is in
    let f : fraction_of (lo * p.m) r ≡ 0 = ap (λ (x : Plan). x.fraction) (sym w.made) ∙ e in
    ap (λ (x : Plan). x.sum) w.made ∙ ap (λ (x : ℕ). (sum_of (r / 1000) x).sum) f ∙ ap (λ (x : Sum). x.sum) (none_taken 16 (r / 1000) 2)

-- bytes that say a plan: its N, its S, with the fraction switched off only where it has none, and a divider's number, which is the plan's but for a repair
pub record Says (p : Plan) (number : ℕ) (reg : Bytes) : Type 0 where
  pub divided : reg 0x10 / 32 ≡ number
  pub control : off (reg 0x12) ≡ true → p.fraction ≡ 0
  pub whole : reg 0x14 ≡ p.setting
  pub low : reg 0x15 ≡ p.sum % 256
  pub high : reg 0x16 ≡ p.sum / 256

-- such bytes stand for an oscillator at lo
module _ (kind : Kind) (lo r : ℕ) (p : Plan) (is : plan_of kind lo r ≡ Some p) (reg : Bytes) (says : Says p p.number reg) where
  abbrev w : Known kind lo r p
  w = known kind lo r p is

  pub divider_says : divider_in reg ≡ p.m
  divider_says = ap (λ (x : ℕ). 2 ^ suc x) says.divided ∙ sym (divider_power lo p.m p.number w.divider)

  whole_says : whole_in reg ≡ p.n
  whole_says = ap (λ (x : ℕ). 13 + 4 * (x % 64) + x / 64) says.whole ∙ w.back

  sum_says : sum_in reg ≡ p.sum
  sum_says = go (off (reg 0x12)) says.control
    where
      go : (b : Bool) → (b ≡ true → p.fraction ≡ 0) → cond b 0 (256 * reg 0x16 + reg 0x15) ≡ p.sum
      go true f = sym (no_sum kind lo r p is (f refl))
      go false f = omega (arith, says.low, says.high)

  pub vco_says : vco_in r reg ≡ 2 * r * (65_536 * p.n + p.sum)
  vco_says = (λ i. 2 * r * (65_536 * whole_says i + sum_says i))

  pub within : Within lo r reg
  within =
      let near_by : Near lo r p = near kind lo r p is in
      let m : 65_536 * (lo * divider_in reg) ≡ 65_536 * (lo * p.m) = ap (λ (x : ℕ). 65_536 * (lo * x)) divider_says in
      record {
        below = omega (arith, near_by.below, rest_24 kind lo r p is, m, vco_says);
        above = omega (arith, near_by.above, m, vco_says);
      }

-- the same in whole Hz: at most 24,999 / m, and the one that is cut off, below; at most 17,998 / m above
pub whole_hz : (lo r : ℕ) (reg : Bytes) → Within lo r reg
    → (lo * divider_in reg < (hz_in r reg + 1) * divider_in reg + 24_999) × (hz_in r reg * divider_in reg ≤ lo * divider_in reg + 17_998)
whole_hz lo r reg w =
    let m : ℕ = divider_in reg in
    let some : 0 < 65_536 * m = omega (arith, pow_pos (suc (reg 0x10 / 32))) in
    let cut : vco_in r reg < (hz_in r reg + 1) * (65_536 * m) = (div-lt_iff_lt-mul some).0 (omega arith) in
    let part : 65_536 * m * hz_in r reg ≤ vco_in r reg = mul-div-le (vco_in r reg) (65_536 * m) in
    (omega (arith, cut, w.below), omega (arith, part, w.above))

-- nothing but the five counts
module _ (r : ℕ) (a b : Bytes) (same : (i : ℕ) → stands_by i ≡ true → a i ≡ b i) where
  pub same_divider : divider_in a ≡ divider_in b
  same_divider = ap (λ (x : ℕ). 2 ^ suc (x / 32)) (same 0x10 refl)

  pub same_vco : vco_in r a ≡ vco_in r b
  same_vco =
      let whole : whole_in a ≡ whole_in b = ap (λ (x : ℕ). 13 + 4 * (x % 64) + x / 64) (same 0x14 refl) in
      let sum : sum_in a ≡ sum_in b = (λ i. cond (off (same 0x12 refl i)) 0 (256 * same 0x16 refl i + same 0x15 refl i)) in
      λ i. 2 * r * (65_536 * whole i + sum i)

  pub same_hz : hz_in r a ≡ hz_in r b
  same_hz = λ i. same_vco i / (65_536 * same_divider i)

  pub same_within : (lo : ℕ) → Within lo r a → Within lo r b
  same_within lo w =
      let m : 65_536 * (lo * divider_in a) ≡ 65_536 * (lo * divider_in b) = ap (λ (x : ℕ). 65_536 * (lo * x)) same_divider in
      record { below = omega (arith, w.below, m, same_vco); above = omega (arith, w.above, m, same_vco) }

-- what holds of each of the five holds wherever `stands_by` does
pub each_five : (P : ℕ → Type 0) → P 0x10 → P 0x12 → P 0x14 → P 0x15 → P 0x16 → (r : ℕ) → stands_by r ≡ true → P r
each_five P a b c d e r h = go (eqb r 0x10) refl (eqb r 0x12) refl (eqb r 0x14) refl (eqb r 0x15) refl (eqb r 0x16) refl
  where
    go : (v : Bool) → eqb r 0x10 ≡ v → (u : Bool) → eqb r 0x12 ≡ u → (x : Bool) → eqb r 0x14 ≡ x → (y : Bool) → eqb r 0x15 ≡ y → (z : Bool) → eqb r 0x16 ≡ z
        → P r
    go true i u j x k y l z m = subst P (sym (eqb-true r 0x10 i)) a
    go false i true j x k y l z m = subst P (sym (eqb-true r 0x12 j)) b
    go false i false j true k y l z m = subst P (sym (eqb-true r 0x14 k)) c
    go false i false j false k true l z m = subst P (sym (eqb-true r 0x15 l)) d
    go false i false j false k false l true m = subst P (sym (eqb-true r 0x16 m)) e
    go false i false j false k false l false m =
        let none : false ≡ true = rw (i, j, k, l, m) at h in
        absurd (false≢true none)
