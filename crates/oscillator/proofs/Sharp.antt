-- At a reference of exactly 28,800,000 Hz the oscillator stands nearer: K is 28,800, of which nothing is cut, and nothing of the quotients 57,600 / n of the
-- first eight turns, 57,600 being 225·256. They leave a rest of at most 225; what the other eight leave of each is computed. Assumes nothing.
use mathlib.Core.Path.{◌≡◌, refl, ap, ◌∙◌}
use mathlib.Core.Bool.{Bool, true, false, cond, ◌&&◌}
use Prim.Native.Nat.{ℕ, zero, suc, ◌+◌, ◌-◌, ◌*◌, ◌/◌, ◌≤◌, ◌<◌}
use native.Mathlib.Omega.{arith}
use native.Mathlib.Nat.{div-lt_iff_lt-mul, mul-div-le}
use borrow.Author.Tests.{lt-leb, ltb-false, ltb-true}
use lib.Dec.{T, leb, leb→le, ltb}
use Rattle.below.proofs.Test.{below}
use Rattle.pll.specs.declared.Kind.{Kind}
use Rattle.pll.specs.declared.Plan.{Plan}
use Rattle.std.specs.Prelude.{Some}
use Rattle.pll.specs.declared.Sum.{Sum}
use Rattle.pll.specs.Fraction.{sum_of, sum_start, takes_turn, turn_of, turns_of}
use Rattle.pll.specs.Plan.{fraction_of, plan_of, whole_of}
use Rattle.pll.proofs.Plans.{Known, known}
use Rattle.oscillator.specs.Bounds.{Around}
use Rattle.oscillator.specs.Registers.{Bytes, divider_in, vco_in}
use Rattle.oscillator.proofs.Oscillator.{Says, divider_says, vco_says}

-- after turns that cut nothing, from f on: what was taken of it is what S says, and the rest is at most q
record Exact (f q : ℕ) (s : Sum) : Type 0 where
  pub said : 57_600 * s.sum + 65_536 * s.rest ≡ 65_536 * f
  pub small : s.rest ≤ q
  pub going : s.stopped ≡ false

turn_exact : (f n q w : ℕ) (s : Sum) → 2 * 28_800 / n ≡ q → 32_768 / (n / 2) ≡ w → 57_600 * w ≡ 65_536 * q → n < 32_768 → 1 ≤ q
    → Exact f (2 * q) s → Exact f q (turn_of 28_800 n s)
unfolding turn_of
turn_exact f n q w s quotient weight worth early some e = go (ltb 1 s.rest) refl (ltb q s.rest) refl
  where
    go : (a : Bool) → ltb 1 s.rest ≡ a → (b : Bool) → ltb q s.rest ≡ b → Exact f q (turn_of 28_800 n s)
    go true x true y =
        rw (e.going, x, quotient, y, weight)
        (record { said = omega (arith, e.said, worth, ltb-true q s.rest y); small = omega (arith, e.small); going = lt-leb 32_768 n early })
    go true x false y = rw (e.going, x, quotient, y) (record { said = e.said; small = ltb-false q s.rest y; going = refl })
    go false x b y = rw (e.going, x) (record { said = e.said; small = omega (arith, ltb-false 1 s.rest x); going = refl })

eight_turns : (s : Sum) → turns_of 8 28_800 2 s
    ≡ turn_of 28_800 256 (turn_of 28_800 128 (turn_of 28_800 64 (turn_of 28_800 32 (turn_of 28_800 16 (turn_of 28_800 8 (turn_of 28_800 4 (turn_of 28_800 2 s)))))))
unfolding turns_of
eight_turns s = refl

-- what is added to a sum does not hang on the sum
abbrev state : ℕ → ℕ → Bool → Sum
state sum rest stopped = record { sum = sum; rest = rest; stopped = stopped }

added : (t k n a b rest : ℕ) (stopped : Bool) → (turns_of t k n (state (a + b) rest stopped)).sum ≡ a + (turns_of t k n (state b rest stopped)).sum
unfolding turns_of turn_of
added zero k n a b rest stopped = refl
added (suc t) k n a b rest stopped = go (added t k (n * 2) a) (takes_turn k n (state b rest stopped))
  where
    go : ((b rest : ℕ) (stopped : Bool) → (turns_of t k (n * 2) (state (a + b) rest stopped)).sum ≡ a + (turns_of t k (n * 2) (state b rest stopped)).sum)
        → (x : Bool)
        → (turns_of t k (n * 2) (cond x (state (a + b + 32_768 / (n / 2)) (rest - 2 * k / n) (leb 32_768 n)) (state (a + b) rest stopped))).sum
        ≡ a + (turns_of t k (n * 2) (cond x (state (b + 32_768 / (n / 2)) (rest - 2 * k / n) (leb 32_768 n)) (state b rest stopped))).sum
    go on true =
        let join : a + b + 32_768 / (n / 2) ≡ a + (b + 32_768 / (n / 2)) = omega arith in
        ap (λ (x : ℕ). (turns_of t k (n * 2) (state x (rest - 2 * k / n) (leb 32_768 n))).sum) join
        ∙ on (b + 32_768 / (n / 2)) (rest - 2 * k / n) (leb 32_768 n)
    go on false = on b rest stopped

-- the other eight, of each rest
abbrev late : ℕ → ℕ
late rest = (turns_of 8 28_800 512 (state 0 rest false)).sum

abbrev fits_below : ℕ → Bool
fits_below rest = leb (65_536 * rest) (57_600 * late rest + 115_200)

abbrev fits_above : ℕ → Bool
fits_above rest = leb (57_600 * late rest) (65_536 * rest + 81_408)

fits : ℕ → Bool
fits rest = fits_below rest && fits_above rest

all : (rest : ℕ) → rest < 226 → T (fits rest)
unfolding fits turns_of turn_of
all rest h = below fits 226 tt rest h

both : (a b : Bool) → T (a && b) → T a × T b
both true true h = (tt, tt)
both true false h = absurd h
both false b h = absurd h

-- all sixteen, of every fraction whose first eight cut nothing
sharp : (f : ℕ) → Exact f 225 (turns_of 8 28_800 2 (sum_start f))
    → (65_536 * f ≤ 57_600 * (sum_of 28_800 f).sum + 115_200) × (57_600 * (sum_of 28_800 f).sum ≤ 65_536 * f + 81_408)
unfolding turns_of fits
sharp f e =
    let s : Sum = turns_of 8 28_800 2 (sum_start f) in
    let halves : (sum_of 28_800 f).sum ≡ (turns_of 8 28_800 512 s).sum = refl in
    let going : (turns_of 8 28_800 512 s).sum ≡ (turns_of 8 28_800 512 (state (s.sum + 0) s.rest false)).sum =
    (λ i. (turns_of 8 28_800 512 (state (plain s.sum i) s.rest (e.going i))).sum) in
    let parted : (sum_of 28_800 f).sum ≡ s.sum + late s.rest = halves ∙ going ∙ added 8 28_800 512 s.sum 0 s.rest false in
    let p = both (fits_below s.rest) (fits_above s.rest) (all s.rest (omega (arith, e.small))) in
    let low : 65_536 * s.rest ≤ 57_600 * late s.rest + 115_200 = leb→le _ _ p.0 in
    let high : 57_600 * late s.rest ≤ 65_536 * s.rest + 81_408 = leb→le _ _ p.1 in
    (omega (arith, parted, low, e.said), omega (arith, parted, high, e.said))
  where
    plain : (x : ℕ) → x ≡ x + 0
    plain x = omega arith

-- such bytes stand for an oscillator whose VCO is at most 2,757 Hz below what was asked, and at most 1,243 Hz above
module _ (kind : Kind) (lo : ℕ) (p : Plan) (is : plan_of kind lo 28_800_000 ≡ Some p) (reg : Bytes) (says : Says p p.number reg) where
  pub around : Around 2_757 1_243 lo 28_800_000 reg
  around =
      let w : Known kind lo 28_800_000 p = known kind lo 28_800_000 p is in
      let vco : ℕ = lo * p.m in
      let n : p.n ≡ whole_of vco 28_800_000 = ap (λ (x : Plan). x.n) w.made in
      let S : p.sum ≡ (sum_of 28_800 (fraction_of vco 28_800_000)).sum = ap (λ (x : Plan). x.sum) w.made in
      let f : ℕ = fraction_of vco 28_800_000 in
      let part : 57_600_000 * whole_of vco 28_800_000 ≤ vco = mul-div-le vco 57_600_000 in
      let cut : vco < (whole_of vco 28_800_000 + 1) * 57_600_000 = (div-lt_iff_lt-mul {k = 57_600_000} (omega arith)).0 (omega arith) in
      let most : f ≤ 57_600 = omega (arith, cut) in
      let near = sharp f (eight f most) in
      let m : 65_536 * (lo * divider_in reg) ≡ 65_536 * vco = ap (λ (x : ℕ). 65_536 * (lo * x)) (divider_says kind lo 28_800_000 p is reg says) in
      let v : vco_in 28_800_000 reg ≡ 57_600_000 * (65_536 * p.n + p.sum) = vco_says kind lo 28_800_000 p is reg says in
      record {
        below = omega (arith, m, v, n, S, near.0, part, cut);
        above = omega (arith, m, v, n, S, near.1, part, cut);
      }
    where
      eight : (f : ℕ) → f ≤ 57_600 → Exact f 225 (turns_of 8 28_800 2 (sum_start f))
      eight f h =
          let s0 : Exact f 57_600 (sum_start f) = record { said = omega arith; small = h; going = refl } in
          let s1 = turn_exact f 2 28_800 32_768 _ refl refl refl (omega arith) (omega arith) s0 in
          let s2 = turn_exact f 4 14_400 16_384 _ refl refl refl (omega arith) (omega arith) s1 in
          let s3 = turn_exact f 8 7_200 8_192 _ refl refl refl (omega arith) (omega arith) s2 in
          let s4 = turn_exact f 16 3_600 4_096 _ refl refl refl (omega arith) (omega arith) s3 in
          let s5 = turn_exact f 32 1_800 2_048 _ refl refl refl (omega arith) (omega arith) s4 in
          let s6 = turn_exact f 64 900 1_024 _ refl refl refl (omega arith) (omega arith) s5 in
          let s7 = turn_exact f 128 450 512 _ refl refl refl (omega arith) (omega arith) s6 in
          rw (eight_turns (sum_start f)) (turn_exact f 256 225 256 _ refl refl refl (omega arith) (omega arith) s7)
