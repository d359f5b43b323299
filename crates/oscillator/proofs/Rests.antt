-- How much the sum leaves of the fraction, in thousands of Hz. Assumes nothing.
use mathlib.Core.Path.{◌≡◌, refl, sym, ap, subst}
use mathlib.Core.Bool.{Bool, true, false, cond}
use Prim.Native.Nat.{ℕ, zero, suc, ◌+◌, ◌-◌, ◌*◌, ◌/◌, ◌^◌, ◌≤◌, ◌<◌}
use native.Mathlib.Omega.{arith}
use native.Mathlib.Nat.{div-lt_iff_lt-mul, pow-succ'}
use borrow.Author.Tests.{lt-leb, ltb-false}
use lib.Dec.{leb, ltb}
use lib.Pow.{pow_mono, pow_pos}
use Rattle.pll.specs.declared.Sum.{Sum}
use Rattle.pll.specs.Fraction.{sum_of, sum_start, takes_turn, turn_of, turns_of}

-- half a quotient: 2K/2^i is at most twice 2K/2^(i+1), and one
halved : (x p : ℕ) → 0 < p → x / p ≤ 2 * (x / (2 * p)) + 1
halved x p h =
    let q : ℕ = x / (2 * p) in
    let some : 0 < 2 * p = omega arith in
    let cut : x < (q + 1) * (2 * p) = (div-lt_iff_lt-mul some).0 (omega arith) in
    let again : x < (2 * q + 2) * p = omega (arith, cut) in
    let less : x / p < 2 * q + 2 = (div-lt_iff_lt-mul h).1 again in
    omega arith

-- a turn that is not stopped leaves no more than its quotient and what was over before, and one
turn_leaves : (k n c x : ℕ) (s : Sum) → s.stopped ≡ false → x ≤ 2 * (2 * k / n) + 1 → s.rest ≤ x + c → 1 ≤ c → (turn_of k n s).rest ≤ 2 * k / n + c + 1
unfolding turn_of
turn_leaves k n c x s e h r o = go (ltb 1 s.rest) (ltb (2 * k / n) s.rest) refl refl
  where
    go : (a b : Bool) → ltb 1 s.rest ≡ a → ltb (2 * k / n) s.rest ≡ b → (turn_of k n s).rest ≤ 2 * k / n + c + 1
    go true true p q = rw (e, p, q) (omega arith)
    go true false p q = rw (e, p, q) (omega (arith, ltb-false (2 * k / n) s.rest q))
    go false b p q = rw (e, p) (omega (arith, ltb-false 1 s.rest p))

turn_less : (k n : ℕ) (s : Sum) → (turn_of k n s).rest ≤ s.rest
unfolding turn_of
turn_less k n s = go (takes_turn k n s)
  where
    go : (b : Bool) → (cond b (record { sum = s.sum + 32_768 / (n / 2); rest = s.rest - 2 * k / n; stopped = leb 32_768 n }) s).rest ≤ s.rest
    go true = omega arith
    go false = omega arith

turn_going : (k n : ℕ) (s : Sum) → s.stopped ≡ false → n < 32_768 → (turn_of k n s).stopped ≡ false
unfolding turn_of
turn_going k n s e h = go (takes_turn k n s)
  where
    go : (b : Bool) → (cond b (record { sum = s.sum + 32_768 / (n / 2); rest = s.rest - 2 * k / n; stopped = leb 32_768 n }) s).stopped ≡ false
    go true = lt-leb 32_768 n h
    go false = e

-- turns up to n = 32,768
turns_leave : (t i k n : ℕ) (s : Sum) → n ≡ 2 * 2 ^ i → t + i ≡ 15 → s.stopped ≡ false → s.rest ≤ 2 * k / 2 ^ i + (i + 1)
    → (turns_of t k n s).rest ≤ 2 * k / 32_768 + 16
unfolding turns_of
turns_leave zero i k n s e l o r =
    let fifteen : i ≡ 15 = omega arith in
    let last : 2 ^ i ≡ 32_768 = ap (λ (x : ℕ). 2 ^ x) fifteen in
    let same : 2 * k / 2 ^ i ≡ 2 * k / 32_768 = ap (λ (x : ℕ). 2 * k / x) last in
    omega (arith, same)
turns_leave (suc zero) i k n s e l o r =
    let fourteen : i ≡ 14 = omega arith in
    let last : n ≡ 32_768 = omega (arith, e, ap (λ (x : ℕ). 2 ^ x) fourteen) in
    let half : 2 * k / 2 ^ i ≤ 2 * (2 * k / n) + 1 = subst (λ (x : ℕ). 2 * k / 2 ^ i ≤ 2 * (2 * k / x) + 1) (sym e) (halved (2 * k) (2 ^ i) (pow_pos i)) in
    let same : 2 * k / n ≡ 2 * k / 32_768 = ap (λ (x : ℕ). 2 * k / x) last in
    omega (arith, turn_leaves k n (i + 1) (2 * k / 2 ^ i) s o half r (omega arith), same)
turns_leave (suc (suc t)) i k n s e l o r =
    let more : 2 * 2 ^ suc i ≡ n * 2 = omega (arith, pow-succ' 2 i) in
    let half : 2 * k / 2 ^ i ≤ 2 * (2 * k / n) + 1 = subst (λ (x : ℕ). 2 * k / 2 ^ i ≤ 2 * (2 * k / x) + 1) (sym e) (halved (2 * k) (2 ^ i) (pow_pos i)) in
    let next : 2 ^ suc i ≡ n = omega (arith, pow-succ' 2 i, e) in
    let small : 2 ^ i ≤ 2 ^ 13 = pow_mono {i = i} {j = 13} (omega arith) in
    let left : (turn_of k n s).rest ≤ 2 * k / 2 ^ suc i + (suc i + 1) =
    subst (λ (x : ℕ). (turn_of k n s).rest ≤ 2 * k / x + (suc i + 1)) (sym next) (omega (arith, turn_leaves k n (i + 1) (2 * k / 2 ^ i) s o half r (omega arith))) in
    turns_leave (suc t) (suc i) k (n * 2) (turn_of k n s) (sym more) (omega arith) (turn_going k n s o (omega (arith, small, e))) left

pub rest_most : (k f : ℕ) → f ≤ 2 * k + 1 → (sum_of k f).rest ≤ 2 * k / 32_768 + 16
unfolding turns_of
rest_most k f h =
    let fifteen : (turns_of 15 k 2 (sum_start f)).rest ≤ 2 * k / 32_768 + 16 = turns_leave 15 0 k 2 (sum_start f) refl refl refl (omega arith) in
    omega (arith, turn_less k 65_536 (turns_of 15 k 2 (sum_start f)), fifteen)
