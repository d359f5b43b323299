-- The sum of the fraction: S fits 16 bits, and the quotients taken plus the rest equal the first F. Assumes nothing.
use Rattle.std.proofs.Common.{◌≡◌, ℕ, zero, suc, ◌+◌, ◌-◌, ◌*◌, ◌/◌, ◌^◌, ◌<◌, ◌≤◌, Bool, true, false, cond, not, ◌&&◌, ltb, refl, ap, div-le_self, arith, ltb-true}
use native.Mathlib.Nat.{pow-succ'}
use Rattle.pll.specs.declared.Sum.{Sum}
use Rattle.pll.specs.Fraction.{takes_turn, turn_of, turns_of, sum_start, sum_of, taken_of}

-- what that many turns can add at most, from n on
weights : ℕ → ℕ → ℕ
weights zero n = 0
weights (suc t) n = 32_768 / (n / 2) + weights t (n * 2)

grows : (k n : ℕ) (s : Sum) (b : Bool) → takes_turn k n s ≡ b → (turn_of k n s).sum ≤ s.sum + 32_768 / (n / 2)
unfolding turn_of
grows k n s true e = simp e (omega arith)
grows k n s false e = simp e (omega arith)

-- a turn adds no more than 32,768
pub turn_most : (k n : ℕ) (s : Sum) → (turn_of k n s).sum ≤ s.sum + 32_768
turn_most k n s = omega (arith, grows k n s (takes_turn k n s) refl, div-le_self 32_768 (n / 2))

sum_most : (t k n : ℕ) (s : Sum) → (turns_of t k n s).sum ≤ s.sum + weights t n
unfolding turns_of weights
sum_most zero k n s = omega arith
sum_most (suc t) k n s = omega (arith, sum_most t k (n * 2) (turn_of k n s), grows k n s (takes_turn k n s) refl)

-- S fits 16 bits
pub sum_fits : (k f : ℕ) → (sum_of k f).sum < 2 ^ 16
unfolding weights
sum_fits k f = omega (arith, sum_most 16 k 2 (sum_start f))

later : (a b : Bool) → (a && b) ≡ true → b ≡ true
later true b e = e
later false b e = let z : ◌≡◌ {A = ℕ} 0 1 = cc in absurd (omega arith)

-- one turn moves what it takes, and nothing else, from the rest
keeps : (k n : ℕ) (s : Sum) (b : Bool) → takes_turn k n s ≡ b → cond (takes_turn k n s) (2 * k / n) 0 + (turn_of k n s).rest ≡ s.rest
unfolding turn_of
keeps k n s true e =
    let l : 2 * k / n < s.rest = ltb-true _ _ (later (ltb 1 s.rest) (ltb (2 * k / n) s.rest) (later (not s.stopped) (ltb 1 s.rest && ltb (2 * k / n) s.rest) e)) in
    simp e (omega arith)
keeps k n s false e = simp e (omega arith)

turns_keep : (t k n : ℕ) (s : Sum) → taken_of t k n s + (turns_of t k n s).rest ≡ s.rest
unfolding turns_of taken_of
turns_keep zero k n s = omega arith
turns_keep (suc t) k n s = omega (arith, turns_keep t k (n * 2) (turn_of k n s), keeps k n s (takes_turn k n s) refl)

-- the quotients taken plus the rest equal the first F
pub sum_keeps : (k f : ℕ) → taken_of 16 k 2 (sum_start f) + (sum_of k f).rest ≡ f
sum_keeps k f = turns_keep 16 k 2 (sum_start f)

-- for the loop over a counter of the turns done: one turn ahead, and how far n has doubled
pub turns_on : (i k n : ℕ) (s : Sum) → i < 16 → turns_of (16 - (i + 1)) k (n * 2) (turn_of k n s) ≡ turns_of (16 - i) k n s
unfolding turns_of
turns_on i k n s h =
    let d : 16 - i ≡ suc (16 - (i + 1)) = omega arith in
    rw d

pub doubled : (i n all : ℕ) → i < 16 → n * 2 ^ (16 - i) ≡ all → n * 2 * 2 ^ (16 - (i + 1)) ≡ all
doubled i n all h e =
    let d : 16 - i ≡ suc (16 - (i + 1)) = omega arith in
    omega (arith, ap (λ (x : ℕ). n * 2 ^ x) d, ap (λ (x : ℕ). n * x) (pow-succ' 2 (16 - (i + 1))))

pub turns_done : (i k n : ℕ) (s : Sum) → 16 ≤ i → turns_of (16 - i) k n s ≡ s
unfolding turns_of
turns_done i k n s h =
    let d : 16 - i ≡ 0 = omega arith in
    rw d
