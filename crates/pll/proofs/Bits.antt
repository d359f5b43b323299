-- S bit by bit: bit 16 - j is set exactly if the quotient 2K/2^j was taken. So each weight 32,768/(n/2) of document 01's sum has a bit of its own.
-- Assumes nothing.
use Rattle.std.proofs.Common.{◌≡◌, ℕ, zero, suc, ◌+◌, ◌-◌, ◌*◌, ◌/◌, ◌%◌, ◌^◌, ◌<◌, Bool, true, false, cond, sym, refl, ap, ◌∙◌, arith, pow-add}
use native.Mathlib.Nat.{pow-succ'}
use lib.Pow.{field, high, low, mod-mod-pow, shl-shr}
use Rattle.pll.specs.declared.Sum.{Sum}
use Rattle.pll.specs.Fraction.{sum_start, sum_of, takes_turn, turn_of, turns_of}

-- what that many turns add, the first of them at the highest bit
unfoldable pub bits_of : ℕ → ℕ → ℕ → Sum → ℕ
bits_of zero k n s = 0
bits_of (suc t) k n s = cond (takes_turn k n s) 1 0 * 2 ^ t + bits_of t k (n * 2) (turn_of k n s)

bits_small : (t k n : ℕ) (s : Sum) → bits_of t k n s < 2 ^ t
unfolding bits_of
bits_small zero k n s = omega arith
bits_small (suc t) k n s = go (takes_turn k n s) (bits_small t k (n * 2) (turn_of k n s))
  where
    go : (b : Bool) → bits_of t k (n * 2) (turn_of k n s) < 2 ^ t → cond b 1 0 * 2 ^ t + bits_of t k (n * 2) (turn_of k n s) < 2 ^ suc t
    go true h = omega (arith, pow-succ' 2 t)
    go false h = omega (arith, pow-succ' 2 t)

-- ---- S is that number

weight : (t i n : ℕ) → n ≡ 2 * 2 ^ i → t + i ≡ 15 → 32_768 / (n / 2) ≡ 2 ^ t
weight t i n e l =
    let half : n / 2 ≡ 2 ^ i = omega arith in
    let whole : 32_768 ≡ 2 ^ t * 2 ^ i = sym (ap (λ (x : ℕ). 2 ^ x) l) ∙ pow-add 2 t i in
    (λ j. whole j / half j) ∙ shl-shr (2 ^ t) i

adds : (t k n : ℕ) (s : Sum) (b : Bool) → takes_turn k n s ≡ b → 32_768 / (n / 2) ≡ 2 ^ t → (turn_of k n s).sum ≡ s.sum + cond (takes_turn k n s) 1 0 * 2 ^ t
unfolding turn_of
adds t k n s true e w = simp e (omega arith)
adds t k n s false e w = simp e (omega arith)

pub sum_is : (t i k n : ℕ) (s : Sum) → n ≡ 2 * 2 ^ i → t + i ≡ 16 → (turns_of t k n s).sum ≡ s.sum + bits_of t k n s
unfolding turns_of bits_of
sum_is zero i k n s e l = omega arith
sum_is (suc t) i k n s e l =
    let next : n * 2 ≡ 2 * 2 ^ suc i = omega (arith, pow-succ' 2 i) in
    let more : t + suc i ≡ 16 = omega arith in
    omega (arith, sum_is t (suc i) k (n * 2) (turn_of k n s) next more, adds t k n s (takes_turn k n s) refl (weight t i n e (omega arith)))

-- ---- its bits

whole_bit : (b : Bool) → cond b 1 0 % 2 ≡ cond b 1 0
whole_bit true = refl
whole_bit false = refl

-- a bit below the highest is that of the rest
lower : (p r t i j : ℕ) → r < 2 ^ t → t ≡ i + (1 + j) → (p * 2 ^ t + r) / 2 ^ j % 2 ≡ r / 2 ^ j % 2
lower p r t i j h e =
    let x : ℕ = p * 2 ^ t + r in
    let cut : x % 2 ^ (i + (1 + j)) ≡ r = ap (λ (y : ℕ). x % 2 ^ y) (sym e) ∙ low p t h in
    sym (field x 1 j)
    ∙ ap (λ (y : ℕ). y / 2 ^ j) (sym (mod-mod-pow x i (1 + j)) ∙ ap (λ (y : ℕ). y % 2 ^ (1 + j)) cut)
    ∙ field r 1 j

bit_is : (t i j k n : ℕ) (s : Sum) → t ≡ i + (1 + j) → bits_of t k n s / 2 ^ j % 2 ≡ cond (takes_turn k (n * 2 ^ i) (turns_of i k n s)) 1 0
unfolding turns_of bits_of
bit_is zero i j k n s e = absurd (omega arith)
bit_is (suc t) zero j k n s e =
    let same : j ≡ t = omega arith in
    let one : n ≡ n * 1 = omega arith in
    ap (λ (y : ℕ). bits_of (suc t) k n s / 2 ^ y % 2) same
    ∙ ap (λ (y : ℕ). y % 2) (high (cond (takes_turn k n s) 1 0) t (bits_small t k (n * 2) (turn_of k n s)))
    ∙ whole_bit (takes_turn k n s)
    ∙ ap (λ (m : ℕ). cond (takes_turn k m s) 1 0) one
bit_is (suc t) (suc i) j k n s e =
    let less : t ≡ i + (1 + j) = omega arith in
    let next : n * 2 * 2 ^ i ≡ n * 2 ^ suc i = omega (arith, ap (λ (x : ℕ). n * x) (pow-succ' 2 i)) in
    lower (cond (takes_turn k n s) 1 0) (bits_of t k (n * 2) (turn_of k n s)) t i j (bits_small t k (n * 2) (turn_of k n s)) less
    ∙ bit_is t i j k (n * 2) (turn_of k n s) less
    ∙ ap (λ (m : ℕ). cond (takes_turn k m (turns_of i k (n * 2) (turn_of k n s))) 1 0) next

-- with j = i + 1: the turn at n = 2^j, behind i others
pub sum_bit : (k f i : ℕ) → i < 16 → (sum_of k f).sum / 2 ^ (15 - i) % 2 ≡ cond (takes_turn k (2 ^ suc i) (turns_of i k 2 (sum_start f))) 1 0
sum_bit k f i h =
    let all : (sum_of k f).sum ≡ bits_of 16 k 2 (sum_start f) = omega (arith, sum_is 16 0 k 2 (sum_start f) refl refl) in
    let place : 16 ≡ i + (1 + (15 - i)) = omega arith in
    ap (λ (x : ℕ). x / 2 ^ (15 - i) % 2) all
    ∙ bit_is 16 i (15 - i) k 2 (sum_start f) place
    ∙ ap (λ (m : ℕ). cond (takes_turn k m (turns_of i k 2 (sum_start f))) 1 0) (sym (pow-succ' 2 i))
