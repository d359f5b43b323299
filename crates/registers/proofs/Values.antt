-- What the demodulator's values are, in digits: minus the ratio modulo 2^22; the ratio as it is sent; and how large each is. Assumes nothing.
use mathlib.Core.Path.{◌≡◌, sym, ap, ap₂, ◌∙◌}
use Prim.Native.Nat.{ℕ, ◌+◌, ◌*◌, ◌/◌, ◌%◌, ◌^◌, ◌<◌}
use borrow.Author.Tests.{ne_eqb}
use native.Mathlib.Omega.{arith}
use mathlib.Core.List.{[], ◌∷◌}
use lib.Bits.{bit_and, bit_or, and_high, and_le_r, or_shifted_r}
use lib.Pow.{mod-pow-add}
use Rattle.registers.specs.Rates.{if_ratio_of, if_regs_of, if_value_of, masked_of, negated_of, number_from, ratio_of, resample_regs_of, sent_of, three_of}

-- negated is below 2^22, and the sum with the number is 0 there: minus the number, modulo 2^22
pub negated_small : (x : ℕ) → negated_of x < 2 ^ 22
negated_small x = omega arith

pub negated_law : (x : ℕ) → (negated_of x + x) % 2 ^ 22 ≡ 0
negated_law x = omega arith

-- the mask keeps bits 2 to 27
masked_is : (r : ℕ) → masked_of r ≡ r / 4 % 2 ^ 26 * 4
masked_is r = and_high (r % 2 ^ 32) 26 2 ∙ omega arith

-- bit 27, of what the mask kept
top_is : (r : ℕ) → bit_and (masked_of r) 0x0800_0000 ≡ r / 2 ^ 27 % 2 * 2 ^ 27
top_is r = and_high (masked_of r) 1 27 ∙ omega (arith, masked_is r)

-- the code's shift, which loses no bit here
pub doubled : (r : ℕ) → bit_and (masked_of r) 0x0800_0000 * 2 % 2 ^ 32 ≡ bit_and (masked_of r) 0x0800_0000 * 2
doubled r = omega (arith, and_le_r (masked_of r) 0x0800_0000)

-- bits 2 to 27 of the ratio, and bit 27 once more as bit 28
pub sent_is : (r : ℕ) → sent_of r ≡ r / 2 ^ 27 % 2 * 2 ^ 28 + r / 4 % 2 ^ 26 * 4
unfolding sent_of
sent_is r =
    let top : bit_and (masked_of r) 0x0800_0000 * 2 ≡ r / 2 ^ 27 % 2 * 2 ^ 28 = omega (arith, top_is r) in
    let small : r / 4 % 2 ^ 26 * 4 < 2 ^ 28 = omega arith in
    ap₂ bit_or (masked_is r) top ∙ or_shifted_r (r / 2 ^ 27 % 2) 28 (r / 4 % 2 ^ 26 * 4) small

pub sent_fits : (r : ℕ) → sent_of r < 2 ^ 29
sent_fits r = omega (arith, sent_is r)

-- ---- the bytes as one number

three_number : (x : ℕ) → number_from 0 (three_of x) ≡ x % 2 ^ 22
three_number x = omega arith

-- "`if_freq_regs` has the positive value": its three bytes are the ratio modulo 2^22
pub if_number : (hz xtal : ℕ) → (xtal ≡ 0 → ⊥) → number_from 0 (if_regs_of hz xtal).bytes ≡ if_ratio_of hz xtal % 2 ^ 22
unfolding if_regs_of
if_number hz xtal h = rw (ne_eqb xtal 0 h) (three_number (if_ratio_of hz xtal))

-- and with the three bytes of the demodulator's registers 0x19..0x1b they are 0 there
pub if_opposite : (hz xtal : ℕ) → (xtal ≡ 0 → ⊥)
    → (number_from 0 (if_regs_of hz xtal).bytes + number_from 0 (three_of (if_value_of hz xtal))) % 2 ^ 22 ≡ 0
if_opposite hz xtal h =
    ap₂ (λ (a b : ℕ). (a + b) % 2 ^ 22) (if_number hz xtal h) (three_number (if_value_of hz xtal)) ∙ opposite (if_ratio_of hz xtal)
  where
    opposite : (x : ℕ) → (x % 2 ^ 22 + negated_of x % 2 ^ 22) % 2 ^ 22 ≡ 0
    opposite x = omega arith

put_before : (a b c d x y : ℕ) → x ≡ a * 2 ^ 24 + y → b * 2 ^ 16 + c * 2 ^ 8 + d ≡ y → number_from 0 (a ∷ b ∷ c ∷ d ∷ []) ≡ x
put_before a b c d x y e f = omega arith

four_number : (x : ℕ) → number_from 0 (x / 2 ^ 24 % 2 ^ 6 ∷ x / 2 ^ 16 % 2 ^ 8 ∷ x / 2 ^ 8 % 2 ^ 8 ∷ x % 2 ^ 8 ∷ []) ≡ x % 2 ^ 30
four_number x =
    let low : x / 2 ^ 16 % 2 ^ 8 * 2 ^ 16 + x / 2 ^ 8 % 2 ^ 8 * 2 ^ 8 + x % 2 ^ 8 ≡ x % 2 ^ 24 = omega arith in
    put_before (x / 2 ^ 24 % 2 ^ 6) (x / 2 ^ 16 % 2 ^ 8) (x / 2 ^ 8 % 2 ^ 8) (x % 2 ^ 8) (x % 2 ^ 30) (x % 2 ^ 24) (mod-pow-add x 6 24) low

enough : (r : ℕ) → r % 2 ^ 30 / 2 ^ 27 % 2 * 2 ^ 28 + r % 2 ^ 30 / 4 % 2 ^ 26 * 4 ≡ r / 2 ^ 27 % 2 * 2 ^ 28 + r / 4 % 2 ^ 26 * 4
enough r =
    let top : r % 2 ^ 30 / 2 ^ 27 % 2 ≡ r / 2 ^ 27 % 2 = omega arith in
    let rest : r % 2 ^ 30 / 4 % 2 ^ 26 ≡ r / 4 % 2 ^ 26 = omega arith in
    λ i. top i * 2 ^ 28 + rest i * 4

-- `resample_regs`' four bytes are the ratio modulo 2^30,
pub resample_number : (rate xtal : ℕ) → (rate ≡ 0 → ⊥) → (xtal ≡ 0 → ⊥) → number_from 0 (resample_regs_of rate xtal).bytes ≡ ratio_of rate xtal % 2 ^ 30
unfolding resample_regs_of
resample_number rate xtal h k = rw (ne_eqb rate 0 h, ne_eqb xtal 0 k) (four_number (ratio_of rate xtal))

-- so that what is sent of them is what is sent of the ratio
pub resample_sent : (rate xtal : ℕ) → (rate ≡ 0 → ⊥) → (xtal ≡ 0 → ⊥) → sent_of (number_from 0 (resample_regs_of rate xtal).bytes) ≡ sent_of (ratio_of rate xtal)
resample_sent rate xtal h k =
    ap sent_of (resample_number rate xtal h k) ∙ sent_is (ratio_of rate xtal % 2 ^ 30) ∙ enough (ratio_of rate xtal) ∙ sym (sent_is (ratio_of rate xtal))
