-- The demodulator's values for an intermediate frequency and for a sample rate. Document 01, "Demodulator":
-- "IF: 0x19..0x1b get -(if·2^22 / xtal) modulo 2^22. `if_freq_regs` has the positive value."
-- "Rate: r = xtal·2^22 / rate, kept to 32 bits, and 0x0ffffffc, then bit 27 copied into bit 28".
-- "Refusal numbers": "`if_freq_regs` and its demod sister refuse 4 for reference zero; so do both resampler calls, after rate";
-- "A refused call's value is 0".
-- Document 02, #103: which rates the resampler holds, and the numbers of those that are refused; #104: the rate that is had.
use Rattle.std.specs.Prelude.{ℕ, ◌+◌, ◌-◌, ◌*◌, ◌/◌, ◌%◌, ◌^◌, Bool, ◌&&◌, cond, List, [], ◌∷◌, eqb, leb, ltb}
use Rattle.std.specs.Int.Bits.{bit_and, bit_or}
use Rattle.refusals.specs.Table.{RATE, CORRECTION, RATIO}
use Rattle.registers.specs.declared.IfRegs.{IfRegs}
use Rattle.registers.specs.declared.ResampleRegs.{ResampleRegs}

-- if·2^22 / xtal, the positive value
abbrev pub if_ratio_of : ℕ → ℕ → ℕ
if_ratio_of hz xtal = hz * 2 ^ 22 / xtal

-- minus a number, modulo 2^22
abbrev pub negated_of : ℕ → ℕ
negated_of x = (2 ^ 22 - x % 2 ^ 22) % 2 ^ 22

-- what 0x19..0x1b get
abbrev pub if_value_of : ℕ → ℕ → ℕ
if_value_of hz xtal = negated_of (if_ratio_of hz xtal)

-- the ratio, uncut
abbrev pub ratio_of : ℕ → ℕ → ℕ
ratio_of rate xtal = xtal * 2 ^ 22 / rate

-- the ratio as it is sent: 32 bits, the mask, bit 27 into bit 28
abbrev pub masked_of : ℕ → ℕ
masked_of ratio = bit_and (ratio % 2 ^ 32) 0x0fff_fffc

unfoldable pub sent_of : ℕ → ℕ
sent_of ratio = bit_or (masked_of ratio) (bit_and (masked_of ratio) 0x0800_0000 * 2)

-- "a rate is taken only if r is at least 4, below 2^29, and its bits 27 and 28 are equal", r being "the ratio before any masking or cut to 32 bits"
unfoldable pub ratio_holds : ℕ → Bool
ratio_holds r = leb 4 r && ltb r (2 ^ 29) && eqb (r / 2 ^ 27 % 2) (r / 2 ^ 28 % 2)

-- 4 for a reference of 0, before a later number
abbrev pub xtal_number : ℕ → ℕ → ℕ
xtal_number xtal later = cond (eqb xtal 0) CORRECTION later

-- "both resampler calls, after rate": 3, then 4, before a later number
abbrev pub zero_number : ℕ → ℕ → ℕ → ℕ
zero_number rate xtal later = cond (eqb rate 0) RATE (xtal_number xtal later)

-- why a rate is not sent, 0 where it is: "new 13 ratio, after 3 and after 4 for a zero reference"
unfoldable pub rate_number : ℕ → ℕ → ℕ
rate_number rate xtal = zero_number rate xtal (cond (ratio_holds (ratio_of rate xtal)) 0 RATIO)

-- Document 02, #104: "the true rate, xtal·2^22 divided by the ratio as sent after masking and the copied bit, cut to a whole u64"
unfoldable pub true_of : ℕ → ℕ → ℕ
true_of rate xtal = xtal * 2 ^ 22 / sent_of (ratio_of rate xtal)

-- 22 bits in three registers: six bits and two bytes, high first
abbrev pub three_of : ℕ → List ℕ
three_of x = x / 2 ^ 16 % 2 ^ 6 ∷ x / 2 ^ 8 % 2 ^ 8 ∷ x % 2 ^ 8 ∷ []

-- bytes, high first, as the low end of a number whose high end is given
abbrev pub number_from : ℕ → List ℕ → ℕ
number_from x [] = x
number_from x (b ∷ bs) = number_from (x * 2 ^ 8 + b) bs

unfoldable pub if_regs_of : ℕ → ℕ → IfRegs
if_regs_of hz xtal = cond (eqb xtal 0) (record { refusal = CORRECTION; bytes = 0 ∷ 0 ∷ 0 ∷ [] }) (record { refusal = 0; bytes = three_of (if_ratio_of hz xtal) })

-- six bits and three bytes, high first
abbrev pub four_of : ℕ → List ℕ
four_of x = x / 2 ^ 24 % 2 ^ 6 ∷ x / 2 ^ 16 % 2 ^ 8 ∷ x / 2 ^ 8 % 2 ^ 8 ∷ x % 2 ^ 8 ∷ []

-- of any ratio: it sends nothing, so 13 is not its number
unfoldable pub resample_regs_of : ℕ → ℕ → ResampleRegs
resample_regs_of rate xtal =
    cond (eqb (zero_number rate xtal 0) 0) (record { refusal = 0; bytes = four_of (ratio_of rate xtal) })
    (record { refusal = zero_number rate xtal 0; bytes = 0 ∷ 0 ∷ 0 ∷ 0 ∷ [] })
