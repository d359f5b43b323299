-- The gain asked for, in tenths of a dB, and a step's own dB: the binary32 arithmetic of `set_gain`.
-- `Rattle.std.specs.Float.Ieee` has IEEE 754's operations and, as `to_signed`, the Rust Reference's cast: toward zero, to the nearest end of the range
-- where the value is out of it, and 0 for a NaN.
-- Assumes nothing.
use Rattle.std.specs.Prelude.{ℕ, zero, suc, ◌+◌, ◌*◌, ◌/◌, ◌^◌, ℤ, pos, Float}
use Rattle.std.specs.Float.{binary32}
use Rattle.std.specs.Float.Ieee.{mul, div, of_int, of_bits, to_signed}

-- 10.0
abbrev pub ten : Float
ten = of_bits binary32 0x4120_0000

-- Document 01, "Gain": "The product db times 10 is one binary32 multiplication, cut toward zero into i32, saturating, NaN to 0."
unfoldable pub tenths_of : Float → ℤ
tenths_of db = to_signed 31 (mul binary32 db ten)

-- "The answer is step / 10 in binary32": one rounded division.
unfoldable pub gain_of : ℕ → Float
gain_of s = div binary32 (of_int binary32 (pos s)) ten

-- For `whole_part` alone: what the fields of a finite pattern, its exponent and its digits, have before the point.
unfoldable pub whole_part : ℕ → ℕ → ℕ
whole_part zero t = t * 2 ^ 0 / 2 ^ 149
whole_part (suc x) t = (0x80_0000 + t) * 2 ^ x / 2 ^ 149
