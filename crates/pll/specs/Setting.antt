-- Register 0x14. Document 01, "PLL": "a = (N-13)/4, or 0 below 13; s = N - (13 + 4a), a subtraction that wraps in eight bits.
-- 0x14 gets a or (s shifted left by 6), kept to eight bits."
use Rattle.std.specs.Prelude.{ℕ, ◌+◌, ◌-◌, ◌*◌, ◌/◌, ◌%◌, bit_or}

-- a: the logic's subtraction gives 0 below 13, and so does the quotient
abbrev pub quarter_of : ℕ → ℕ
quarter_of n = (n - 13) / 4

-- s, for N and 13 + 4a below 256
abbrev pub wrapped_of : ℕ → ℕ
wrapped_of n = (n + 256 - (13 + 4 * quarter_of n)) % 256

unfoldable pub setting_of : ℕ → ℕ
setting_of n = bit_or (quarter_of n) (wrapped_of n * 64 % 256)
