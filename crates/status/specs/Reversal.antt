-- Document 01, "PLL": "Status bytes have their bits reversed." A byte is b7 b6 .. b0; reversed it is b0 b1 .. b7.
-- Assumes nothing.
use Rattle.std.specs.Prelude.{Bool, not, ℕ, ◌+◌, ◌*◌, ◌/◌, ◌%◌, eqb}
use Rattle.std.specs.Int.Bits.{bit_and}

-- bit 0 to bit 7, bit 1 to bit 6, .., bit 7 to bit 0
unfoldable pub reversed : ℕ → ℕ
reversed b =
    b % 2 * 128
    + b / 2 % 2 * 64
    + b / 4 % 2 * 32
    + b / 8 % 2 * 16
    + b / 16 % 2 * 8
    + b / 32 % 2 * 4
    + b / 64 % 2 * 2
    + b / 128 % 2

-- the lock's bit of a status byte, whose bits are reversed
abbrev pub locked_by : ℕ → Bool
locked_by byte = not (eqb (bit_and (reversed byte) 0x40) 0)
