-- Where the oscillator stands, by the bytes of five of the tuner's registers. Of them alone: no plan, no call and no record is asked.
-- Document 01's rules, "PLL", read backwards: "Divider m: the first of 2, 4, .. 64"; "a = (N-13)/4 ..; s = N - (13 + 4a) ..
-- 0x14 gets a or (s shifted left by 6)"; S is the sum, in 65,536ths of 2R; 0x12 is told whether F is 0. In the Rust it is
-- `set_pll_raw` of src/tuners/r82xx.rs that writes them: `div_num << 5`, `ni | (si << 6)`, `sdm` and `pw_sdm`.
-- Assumes nothing.
use Rattle.std.specs.Prelude.{ℕ, suc, ◌+◌, ◌*◌, ◌/◌, ◌%◌, ◌^◌, ◌≤◌, Bool, ◌||◌, cond, eqb}

-- what each register holds, or is thought to hold, by its number
abbrev pub Bytes : Type 0
Bytes = ℕ → ℕ

-- the five that it stands by
abbrev pub stands_by : ℕ → Bool
stands_by r = eqb r 0x10 || eqb r 0x12 || eqb r 0x14 || eqb r 0x15 || eqb r 0x16

-- m: the three high bits of 0x10 count its doublings. No plan has 6 or 7, a repair may leave 6; they are taken as they are, 128 and 256
abbrev pub divider_in : Bytes → ℕ
divider_in reg = 2 ^ suc (reg 0x10 / 32)

-- N: a stands in the six low bits of 0x14, s in the two high ones
abbrev pub whole_in : Bytes → ℕ
whole_in reg = 13 + 4 * (reg 0x14 % 64) + reg 0x14 / 64

-- Bit 3 of 0x12 switches the fraction off. A tuning sets it where F is 0, and then S is 0 too: so it is no matter that the first try
-- without a lock writes 0x06 there, which clears it again
abbrev pub off : ℕ → Bool
off byte = eqb (byte / 8 % 2) 1

-- S
abbrev pub sum_in : Bytes → ℕ
sum_in reg = cond (off (reg 0x12)) 0 (256 * reg 0x16 + reg 0x15)

-- 65,536 times the VCO, which is 2R(N + S / 65,536): a whole number, so that nothing is cut
abbrev pub vco_in : ℕ → Bytes → ℕ
vco_in r reg = 2 * r * (65_536 * whole_in reg + sum_in reg)

-- the oscillator is the VCO divided by m; in whole Hz it is cut
abbrev pub hz_in : ℕ → Bytes → ℕ
hz_in r reg = vco_in r reg / (65_536 * divider_in reg)

-- The oscillator stands at lo: its VCO is at most 24,999 Hz below lo·m and at most 17,998 Hz above it, so that it is itself within
-- 25 kHz / m. Multiplied out by 65,536, so that nothing is cut
pub record Within (lo r : ℕ) (reg : Bytes) : Type 0 where
  pub below : 65_536 * (lo * divider_in reg) ≤ vco_in r reg + 65_536 * 24_999
  pub above : vco_in r reg ≤ 65_536 * (lo * divider_in reg) + 65_536 * 17_998

-- five bytes in their places
abbrev pub five : ℕ → ℕ → ℕ → ℕ → ℕ → Bytes
five divider control whole low high r =
    cond (eqb r 0x10) divider (cond (eqb r 0x12) control (cond (eqb r 0x14) whole (cond (eqb r 0x15) low high)))
