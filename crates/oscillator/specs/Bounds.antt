-- Where else than at what was asked the oscillator may stand, and how near. Said as `Within` of Registers.antt is: multiplied out, so that nothing is cut.
-- Assumes nothing.
use Rattle.std.specs.Prelude.{ℕ, ◌+◌, ◌*◌, ◌≤◌, ◌<◌, ◌≡◌}
use Rattle.oscillator.specs.Registers.{Bytes, Within, divider_in, vco_in}

-- the VCO is at most `under` Hz below lo·m and at most `over` Hz above it: `Within` is this at 24,999 and 17,998
pub record Around (under over lo r : ℕ) (reg : Bytes) : Type 0 where
  pub below : 65_536 * (lo * divider_in reg) ≤ vco_in r reg + 65_536 * under
  pub above : vco_in r reg ≤ 65_536 * (lo * divider_in reg) + 65_536 * over

-- The oscillator stands at half of lo: its VCO is at most 24,999 Hz below lo·m / 2 and at most 17,998 Hz above it. Twice, so that lo may be odd
pub record AtHalf (lo r : ℕ) (reg : Bytes) : Type 0 where
  pub below : 65_536 * (lo * divider_in reg) ≤ 2 * (vco_in r reg + 65_536 * 24_999)
  pub above : 2 * vco_in r reg ≤ 65_536 * (lo * divider_in reg) + 2 * (65_536 * 17_998)

-- The Rust's "Pass 2": a status above the power asks for the divider's number less one (`saturating_sub`), one below it for one more. So of a tuning to lo,
-- whatever the status says: where it asks for nothing, at lo; where it asks for less, at twice lo, but at lo where the divider is 2 already (from 885 MHz on);
-- where it asks for more, at half of lo. Each within 25 kHz divided by the m that stands in 0x10
pub record ByStatus (power fine lo r : ℕ) (reg : Bytes) : Type 0 where
  pub right : fine ≡ power → Within lo r reg
  pub twice : power < fine → lo < 885_000_000 → Within (2 * lo) r reg
  pub least : power < fine → 885_000_000 ≤ lo → Within lo r reg
  pub half : fine < power → AtHalf lo r reg
