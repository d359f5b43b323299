-- The registers that a tuning writes first: `set_mux_raw`'s eleven, and the five of `set_pll_raw`. Document 01, "PLL": "Steps after that (0x10,
-- 0x14, 0x16, 0x15, 0x12, wait 2, status, divider repair, up to ten lock tries) follow `set_pll_raw`."
-- Assumes nothing.
use Rattle.std.specs.Prelude.{ℕ, ◌*◌, ◌/◌, ◌%◌, Bool, cond, List, [], ◌∷◌, eqb, leb}
use Rattle.chip.specs.declared.Update.{Update}
use Rattle.chip.specs.Steps.{masked}
use Rattle.pll.specs.declared.Plan.{Plan}
use Rattle.tuning.specs.declared.FreqRange.{FreqRange}

abbrev pub row : ℕ → ℕ → ℕ → ℕ → FreqRange
row hz open-d mux tf-c = record { hz = hz; opendrain = open-d; mux = mux; filter = tf-c }

-- the Rust's `FREQ_RANGES`: from which hz, open_d, rf_mux_ploy, tf_c
abbrev pub ranges : List FreqRange
ranges =
    row 0 0x08 0x02 0xdf
    ∷ row 50_000_000 0x08 0x02 0xbe
    ∷ row 55_000_000 0x08 0x02 0x8b
    ∷ row 60_000_000 0x08 0x02 0x7b
    ∷ row 65_000_000 0x08 0x02 0x69
    ∷ row 70_000_000 0x08 0x02 0x58
    ∷ row 75_000_000 0x00 0x02 0x44
    ∷ row 80_000_000 0x00 0x02 0x44
    ∷ row 90_000_000 0x00 0x02 0x34
    ∷ row 100_000_000 0x00 0x02 0x34
    ∷ row 110_000_000 0x00 0x02 0x24
    ∷ row 120_000_000 0x00 0x02 0x24
    ∷ row 140_000_000 0x00 0x02 0x14
    ∷ row 180_000_000 0x00 0x02 0x13
    ∷ row 220_000_000 0x00 0x02 0x13
    ∷ row 250_000_000 0x00 0x02 0x11
    ∷ row 280_000_000 0x00 0x02 0x00
    ∷ row 310_000_000 0x00 0x41 0x00
    ∷ row 450_000_000 0x00 0x41 0x00
    ∷ row 588_000_000 0x00 0x40 0x00
    ∷ row 650_000_000 0x00 0x40 0x00
    ∷ []

-- a row in place of the one in hand where its frequency is at most hz
abbrev pub later_of : ℕ → FreqRange → FreqRange → FreqRange
later_of hz best r = cond (leb r.hz hz) r best

-- the last row of a list whose frequency is at most hz, or the one in hand where there is none
unfoldable pub last_at : ℕ → FreqRange → List FreqRange → FreqRange
last_at hz best [] = best
last_at hz best (r ∷ rs) = last_at hz (later_of hz best r) rs

-- the last of the 21 rows whose frequency is at most hz; the first row's is 0
unfoldable pub range_of : ℕ → FreqRange
range_of hz = last_at hz (row 0 0x08 0x02 0xdf) ranges

-- `set_mux_raw`: under the notch open_d is 0
abbrev pub mux_updates : Bool → FreqRange → List Update
mux_updates notch r =
    masked 0x17 0xa0 0x30
    ∷ masked 0x17 (cond notch 0x00 r.opendrain) 0x08
    ∷ masked 0x1a r.mux 0xc3
    ∷ masked 0x1b r.filter 0xff
    ∷ masked 0x10 0x0b 0x0b
    ∷ masked 0x08 0x00 0x3f
    ∷ masked 0x09 0x00 0x3f
    ∷ masked 0x1d 0x18 0x38
    ∷ masked 0x1c 0x24 0x04
    ∷ masked 0x1e 14 0x1f
    ∷ masked 0x1a 0x20 0x30
    ∷ []

-- `set_pll_raw`, "Pass 1": divider, N, the sum's two bytes, and whether the fraction is off. #106: 0x14, 0x16 and 0x15 "go through the shadow"
abbrev pub pll_updates : Plan → List Update
pll_updates p =
    masked 0x10 (p.number * 32) 0xe0
    ∷ masked 0x14 p.setting 0xff
    ∷ masked 0x16 (p.sum / 256) 0xff
    ∷ masked 0x15 (p.sum % 256) 0xff
    ∷ masked 0x12 (cond (eqb p.fraction 0) 0x08 0x00) 0x08
    ∷ []
