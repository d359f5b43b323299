-- The plan for a frequency on a board: src/tuner.rs, `plan_tuning` for the generic board and the V4, at every hz.
-- Document 01, "Worked numbers": "V4: 28,799,999 goes to 57,599,999 inverted; 28,800,000 stays."
-- Assumes nothing.
use Rattle.std.specs.Prelude.{ℕ, ◌+◌, Bool, false, cond, ◌&&◌, ◌||◌, ltb, leb, Some, None}
use Rattle.board.specs.declared.Board.{Board}
use Rattle.board.specs.declared.Board.TheVariants.{Generic, V4}
use Rattle.board.specs.declared.Path.{Path}
use Rattle.board.specs.declared.Path.TheVariants.{Hf, Vhf, Uhf}
use Rattle.board.specs.declared.Plan.{Plan}

-- the V4's upconverter takes what is below 28.8 MHz up by 28.8 MHz, and turns the spectrum round
abbrev pub below_up : ℕ → Bool
below_up hz = ltb hz 28_800_000

unfoldable pub tuner_hz : ℕ → ℕ
tuner_hz hz = cond (below_up hz) (hz + 28_800_000) hz

-- below 28.8 MHz cable 2, below 250 MHz cable 1, else air in
unfoldable pub path_at : ℕ → Path
path_at hz = cond (below_up hz) Hf (cond (ltb hz 250_000_000) Vhf Uhf)

-- the bands of the V4's notch filters, each with both its ends: 0 to 2.2 MHz, 85 to 112 MHz, 172 to 242 MHz
abbrev pub in_notch : ℕ → Bool
in_notch hz =
    leb hz 2_200_000
    || (leb 85_000_000 hz && leb hz 112_000_000)
    || (leb 172_000_000 hz && leb hz 242_000_000)

unfoldable pub board_plan : Board → ℕ → Plan
board_plan Generic hz = record { hz = hz; inverted = false; path = None; notch = false }
board_plan V4 hz = record { hz = tuner_hz hz; inverted = below_up hz; path = Some (path_at hz); notch = in_notch hz }
