-- Document 01, "Worked numbers": "V4: 28,799,999 goes to 57,599,999 inverted; 28,800,000 stays. Notch holds 85,000,000 and
-- 112,000,000, not 112,000,001." And the numbers on both sides of each other bound. Assumes nothing.
use mathlib.Core.Path.{◌≡◌, refl}
use mathlib.Core.Bool.{true, false}
use mathlib.Core.List.{[], ◌∷◌, map}
use Rattle.std.specs.Prelude.{Some}
use Rattle.board.specs.declared.Path.TheVariants.{Hf, Vhf, Uhf}
use Rattle.board.specs.declared.Board.TheVariants.{V4}
use Rattle.board.specs.Plans.{in_notch, path_at, board_plan, tuner_hz}

pub last_below : board_plan V4 28_799_999 ≡ record { hz = 57_599_999; inverted = true; path = Some Hf; notch = false }
unfolding board_plan tuner_hz path_at
last_below = refl

pub first_above : board_plan V4 28_800_000 ≡ record { hz = 28_800_000; inverted = false; path = Some Vhf; notch = false }
unfolding board_plan tuner_hz path_at
first_above = refl

pub notched :
    map in_notch (85_000_000 ∷ 112_000_000 ∷ 112_000_001 ∷ [])
    ≡ true ∷ true ∷ false ∷ []
notched = refl

pub notch-ends :
    map in_notch (0 ∷ 2_200_000 ∷ 2_200_001 ∷ 84_999_999 ∷ 171_999_999 ∷ 172_000_000 ∷ 242_000_000 ∷ 242_000_001 ∷ [])
    ≡ true ∷ true ∷ false ∷ false ∷ false ∷ true ∷ true ∷ false ∷ []
notch-ends = refl

pub path_ends : map path_at (249_999_999 ∷ 250_000_000 ∷ []) ≡ Vhf ∷ Uhf ∷ []
unfolding path_at
path_ends = refl
