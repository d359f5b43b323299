-- The divider of the oscillator. Document 01, "PLL": "Divider m: the first of 2, 4, .. 64 with 1,770,000,000 ≤ lo·m < 3,600,000,000."
use Rattle.std.specs.Prelude.{ℕ, ◌+◌, ◌*◌, Bool, cond, ◌&&◌, List, [], ◌∷◌, nat_le, nat_lt, Option, Some, None}

-- lo times m is a frequency that the oscillator can take
unfoldable pub in_vco : ℕ → ℕ → Bool
in_vco lo m = nat_le 1_770_000_000 (lo * m) && nat_lt (lo * m) 3_600_000_000

-- the first right one of a list, with its place in it, counted from `number`
unfoldable pub first_mixer : ℕ → List ℕ → ℕ → Option (ℕ × ℕ)
first_mixer lo [] number = None
first_mixer lo (m ∷ ms) number = cond (in_vco lo m) (Some (m, number)) (first_mixer lo ms (number + 1))

abbrev pub dividers : List ℕ
dividers = 2 ∷ 4 ∷ 8 ∷ 16 ∷ 32 ∷ 64 ∷ []

abbrev pub divider_of : ℕ → Option (ℕ × ℕ)
divider_of lo = first_mixer lo dividers 0
