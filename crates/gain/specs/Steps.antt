-- The 29 gain steps in tenths of a dB, and which of them is chosen.
-- Document 01, "Gain": "The step is the one at least distance in exact whole numbers, lower index on a tie."
-- Assumes nothing.
use Rattle.std.specs.Prelude.{Bool, true, false, List, [], ◌∷◌, ℕ, zero, suc, ◌+◌, ◌-◌, ◌<◌, ◌≤◌, min, ltb, Float, ℤ, pos, negsuc, get_or}
use Rattle.gain.specs.Product.{tenths_of}

unfoldable pub steps : List ℕ
steps =
    0 ∷ 9 ∷ 14 ∷ 27 ∷ 37 ∷ 77 ∷ 87 ∷ 125 ∷ 144 ∷ 157 ∷ 166 ∷ 197 ∷ 207 ∷ 229 ∷ 254 ∷ 280 ∷ 297 ∷ 328 ∷ 338 ∷ 364 ∷ 372
    ∷ 386 ∷ 402 ∷ 421 ∷ 434 ∷ 439 ∷ 445 ∷ 480 ∷ 496 ∷ []

abbrev pub step_at : ℕ → ℕ
step_at k = get_or steps k 0

-- how far the whole numbers s and t lie apart
abbrev pub distance : ℕ → ℤ → ℕ
distance s (pos t) = (s - t) + (t - s)
distance s (negsuc t) = s + suc t

abbrev pub apart : ℕ → ℤ → ℕ
apart k t = distance (step_at k) t

-- the sentence above: k is among the first n, none of them is nearer, and none of a lower index is as near
pub record NearestIn (n : ℕ) (t : ℤ) (k : ℕ) : Type 0 where
  pub within : k < n
  pub least : (j : ℕ) → j < n → apart k t ≤ apart j t
  pub lowest : (j : ℕ) → j < k → apart k t < apart j t

abbrev pub Nearest : ℤ → ℕ → Type 0
Nearest t k = NearestIn 29 t k

-- The same worked out: each step in turn is taken where it is nearer than the best before it. proofs/Steps.antt shows that it is the nearest.
abbrev pub better : Bool → ℕ → ℕ → ℕ
better true new old = new
better false new old = old

unfoldable pub nearest_in : ℕ → ℤ → ℕ
nearest_in zero t = 0
nearest_in (suc n) t = let b = nearest_in n t in better (ltb (apart n t) (apart b t)) n b

unfoldable pub nearest_of : ℤ → ℕ
unfolding nearest_in
nearest_of t = nearest_in 29 t

-- the index chosen for a gain in dB
unfoldable pub chosen_of : Float → ℕ
chosen_of db = nearest_of (tenths_of db)

-- Document 01, "Gain": "By index: clamped at 28, and the step chosen is that index."
abbrev pub clamped : ℕ → ℕ
clamped k = min k 28
