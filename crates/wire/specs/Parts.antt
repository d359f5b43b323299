-- Bytes as parts one after the other, each of its width: how every record is laid out.
-- Assumes nothing.
use Rattle.std.specs.Prelude.{ℕ, ◌+◌, ◌≡◌, List, [], ◌∷◌, ◌++◌, length, get_or, take, drop}
use Rattle.std.proofs.lemmas.List.Edits.{sets}
use Rattle.wire.specs.Bytes.{le_value}

unfoldable pub joined : List (List ℕ) → List ℕ
joined [] = []
joined (p ∷ ps) = p ++ joined ps

-- the parts of these widths, from a place on
abbrev pub parts_from : ℕ → List ℕ → List ℕ → List (List ℕ)
parts_from at [] b = []
parts_from at (k ∷ ks) b = take k (drop at b) ∷ parts_from (at + k) ks b

abbrev pub sum : List ℕ → ℕ
sum [] = 0
sum (k ∷ ks) = k + sum ks

-- parts stored one after the other, each from where the widths before it end
abbrev pub laid : List ℕ → ℕ → List ℕ → List (List ℕ) → List ℕ
laid l at (k ∷ ks) (p ∷ ps) = laid (sets l at p) (at + k) ks ps
laid l at (k ∷ ks) [] = l
laid l at [] ps = l

-- the parts have the widths
abbrev pub Sized : List ℕ → List (List ℕ) → Type 0
Sized [] [] = Unit {0}
Sized [] (p ∷ ps) = ⊥
Sized (k ∷ ks) [] = ⊥
Sized (k ∷ ks) (p ∷ ps) = (length p ≡ k) × Sized ks ps

-- one part, and the number in it
abbrev pub part : List (List ℕ) → ℕ → List ℕ
part ps i = get_or ps i []

abbrev pub num : List (List ℕ) → ℕ → ℕ
num ps i = le_value (part ps i)
