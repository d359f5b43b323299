-- Laws on lists for the sixteen coefficients: a list by its elements. Assumes nothing.
use mathlib.Core.Path.{◌≡◌, refl, ap, subst}
use mathlib.Core.List.{List, [], ◌∷◌}
use Prim.Native.Nat.{ℕ, zero, suc}
use lib.ListN.{length, get_or}

abbrev pub tab : {A : Type 0} → (ℕ → A) → ℕ → List A
tab f zero = []
tab f (suc n) = f 0 ∷ tab (λ (k : ℕ). f (suc k)) n

listed : {A : Type 0} (d : A) (l : List A) → tab (λ (k : ℕ). get_or l k d) (length l) ≡ l
listed d [] = refl
listed d (x ∷ l) = ap (λ (u : List _). x ∷ u) (listed d l)

pub listed_at : {A : Type 0} (d : A) (l : List A) (n : ℕ) → length l ≡ n → tab (λ (k : ℕ). get_or l k d) n ≡ l
listed_at d l n e = subst (λ (m : ℕ). tab (λ (k : ℕ). get_or l k d) m ≡ l) e (listed d l)

pub cons : {A : Type 0} {x y : A} {xs ys : List A} → x ≡ y → xs ≡ ys → x ∷ xs ≡ y ∷ ys
cons p q = λ i. p i ∷ q i
