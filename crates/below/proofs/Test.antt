-- A test that antt computes at each number below n, one after the other, holds at every number below n.
-- Assumes nothing.
use mathlib.Core.Path.{subst, sym, ◌∙◌}
use mathlib.Core.Bool.{Bool, true, false}
use Prim.Native.Nat.{ℕ, zero, suc, ◌+◌, ◌<◌}
use native.Mathlib.Nat.{add-zero, zero-add, add-suc, suc-add, le_of_suc-le-suc, not-suc-le-zero}
use lib.Dec.{T}

abbrev pub both : Bool → Bool → Bool
both true b = b
both false b = false

both_left : (a b : Bool) → T (both a b) → T a
both_left true b t = tt
both_left false b t = t

both_right : (a b : Bool) → T (both a b) → T b
both_right true b t = t
both_right false b t = absurd t

-- the test passes at i, i + 1, .., n of them
abbrev pub passes : (ℕ → Bool) → ℕ → ℕ → Bool
passes f i zero = true
passes f i (suc n) = both (f i) (passes f (suc i) n)

from : (f : ℕ → Bool) (n i : ℕ) → T (passes f i n) → (k : ℕ) → k < n → T (f (i + k))
from f zero i t k h = absurd (not-suc-le-zero h)
from f (suc n) i t zero h = subst (λ (m : ℕ). T (f m)) (sym (add-zero i)) (both_left (f i) (passes f (suc i) n) t)
from f (suc n) i t (suc k) h =
    subst (λ (m : ℕ). T (f m)) (suc-add i k ∙ sym (add-suc i k))
    (from f n (suc i) (both_right (f i) (passes f (suc i) n) t) k (le_of_suc-le-suc h))

pub below : (f : ℕ → Bool) (n : ℕ) → T (passes f 0 n) → (k : ℕ) → k < n → T (f k)
below f n t k h = subst (λ (m : ℕ). T (f m)) (zero-add k) (from f n 0 t k h)
