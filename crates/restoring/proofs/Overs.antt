-- What is told of registers, over what is told already: told twice, told of one register, nothing told, and what stands at a place.
-- Assumes nothing.
use Prim.Native.Nat.{ℕ, zero, suc, ◌+◌, ◌≤◌, ◌<◌}
use mathlib.Core.Path.{◌≡◌, refl, sym, ap, ap₂, ◌∙◌}
use mathlib.Core.List.{List, [], ◌∷◌}
use native.Mathlib.Omega.{arith}
use lib.ListN.{length, get_or, set}
use Rattle.std.specs.Prelude.{None, Some}
use Rattle.restoring.specs.Standing.{Known, newer, over}

-- who says nothing changes nothing
pub quiet : (t : Known) → newer t None ≡ t
unfolding newer
quiet None = refl
quiet (Some s) = refl

newer_assoc : (t u v : Known) → newer (newer t u) v ≡ newer t (newer u v)
unfolding newer
newer_assoc None u v = refl
newer_assoc (Some s) u v = refl

-- the same of each register
pub over_same : (f g : ℕ → Known) → ((r : ℕ) → f r ≡ g r) → (i : ℕ) (l : List Known) → over f i l ≡ over g i l
unfolding over
over_same f g h i [] = refl
over_same f g h i (t ∷ ts) = ap₂ (λ (x : Known) (xs : List Known). newer t x ∷ xs) (h i) (over_same f g h (suc i) ts)

pub over_quiet : (f : ℕ → Known) (i : ℕ) (l : List Known) → ((r : ℕ) → i ≤ r → r < i + length l → f r ≡ None) → over f i l ≡ l
unfolding over
over_quiet f i [] h = refl
over_quiet f i (t ∷ ts) h =
    ap₂ (λ (x : Known) (xs : List Known). x ∷ xs) (ap (newer t) (h i (omega arith) (omega arith)) ∙ quiet t) (over_quiet f (suc i) ts (λ r a b. h r (omega arith) (omega arith)))

-- one after the other
pub over_over : (f g : ℕ → Known) (i : ℕ) (l : List Known) → over g i (over f i l) ≡ over (λ r. newer (f r) (g r)) i l
unfolding over
over_over f g i [] = refl
over_over f g i (t ∷ ts) = ap₂ (λ (x : Known) (xs : List Known). x ∷ xs) (newer_assoc t (f i) (g i)) (over_over f g (suc i) ts)

-- of one register alone
pub over_one : (f : ℕ → Known) (i k : ℕ) (l : List Known) → ((r : ℕ) → (r ≡ i + k → ⊥) → f r ≡ None)
    → over f i l ≡ set l k (newer (get_or l k None) (f (i + k)))
unfolding over
over_one f i k [] q = refl
over_one f i zero (t ∷ ts) q =
    let here : i + 0 ≡ i = omega arith in
    ap₂ (λ (x : Known) (xs : List Known). x ∷ xs) (ap (λ (r : ℕ). newer t (f r)) (sym here)) (over_quiet f (suc i) ts (λ r a b. q r (λ e. omega arith)))
over_one f i (suc k) (t ∷ ts) q =
    let next : suc i + k ≡ i + suc k = omega arith in
    ap₂ (λ (x : Known) (xs : List Known). x ∷ xs)
    (ap (newer t) (q i (λ e. omega arith)) ∙ quiet t)
    (over_one f (suc i) k ts (λ r a. q r (λ e. a (omega arith))) ∙ ap (λ (r : ℕ). set ts k (newer (get_or ts k None) (f r))) next)

-- what is told at a place
pub over_at : (f : ℕ → Known) (i k : ℕ) (l : List Known) → k < length l → get_or (over f i l) k None ≡ newer (get_or l k None) (f (i + k))
unfolding over
over_at f i k [] h = absurd (omega arith)
over_at f i zero (t ∷ ts) h =
    let here : i + 0 ≡ i = omega arith in
    ap (λ (r : ℕ). newer t (f r)) (sym here)
over_at f i (suc k) (t ∷ ts) h =
    let next : suc i + k ≡ i + suc k = omega arith in
    over_at f (suc i) k ts (omega arith) ∙ ap (λ (r : ℕ). newer (get_or ts k None) (f r)) next

pub over_long : (f : ℕ → Known) (i : ℕ) (l : List Known) → length (over f i l) ≡ length l
unfolding over
over_long f i [] = refl
over_long f i (t ∷ ts) = ap suc (over_long f (suc i) ts)
