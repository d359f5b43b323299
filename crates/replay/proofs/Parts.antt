-- The laws of a case's parts: a flagged part is there or not, a part's size by its number, where the next part starts, a cut inside the case and
-- outside it. Assumes nothing.
use Rattle.std.proofs.Common.{◌≡◌, ℕ, ◌+◌, ◌-◌, ◌*◌, ◌/◌, ◌%◌, ◌<◌, ◌≤◌, List, [], length, take, drop, sym, refl, ap, ◌∙◌, add-one, eq-eqb, ne_eqb, le-leb}
use borrow.Author.Tests.{lt-leb}
use Rattle.replay.specs.Agreement.{number_at, flagged, size_at, start_at, cut_of}

pub flag_on : (c : List ℕ) (bit n x : ℕ) → x ≡ number_at c 7 1 → x / bit % 2 ≡ 1 → n ≡ flagged c bit n
unfolding flagged
flag_on c bit n x e t = simp (eq-eqb (number_at c 7 1 / bit % 2) 1 (ap (λ (y : ℕ). y / bit % 2) (sym e) ∙ t))

pub flag_off : (c : List ℕ) (bit n x : ℕ) → x ≡ number_at c 7 1 → (x / bit % 2 ≡ 1 → ⊥) → 0 ≡ flagged c bit n
unfolding flagged
flag_off c bit n x e t = simp (ne_eqb (number_at c 7 1 / bit % 2) 1 (λ h. t (ap (λ (y : ℕ). y / bit % 2) e ∙ h)))

-- a section's size, and the other three that have a rule of their own, by their numbers
pub size_5 : (c : List ℕ) (k n v : ℕ) → k ≡ 5 → n ≡ number_at c 50 2 → v ≡ flagged c 1 (16 * n + 8) → v ≡ size_at c k
unfolding size_at
size_5 c k n v h e f = f ∙ ap (λ (y : ℕ). flagged c 1 (16 * y + 8)) e ∙ ap (size_at c) (sym h)

pub size_6 : (c : List ℕ) (k v : ℕ) → k ≡ 6 → v ≡ flagged c 2 78 → v ≡ size_at c k
unfolding size_at
size_6 c k v h f = f ∙ ap (size_at c) (sym h)

pub size_7 : (c : List ℕ) (k v : ℕ) → k ≡ 7 → v ≡ flagged c 4 29 → v ≡ size_at c k
unfolding size_at
size_7 c k v h f = f ∙ ap (size_at c) (sym h)

pub size_8 : (c : List ℕ) (k v : ℕ) → k ≡ 8 → v ≡ number_at c 64 2 → v ≡ size_at c k
unfolding size_at
size_8 c k v h f = f ∙ ap (size_at c) (sym h)

pub size_else : (c : List ℕ) (k v : ℕ)
    → (k ≡ 5 → ⊥)
    → (k ≡ 6 → ⊥)
    → (k ≡ 7 → ⊥)
    → (k ≡ 8 → ⊥)
    → v ≡ number_at c (54 + 2 * k) 2
    → v ≡ size_at c k
unfolding size_at
size_else c k v a b d e f = simp (ne_eqb k 5 a, ne_eqb k 6 b, ne_eqb k 7 d, ne_eqb k 8 e) f

pub start_none : (c : List ℕ) → 72 ≡ start_at c 0
unfolding start_at
start_none c = refl

pub start_more : (c : List ℕ) (i at n : ℕ) → at ≡ start_at c i → n ≡ size_at c i → at + n ≡ start_at c (i + 1)
unfolding start_at
start_more c i at n e f = rw add-one (cc)

pub cut_back : (c : List ℕ) (a e : ℕ) → e < a → [] ≡ cut_of c a e
unfolding cut_of
cut_back c a e h = simp (lt-leb a e h)

pub cut_past : (c : List ℕ) (a e : ℕ) → a ≤ e → length c < e → [] ≡ cut_of c a e
unfolding cut_of
cut_past c a e h g = simp (le-leb a e h, lt-leb e (length c) g)

pub cut_in : (c : List ℕ) (a e : ℕ) → a ≤ e → e ≤ length c → take (e - a) (drop a c) ≡ cut_of c a e
unfolding cut_of
cut_in c a e h g = simp (le-leb a e h, le-leb e (length c) g)
