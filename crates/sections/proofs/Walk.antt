-- One step of the walk: a slice that is not empty is sections end to end where its end is one and what stands before it is. However many steps it is
-- given, they are enough.
-- Assumes nothing.
use Prim.Native.Nat.{ℕ, zero, suc, ◌≤◌, ◌<◌}
use mathlib.Core.Path.{◌≡◌, refl, sym, ap, ◌∙◌}
use mathlib.Core.Bool.{Bool, true, false, cond, ◌&&◌}
use mathlib.Core.List.{List, [], ◌++◌}
use native.Mathlib.Omega.{arith}
use borrow.Author.Tests.{eq-eqb, ne_eqb, eqb-true, eqb-false}
use lib.Dec.{eqb}
use lib.ListN.{length, take, length-take}
use Rattle.transcript.specs.declared.Entry.{Entry}
use Rattle.transcript.specs.Sections.{is_section, section_entries, start_of}
use Rattle.sections.specs.Chain.{chain, chain_by, chain_entries, entries_by}

-- what stands before the end is shorter
shorter : (s : List ℕ) → 0 < length s → length (take (start_of s) s) < length s
shorter s h = omega (arith, length-take (start_of s) s)

module _ (A : Type 0) (F : ℕ → List ℕ → A) (none : A) (step : List ℕ → A → A)
    (at_zero : (s : List ℕ) → length s ≡ 0 → F zero s ≡ none)
    (at_suc : (n : ℕ) (s : List ℕ) → F (suc n) s ≡ cond (eqb (length s) 0) none (step s (F n (take (start_of s) s)))) where
  empty : (n : ℕ) (s : List ℕ) → length s ≡ 0 → F n s ≡ none
  empty zero s h = at_zero s h
  empty (suc n) s h = at_suc n s ∙ rw (eq-eqb (length s) 0 h)

  more : (n : ℕ) (s : List ℕ) → 0 < length s → F (suc n) s ≡ step s (F n (take (start_of s) s))
  more n s h = at_suc n s ∙ rw (ne_eqb (length s) 0 (λ e. omega arith))

  -- however many steps, if they are enough
  enough : (n m : ℕ) (s : List ℕ) → length s ≤ n → length s ≤ m → F n s ≡ F m s
  enough zero m s h k = empty zero s (omega arith) ∙ sym (empty m s (omega arith))
  enough (suc n) zero s h k = empty (suc n) s (omega arith) ∙ sym (empty zero s (omega arith))
  enough (suc n) (suc m) s h k = go (eqb (length s) 0) refl (λ less. enough n m (take (start_of s) s) (omega arith) (omega arith))
    where
      go : (b : Bool) → eqb (length s) 0 ≡ b → (length (take (start_of s) s) < length s → F n (take (start_of s) s) ≡ F m (take (start_of s) s))
          → F (suc n) s ≡ F (suc m) s
      go true t rest = empty (suc n) s (eqb-true (length s) 0 t) ∙ sym (empty (suc m) s (eqb-true (length s) 0 t))
      go false t rest =
          let some : 0 < length s = omega (arith, eqb-false (length s) 0 t) in
          more n s some ∙ ap (step s) (rest (shorter s some)) ∙ sym (more m s some)

  stepped : (s : List ℕ) → 0 < length s → F (length s) s ≡ step s (F (length (take (start_of s) s)) (take (start_of s) s))
  stepped s h =
      let before = take (start_of s) s in
      let less = shorter s h in
      enough (length s) (suc (length s)) s (omega arith) (omega arith) ∙ more (length s) s h
      ∙ ap (step s) (enough (length s) (length before) before (omega arith) (omega arith))

chain_zero : (s : List ℕ) → length s ≡ 0 → chain_by zero s ≡ true
unfolding chain_by
chain_zero s h = eq-eqb (length s) 0 h

chain_suc : (n : ℕ) (s : List ℕ) → chain_by (suc n) s ≡ cond (eqb (length s) 0) true (is_section s && chain_by n (take (start_of s) s))
unfolding chain_by
chain_suc n s = refl

entries_zero : (s : List ℕ) → length s ≡ 0 → entries_by zero s ≡ []
unfolding entries_by
entries_zero s h = refl

entries_suc : (n : ℕ) (s : List ℕ) → entries_by (suc n) s ≡ cond (eqb (length s) 0) [] (entries_by n (take (start_of s) s) ++ section_entries s)
unfolding entries_by
entries_suc n s = refl

pub chain_empty : (s : List ℕ) → length s ≡ 0 → chain s ≡ true
chain_empty s h = empty Bool chain_by true (λ s b. is_section s && b) chain_zero chain_suc (length s) s h

pub entries_empty : (s : List ℕ) → length s ≡ 0 → chain_entries s ≡ []
entries_empty s h = empty (List Entry) entries_by [] (λ s es. es ++ section_entries s) entries_zero entries_suc (length s) s h

-- the last section, and what stands before it
pub chain_step : (s : List ℕ) → 0 < length s → chain s ≡ is_section s && chain (take (start_of s) s)
chain_step s h = stepped Bool chain_by true (λ s b. is_section s && b) chain_zero chain_suc s h

pub entries_step : (s : List ℕ) → 0 < length s → chain_entries s ≡ chain_entries (take (start_of s) s) ++ section_entries s
entries_step s h = stepped (List Entry) entries_by [] (λ s es. es ++ section_entries s) entries_zero entries_suc s h
