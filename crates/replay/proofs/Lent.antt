-- Lent memory of which a front part is the bytes and every byte of the other part 0xa5 is written as it should be. Assumes nothing.
use Rattle.std.proofs.Common.{◌≡◌, ℕ, ◌-◌, ◌<◌, ◌≤◌, List, length, get_or, take, drop, sym, ap, ◌∙◌, subst, arith, length-drop, length-take-le, get_or-drop, get_or-take}
use native.Mathlib.Nat.{sub-zero}
use Rattle.replay.specs.Agreement.{Written}

-- what stands past the bytes
abbrev past : List ℕ → List ℕ → List ℕ
past lent bytes = take (length lent - length bytes) (drop (length bytes) lent)

length_past : (lent bytes : List ℕ) → length (past lent bytes) ≡ length lent - length bytes
length_past lent bytes = length-take-le _ _ (simp length-drop (omega arith))

at_past : (lent bytes : List ℕ) (k : ℕ) → length bytes ≤ k → k < length lent → get_or (past lent bytes) (k - length bytes) 0 ≡ get_or lent k 0
at_past lent bytes k a b =
    get_or-take (length lent - length bytes) (drop (length bytes) lent) (k - length bytes) 0 (omega arith)
    ∙ get_or-drop (length bytes) lent (k - length bytes) 0
    ∙ ap (λ (i : ℕ). get_or lent i 0) (omega arith)

pub written_by : (lent bytes : List ℕ)
    → take (length bytes - 0) (drop 0 lent) ≡ bytes
    → ((k : ℕ) → k < length (past lent bytes) → get_or (past lent bytes) k 0 ≡ 165)
    → Written lent bytes
written_by lent bytes front rest =
    record {
      start = subst (λ (n : ℕ). take n lent ≡ bytes) (sub-zero (length bytes)) front;
      rest = λ k a b. sym (at_past lent bytes k a b) ∙ rest (k - length bytes) (omega (arith, length_past lent bytes));
    }
