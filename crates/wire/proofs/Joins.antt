-- Parts and the bytes that they make, over any widths: stored one after the other, parted again, joined again.
-- Assumes nothing.
use Prim.Native.Nat.{ℕ, ◌+◌}
use mathlib.Core.Path.{◌≡◌, refl, sym, ap, ap₂, ◌∙◌}
use mathlib.Core.List.{List, [], ◌∷◌, ◌++◌, append_assoc}
use lib.ListN.{length, take, drop, length-append}
use lib.Seq.{sets, take_at, drop_at, drop-drop, take-add}
use Rattle.wire.proofs.Stores.{sets_append}
use Rattle.wire.specs.Parts.{joined, laid, parts_from, Sized, sum}

pub length_joined : (ks : List ℕ) (ps : List (List ℕ)) → Sized ks ps → length (joined ps) ≡ sum ks
unfolding joined
length_joined [] [] h = refl
length_joined [] (p ∷ ps) h = absurd h
length_joined (k ∷ ks) [] h = absurd h
length_joined (k ∷ ks) (p ∷ ps) h = length-append p (joined ps) ∙ ap₂ ◌+◌ h.0 (length_joined ks ps h.1)

pub laid_joined : (l : List ℕ) (at : ℕ) (ks : List ℕ) (ps : List (List ℕ)) → Sized ks ps → laid l at ks ps ≡ sets l at (joined ps)
unfolding joined
laid_joined l at [] [] h = refl
laid_joined l at [] (p ∷ ps) h = absurd h
laid_joined l at (k ∷ ks) [] h = absurd h
laid_joined l at (k ∷ ks) (p ∷ ps) h =
    laid_joined (sets l at p) (at + k) ks ps h.1
    ∙ ap (λ (n : ℕ). sets (sets l at p) (at + n) (joined ps)) (sym h.0)
    ∙ sym (sets_append l at p (joined ps))

-- what was joined is parted again: q stands before it
pub parts_joined : (q : List ℕ) (at : ℕ) (ks : List ℕ) (ps : List (List ℕ)) → length q ≡ at → Sized ks ps
    → parts_from at ks (q ++ joined ps) ≡ ps
unfolding joined
parts_joined q at [] [] e h = refl
parts_joined q at [] (p ∷ ps) e h = absurd h
parts_joined q at (k ∷ ks) [] e h = absurd h
parts_joined q at (k ∷ ks) (p ∷ ps) e h =
    let first : take k (drop at (q ++ (p ++ joined ps))) ≡ p = ap (take k) (drop_at q (p ++ joined ps) at e) ∙ take_at p (joined ps) k h.0 in
    let longer : length (q ++ p) ≡ at + k = length-append q p ∙ ap₂ ◌+◌ e h.0 in
    ap₂ ◌∷◌ first (ap (parts_from (at + k) ks) (sym (append_assoc q p (joined ps))) ∙ parts_joined (q ++ p) (at + k) ks ps longer h.1)

-- and parts of bytes, joined, are the bytes
pub joined_parts : (b : List ℕ) (at : ℕ) (ks : List ℕ) → joined (parts_from at ks b) ≡ take (sum ks) (drop at b)
unfolding joined
joined_parts b at [] = refl
joined_parts b at (k ∷ ks) =
    ap (λ (l : List ℕ). take k (drop at b) ++ l) (joined_parts b (at + k) ks ∙ ap (take (sum ks)) (sym (drop-drop k at b)))
    ∙ sym (take-add k (sum ks) (drop at b))
