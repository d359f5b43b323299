-- The last attempt over entries one after the other, of any naming. Assumes nothing.
use Prim.Native.Nat.{ℕ}
use mathlib.Core.Path.{◌≡◌, refl, sym, ap, ◌∙◌}
use mathlib.Core.Bool.{Bool, true, false}
use mathlib.Core.List.{List, [], ◌∷◌, ◌++◌}
use Rattle.transcript.specs.declared.Entry.{Entry}
use Rattle.attempts.specs.Namings.{Last, Naming, last_by, last_from, last_in}
use Rattle.attempts.specs.Namings.Last.{Never, Tried}

-- the second is what is known where the first is Never
abbrev pub known : Last → Last → Last
known Never l = l
known (Tried byte ok) l = Tried byte ok

known_tried : (a l : Last) (byte : ℕ) (ok : Bool) → known (known a (Tried byte ok)) l ≡ known a (Tried byte ok)
known_tried Never l byte ok = refl
known_tried (Tried b o) l byte ok = refl

module _ {P : Type 0} (chip : Naming P) where
  pub last_append : (l : Last) (xs ys : List Entry) (r : P)
      → last_from chip l (xs ++ ys) r ≡ last_from chip (last_from chip l xs r) ys r
  unfolding last_from
  last_append l [] ys r = refl
  last_append l (x ∷ xs) ys r = last_append (last_by chip x r l) xs ys r

  -- one entry more
  pub last_snoc : (es : List Entry) (e : Entry) (r : P) → last_in chip (es ++ (e ∷ [])) r ≡ last_by chip e r (last_in chip es r)
  unfolding last_from
  last_snoc es e r = last_append Never es (e ∷ []) r

  -- an entry that does not name a register says nothing of it
  pub last_same : (es : List Entry) (e : Entry) (r : P) → chip.named e r ≡ false → last_in chip (es ++ (e ∷ [])) r ≡ last_in chip es r
  last_same es e r h = last_snoc es e r ∙ rw h

  -- what was known before entries counts only where they never attempted the register
  pub last_known : (l : Last) (es : List Entry) (r : P) → last_from chip l es r ≡ known (last_in chip es r) l
  unfolding last_from
  last_known l [] r = refl
  last_known l (e ∷ es) r =
      go (chip.named e r) refl (last_known (Tried (chip.sent e r) (chip.settles e)) es r) (last_known l es r)
    where
      go : (b : Bool) → chip.named e r ≡ b
          → last_from chip (Tried (chip.sent e r) (chip.settles e)) es r ≡ known (last_from chip Never es r) (Tried (chip.sent e r) (chip.settles e))
          → last_from chip l es r ≡ known (last_from chip Never es r) l
          → last_from chip (last_by chip e r l) es r ≡ known (last_from chip (last_by chip e r Never) es r) l
      go true t first second =
          rw t (first ∙ sym (ap (λ (x : Last). known x l) first ∙ known_tried (last_from chip Never es r) l (chip.sent e r) (chip.settles e)))
      go false t first second = rw t second
