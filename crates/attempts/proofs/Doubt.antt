-- What a doubt is: the demand's words, and what the entries settle of a place's byte and what not. The premises stand at the head of
-- specs/Namings.antt.
-- Assumes nothing.
use Prim.Native.Nat.{ℕ}
use mathlib.Core.Path.{◌≡◌, refl, sym, ap, ◌∙◌}
use mathlib.Core.Bool.{true, false, true≢false, false≢true}
use mathlib.Core.List.{List}
use mathlib.Core.Logic.{◌⊎◌, ◌↔◌, inl, inr}
use Rattle.transcript.specs.declared.Entry.{Entry}
use Rattle.attempts.specs.Namings.{Last, Naming, Played, byte_in, doubt_in, last_in}
use Rattle.attempts.specs.Namings.Last.{Never, Tried}
use Rattle.attempts.proofs.Played.{last_done, last_never, some_played, vain_any}

-- "those never attempted or last attempted in vain"
abbrev pub InVain : Last → Type 0
InVain l = (l ≡ Never) ⊎ ((byte : ℕ) × (l ≡ Tried byte false))

-- "exactly"
pub doubt_exactly : (l : Last) → (doubt_in l ≡ true) ↔ InVain l
doubt_exactly l = (to l, from l)
  where
    to : (l : Last) → doubt_in l ≡ true → InVain l
    to Never h = inl refl
    to (Tried byte true) h = absurd (false≢true h)
    to (Tried byte false) h = inr (byte, refl)

    from : (l : Last) → InVain l → doubt_in l ≡ true
    from l (inl e) = ap doubt_in e
    from l (inr p) = ap doubt_in p.1

module _ {P : Type 0} (chip : Naming P) where
  -- a register without doubt holds the byte last attempted, whatever the chip was
  pub sure_byte : (es : List Entry) (before after : P → ℕ) (r : P) (other : ℕ) → Played chip es before after
      → doubt_in (last_in chip es r) ≡ false → after r ≡ byte_in other (last_in chip es r)
  sure_byte es before after r other p h = go (last_in chip es r) refl
    where
      go : (l : Last) → last_in chip es r ≡ l → after r ≡ byte_in other (last_in chip es r)
      go Never e = absurd (true≢false (sym (ap doubt_in e) ∙ h))
      go (Tried byte true) e = last_done chip es before after p r byte e ∙ sym (ap (byte_in other) e)
      go (Tried byte false) e = absurd (true≢false (sym (ap doubt_in e) ∙ h))

  -- and one with doubt may hold any byte: the entries settle nothing of it
  pub doubt_any : (es : List Entry) (r : P) (x : ℕ) → doubt_in (last_in chip es r) ≡ true
      → (before : P → ℕ) × (after : P → ℕ) × Played chip es before after × (after r ≡ x)
  doubt_any es r x h = go (last_in chip es r) refl
    where
      go : (l : Last) → last_in chip es r ≡ l → (before : P → ℕ) × (after : P → ℕ) × Played chip es before after × (after r ≡ x)
      go Never e =
          let some = some_played chip es (λ q. x) in
          (λ q. x, some.0, some.1, last_never chip es (λ q. x) some.0 some.1 r e)
      go (Tried byte true) e = absurd (false≢true (sym (ap doubt_in e) ∙ h))
      go (Tried byte false) e =
          let some = vain_any chip es r byte x (λ q. 0) e in
          (λ q. 0, some.0, some.1, some.2)
