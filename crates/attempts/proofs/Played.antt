-- What a chip holds after entries were played on it, read off the entries alone, and that there always is such a chip. The premises stand
-- at the head of specs/Namings.antt.
-- Assumes nothing.
use Prim.Native.Nat.{ℕ}
use mathlib.Core.Path.{◌≡◌, refl, sym, ap, ◌∙◌}
use mathlib.Core.Bool.{Bool, true, false, cond, not, false≢true}
use mathlib.Core.List.{List, [], ◌∷◌, ◌++◌}
use Rattle.transcript.specs.declared.Entry.{Entry}
use Rattle.attempts.specs.Namings.{Lands, Last, Naming, Played, last_by, last_from, last_in, partly}
use Rattle.attempts.specs.Namings.Last.{Never, Tried}

module _ {P : Type 0} (chip : Naming P) where
  -- what is known of a register fits what a chip holds, where it held x at first
  abbrev Agrees : ℕ → Last → ℕ → Type 0
  Agrees x Never y = y ≡ x
  Agrees x (Tried byte true) y = y ≡ byte
  Agrees x (Tried byte false) y = Unit {0}

  agrees_sent : (x b : ℕ) (ok : Bool) (y : ℕ) → (ok ≡ true → y ≡ b) → Agrees x (Tried b ok) y
  agrees_sent x b true y h = h refl
  agrees_sent x b false y h = tt

  agrees_lands : (e : Entry) (r : P) (x : ℕ) (before next : P → ℕ) (l : Last) → Lands chip e before next
      → Agrees x l (before r) → Agrees x (last_by chip e r l) (next r)
  agrees_lands e r x before next l h k = go (chip.named e r) refl
    where
      go : (b : Bool) → chip.named e r ≡ b → Agrees x (last_by chip e r l) (next r)
      go true t = rw t (agrees_sent x (chip.sent e r) (chip.settles e) (next r) (h.sent r t))
      go false t = rw (t, h.kept r t) k

  agrees : (es : List Entry) (r : P) (x : ℕ) (before after : P → ℕ) (l : Last) → Played chip es before after
      → Agrees x l (before r) → Agrees x (last_from chip l es r) (after r)
  unfolding last_from
  agrees [] r x before after l p k = rw (p r) k
  agrees (e ∷ es) r x before after l p k =
      agrees es r x p.0 after (last_by chip e r l) p.2 (agrees_lands e r x before p.0 l p.1 k)

  module _ (es : List Entry) (before after : P → ℕ) (played : Played chip es before after) where
    -- "a register whose last attempt was done holds the byte sent"
    pub last_done : (r : P) (byte : ℕ) → last_in chip es r ≡ Tried byte true → after r ≡ byte
    last_done r byte h = rw h at (agrees es r (before r) before after Never played refl)

    -- a register that no entry named holds what it held
    pub last_never : (r : P) → last_in chip es r ≡ Never → after r ≡ before r
    last_never r h = rw h at (agrees es r (before r) before after Never played refl)

  -- ---- entries one after the other

  lands_same : (e : Entry) (before other next : P → ℕ) → ((r : P) → before r ≡ other r) → Lands chip e before next → Lands chip e other next
  lands_same e before other next same h =
      record { kept = λ r t. h.kept r t ∙ same r; sent = h.sent }

  played_same : (es : List Entry) (before other after : P → ℕ) → ((r : P) → before r ≡ other r)
      → Played chip es before after → Played chip es other after
  played_same [] before other after same p = λ r. p r ∙ same r
  played_same (e ∷ es) before other after same p = (p.0, lands_same e before other p.0 same p.1, p.2)

  pub played_append : (xs ys : List Entry) (before mid after : P → ℕ)
      → Played chip xs before mid → Played chip ys mid after → Played chip (xs ++ ys) before after
  played_append [] ys before mid after p q = played_same ys mid before after p q
  played_append (x ∷ xs) ys before mid after p q = (p.0, p.1, played_append xs ys p.0 mid after p.2 q)

  -- and apart again: the chip in between
  pub played_split : (xs ys : List Entry) (before after : P → ℕ) → Played chip (xs ++ ys) before after
      → (mid : P → ℕ) × Played chip xs before mid × Played chip ys mid after
  played_split [] ys before after p = (before, (λ r. refl), p)
  played_split (x ∷ xs) ys before after p =
      let rest = played_split xs ys p.0 after p.2 in
      (rest.0, (p.0, p.1, rest.1), rest.2)

  -- ---- it is not vacuous

  -- a write that landed in any part of what it named: all of it where it was done
  lands_part : (e : Entry) (part : P → Bool) (before : P → ℕ) → ((r : P) → chip.settles e ≡ true → part r ≡ true) → Lands chip e before (partly chip e part before)
  lands_part e part before whole =
      record { kept = λ r t. rw t; sent = λ r t d. rw (t, whole r d) }

  -- for any entries and any chip to start from some chip is played
  pub some_played : (es : List Entry) (before : P → ℕ) → (after : P → ℕ) × Played chip es before after
  some_played [] before = (before, λ r. refl)
  some_played (e ∷ es) before =
      let next : P → ℕ = partly chip e (λ r. true) before in
      let rest = some_played es next in
      (rest.0, (next, lands_part e (λ r. true) before (λ r d. refl), rest.1))

  -- a failed write may have landed in any part: in each register that it named the old byte and the new one are both admitted, in any choice
  module _ (e : Entry) (failed : chip.settles e ≡ false) (before : P → ℕ) where
    pub failed_part : (part : P → Bool) → Lands chip e before (partly chip e part before)
    failed_part part = lands_part e part before (λ r d. absurd (false≢true (sym failed ∙ d)))

    pub new_byte : (part : P → Bool) (r : P) → chip.named e r ≡ true → part r ≡ true → partly chip e part before r ≡ chip.sent e r
    new_byte part r t p = rw (t, p)

    pub old_byte : (part : P → Bool) (r : P) → part r ≡ false → partly chip e part before r ≡ before r
    old_byte part r p = go (chip.named e r) refl
      where
        go : (b : Bool) → chip.named e r ≡ b → partly chip e part before r ≡ before r
        go true t = rw (t, p)
        go false t = rw t

  -- ---- a doubt is a doubt

  abbrev vain : Last → Bool
  vain Never = false
  vain (Tried byte ok) = not ok

  -- what a failed write named holds x now
  abbrev spoiled : Entry → ℕ → (P → ℕ) → P → ℕ
  spoiled e x before r = cond (chip.named e r) (cond (chip.settles e) (chip.sent e r) x) (before r)

  spoiled_lands : (e : Entry) (x : ℕ) (before : P → ℕ) → Lands chip e before (spoiled e x before)
  spoiled_lands e x before = record { kept = λ r t. rw t; sent = λ r t d. rw (t, d) }

  spoiled_vain : (e : Entry) (x : ℕ) (r : P) (before : P → ℕ) (l : Last) → (vain l ≡ true → before r ≡ x)
      → vain (last_by chip e r l) ≡ true → spoiled e x before r ≡ x
  spoiled_vain e x r before l h = go (chip.named e r) (chip.settles e) refl refl
    where
      go : (b d : Bool) → chip.named e r ≡ b → chip.settles e ≡ d → vain (last_by chip e r l) ≡ true → spoiled e x before r ≡ x
      go true true t q v = absurd (false≢true (rw (t, q) at v))
      go true false t q v = rw (t, q)
      go false d t q v = rw t (h (rw t at v))

  vain_from : (es : List Entry) (r : P) (x : ℕ) (before : P → ℕ) (l : Last) → (vain l ≡ true → before r ≡ x)
      → (after : P → ℕ) × Played chip es before after × (vain (last_from chip l es r) ≡ true → after r ≡ x)
  unfolding last_from
  vain_from [] r x before l h = (before, (λ q. refl), h)
  vain_from (e ∷ es) r x before l h =
      let next : P → ℕ = spoiled e x before in
      let rest = vain_from es r x next (last_by chip e r l) (spoiled_vain e x r before l h) in
      (rest.0, (next, spoiled_lands e x before, rest.1), rest.2)

  -- a register last attempted in vain may hold any byte: the premises say no more of it
  pub vain_any : (es : List Entry) (r : P) (byte x : ℕ) (before : P → ℕ) → last_in chip es r ≡ Tried byte false
      → (after : P → ℕ) × Played chip es before after × (after r ≡ x)
  vain_any es r byte x before h =
      let some = vain_from es r x before Never (λ v. absurd (false≢true v)) in
      (some.0, some.1, some.2 (ap vain h))
