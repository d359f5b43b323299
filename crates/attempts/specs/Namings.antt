-- What entries say of a chip's registers, whichever chip it is: a naming tells which places an entry names, the byte that it sends to each, and
-- whether it settles them. Entries are read as they stand in a transcript, and nothing else is: no step, no call, no record.
--
-- The premises, in plain words. Nothing else writes the chip: what it holds changes by these entries alone. A write that settles landed whole. Any
-- other may have left anything in each place that it named, and nothing elsewhere.
-- Assumes nothing.
use Rattle.std.specs.Prelude.{ℕ, ◌≡◌, Bool, true, false, cond, not, ◌&&◌, List, [], ◌∷◌}
use Rattle.transcript.specs.declared.Entry.{Entry}

-- what is known of a register: it was never attempted, or this byte was last, and the write was done or failed
pub data Last : Type 0 where
  Never : Last
  Tried : ℕ → Bool → Last

-- "doubtful are exactly those never attempted or last attempted in vain"
abbrev pub doubt_in : Last → Bool
doubt_in Never = true
doubt_in (Tried byte ok) = not ok

-- the byte last attempted, or another where none was
abbrev pub byte_in : ℕ → Last → ℕ
byte_in init Never = init
byte_in init (Tried byte ok) = byte

pub record Naming (P : Type 0) : Type 0 where
  pub named : Entry → P → Bool
  pub sent : Entry → P → ℕ
  pub settles : Entry → Bool

module _ {P : Type 0} (chip : Naming P) where
  -- what is known of a place after one entry more
  abbrev pub last_by : Entry → P → Last → Last
  last_by e r l = cond (chip.named e r) (Tried (chip.sent e r) (chip.settles e)) l

  -- and after entries, in their order
  unfoldable pub last_from : Last → List Entry → P → Last
  last_from l [] r = l
  last_from l (e ∷ es) r = last_from (last_by e r l) es r

  -- the last attempt of a place among entries
  abbrev pub last_in : List Entry → P → Last
  last_in es r = last_from Never es r

  -- what a chip may hold after one entry: what the entry did not name is as it was, and what it settles holds the byte sent. Nothing is said of what
  -- any other entry named
  pub record Lands (e : Entry) (before after : P → ℕ) : Type 0 where
    pub kept : (r : P) → chip.named e r ≡ false → after r ≡ before r
    pub sent : (r : P) → chip.named e r ≡ true → chip.settles e ≡ true → after r ≡ chip.sent e r

  -- and after entries, in their order
  abbrev pub Played : List Entry → (P → ℕ) → (P → ℕ) → Type 0
  Played [] before after = (r : P) → after r ≡ before r
  Played (e ∷ es) before after = (next : P → ℕ) × Lands e before next × Played es next after

  -- a write that landed in some of the places that it named, and in no other
  abbrev pub partly : Entry → (P → Bool) → (P → ℕ) → P → ℕ
  partly e part before r = cond (chip.named e r && part r) (chip.sent e r) (before r)
