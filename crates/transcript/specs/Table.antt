-- Document 01's table of kinds, "Transcript and script": one column for each of its rules, indexed by the kind. There is no kind 0: the
-- first number of each column only holds the place.
-- Assumes nothing.
use Rattle.std.specs.Prelude.{ℕ, List, [], ◌∷◌, Bool, ◌&&◌, ◌||◌, leb, eqb, get_or}

-- in each: none, 1 repeater, 2 I2C write, 3 I2C read, 4 and 5 demod write, 6 and 7 block write, 8 block read, 9 wait
-- "n": 1; 1..8; 1..5; 1 / 2; 1 / 2; 1; 0
unfoldable pub n_low : List ℕ
n_low = 0 ∷ 1 ∷ 1 ∷ 1 ∷ 1 ∷ 2 ∷ 1 ∷ 2 ∷ 1 ∷ 0 ∷ []

unfoldable pub n_high : List ℕ
n_high = 0 ∷ 1 ∷ 8 ∷ 5 ∷ 1 ∷ 2 ∷ 1 ∷ 2 ∷ 1 ∷ 0 ∷ []

-- "outcome (0 done, 1 failed)"; "a wait has outcome 0"
unfoldable pub outcome_most : List ℕ
outcome_most = 0 ∷ 1 ∷ 1 ∷ 1 ∷ 1 ∷ 1 ∷ 1 ∷ 1 ∷ 1 ∷ 0 ∷ []

-- "target": 0 for repeater and wait; chip, page and block are any byte
unfoldable pub target_most : List ℕ
target_most = 0 ∷ 0 ∷ 255 ∷ 255 ∷ 255 ∷ 255 ∷ 255 ∷ 255 ∷ 255 ∷ 0 ∷ []

-- "address": 0 for kinds 1 to 3; a register or milliseconds, any u16
unfoldable pub address_most : List ℕ
address_most = 0 ∷ 0 ∷ 0 ∷ 0 ∷ 65535 ∷ 65535 ∷ 65535 ∷ 65535 ∷ 65535 ∷ 65535 ∷ []

-- "1 opens, 0 closes" for the repeater's one data byte; any byte for the others
unfoldable pub first_most : List ℕ
first_most = 0 ∷ 1 ∷ 255 ∷ 255 ∷ 255 ∷ 255 ∷ 255 ∷ 255 ∷ 255 ∷ 0 ∷ []

-- kinds 3 and 8, whose data are "zeros if failed"
abbrev pub is_read : ℕ → Bool
is_read k = eqb k 3 || eqb k 8

-- a kind of the table, with outcome, target, n, address and first data byte within their columns
unfoldable pub row_fits : ℕ → ℕ → ℕ → ℕ → ℕ → ℕ → Bool
row_fits k o t n a b =
    leb k 9
    && leb 1 k
    && leb o (get_or outcome_most k 0)
    && leb t (get_or target_most k 0)
    && leb (get_or n_low k 0) n
    && leb n (get_or n_high k 0)
    && leb a (get_or address_most k 0)
    && leb b (get_or first_most k 0)
