-- What each step writes to the three amplifiers: the Rust's `GAIN_TABLE`, a record for each step.
-- Assumes nothing.
use Rattle.std.specs.Prelude.{List, [], ◌∷◌, ℕ, get_or}
use Rattle.gain.specs.declared.GainEntry.{GainEntry}

abbrev pub entry : ℕ → ℕ → ℕ → GainEntry
entry l m v = record { lna = l; mix = m; vga = v }

abbrev pub entries : List GainEntry
entries =
    entry 0 0 0 ∷ entry 1 0 2 ∷ entry 2 0 2 ∷ entry 3 0 2 ∷ entry 4 1 3 ∷ entry 5 1 3 ∷ entry 6 2 4 ∷ entry 7 2 4
    ∷ entry 8 3 5 ∷ entry 9 3 5 ∷ entry 10 4 6 ∷ entry 11 4 6 ∷ entry 12 5 7 ∷ entry 13 5 7 ∷ entry 14 6 8 ∷ entry 15 6 8
    ∷ entry 15 7 9 ∷ entry 15 7 9 ∷ entry 15 8 10 ∷ entry 15 8 10 ∷ entry 15 9 11 ∷ entry 15 9 11 ∷ entry 15 10 12
    ∷ entry 15 10 12 ∷ entry 15 11 13 ∷ entry 15 11 13 ∷ entry 15 12 14 ∷ entry 15 12 14 ∷ entry 15 13 15 ∷ []

abbrev pub entry_at : ℕ → GainEntry
entry_at k = get_or entries k (entry 0 0 0)
