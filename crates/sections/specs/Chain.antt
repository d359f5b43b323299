-- Sections end to end in one slice. Document 02, #110: "From sections end to end in one slice, oldest first"; "an empty slice has none".
-- The reader starts from the end of a slice, so the walk does too: the last section, then what stands before it, to the slice's start.
-- Assumes nothing.
use Rattle.std.specs.Prelude.{ℕ, zero, suc, ◌≤◌, Bool, true, cond, ◌&&◌, List, [], ◌∷◌, ◌++◌, eqb, length, take}
use Rattle.transcript.specs.declared.Entry.{Entry}
use Rattle.transcript.specs.Sections.{AllFit, is_section, section_bytes, section_entries, start_of}

-- in at most n steps back
unfoldable pub chain_by : ℕ → List ℕ → Bool
chain_by zero s = eqb (length s) 0
chain_by (suc n) s = cond (eqb (length s) 0) true (is_section s && chain_by n (take (start_of s) s))

unfoldable pub entries_by : ℕ → List ℕ → List Entry
entries_by zero s = []
entries_by (suc n) s = cond (eqb (length s) 0) [] (entries_by n (take (start_of s) s) ++ section_entries s)

-- whether a slice is sections end to end: each has eight bytes at least, so a slice has no more sections than bytes
abbrev pub chain : List ℕ → Bool
chain s = chain_by (length s) s

-- and all their entries, oldest first
abbrev pub chain_entries : List ℕ → List Entry
chain_entries s = entries_by (length s) s

-- ---- what that means, without a walk

abbrev pub Good : List (List Entry) → Type 0
Good [] = Unit {0}
Good (es ∷ ess) = (AllFit es × (length es ≤ 4096)) × Good ess

abbrev pub end_to_end : List (List Entry) → List ℕ
end_to_end [] = []
end_to_end (es ∷ ess) = section_bytes es ++ end_to_end ess

abbrev pub together : List (List Entry) → List Entry
together [] = []
together (es ∷ ess) = es ++ together ess
