-- Document 01's whole section (bandwidth 2,048,000), computed: the definitions write it and accept it, with and without bytes before it, and
-- refuse it with one byte changed at each rule that it can break.
-- Assumes nothing.
use Prim.Native.Nat.{ℕ}
use mathlib.Core.Path.{◌≡◌, refl}
use mathlib.Core.Bool.{Bool, true, false}
use mathlib.Core.List.{List, [], ◌∷◌, ◌++◌}
use lib.ListN.{set}
use Rattle.wire.specs.Bytes.{le_bytes, le_value}
use Rattle.transcript.specs.declared.Entry.{Entry}
use Rattle.std.specs.Prelude.{Some}
use Rattle.transcript.specs.Table.{row_fits, n_low, n_high, outcome_most, target_most, address_most, first_most}
use Rattle.transcript.specs.Entries.{entry_bytes, entry_of, zeros, entry_fits, fits}
use Rattle.transcript.specs.Sections.{entries_bytes, trailer_bytes, section_bytes, all_fit, is_section, section_at, section_of, entries_in, entries_of, section_entries}

entry : ℕ → ℕ → ℕ → List ℕ → Entry
entry k t m bs = record { kind = k; outcome = 0; target = t; n = m; address = 0; bytes = bs }

entries : List Entry
entries =
    entry 1 0 1 (1 ∷ 0 ∷ 0 ∷ 0 ∷ 0 ∷ 0 ∷ 0 ∷ 0 ∷ [])
    ∷ entry 2 0x74 2 (0x0a ∷ 0xd8 ∷ 0 ∷ 0 ∷ 0 ∷ 0 ∷ 0 ∷ 0 ∷ [])
    ∷ entry 1 0 1 (0 ∷ 0 ∷ 0 ∷ 0 ∷ 0 ∷ 0 ∷ 0 ∷ 0 ∷ [])
    ∷ []

section : List ℕ
section =
    0x01 ∷ 0x00 ∷ 0x00 ∷ 0x01 ∷ 0x00 ∷ 0x00 ∷ 0x00 ∷ 0x00 ∷ 0x01 ∷ 0x00 ∷ 0x00 ∷ 0x00 ∷ 0x00 ∷ 0x00 ∷ 0x00 ∷ 0x00
    ∷ 0x02 ∷ 0x00 ∷ 0x74 ∷ 0x02 ∷ 0x00 ∷ 0x00 ∷ 0x00 ∷ 0x00 ∷ 0x0a ∷ 0xd8 ∷ 0x00 ∷ 0x00 ∷ 0x00 ∷ 0x00 ∷ 0x00 ∷ 0x00
    ∷ 0x01 ∷ 0x00 ∷ 0x00 ∷ 0x01 ∷ 0x00 ∷ 0x00 ∷ 0x00 ∷ 0x00 ∷ 0x00 ∷ 0x00 ∷ 0x00 ∷ 0x00 ∷ 0x00 ∷ 0x00 ∷ 0x00 ∷ 0x00
    ∷ 0x03 ∷ 0x00 ∷ 0x00 ∷ 0x00 ∷ 0x30 ∷ 0x00 ∷ 0x00 ∷ 0x00 ∷ []

written : section_bytes entries ≡ section
unfolding entries section entry entry_bytes le_bytes entries_bytes trailer_bytes section_bytes
written = refl

read : section_of (7 ∷ 9 ∷ section) ≡ Some (section_at 2 3)
unfolding section le_value row_fits n_low n_high outcome_most target_most address_most first_most entry_of zeros entry_fits fits all_fit is_section section_of
read = refl

handed_back : section_entries (7 ∷ 9 ∷ section) ≡ entries
unfolding entries section entry le_value row_fits n_low n_high outcome_most target_most address_most first_most entry_of zeros entry_fits fits all_fit is_section entries_in entries_of
handed_back = refl

nothing : section_of (5 ∷ le_bytes 4 0 ++ le_bytes 4 0) ≡ Some (section_at 1 0)
unfolding le_bytes le_value all_fit is_section section_of
nothing = refl

-- byte i set to v, and whether that is a section still
changed : ℕ → ℕ → Bool
changed i v = is_section (set section i v)

-- outcome 1 of a write is one; a kind past the table, outcome 2, a repeater's target, n over the row's and under it, an address, the two zeros,
-- the repeater's byte 2, padding, the trailer's count and its distance are none
rules :
    changed 17 1 ∷ changed 16 10 ∷ changed 16 0 ∷ changed 17 2 ∷ changed 2 1 ∷ changed 19 9 ∷ changed 19 0 ∷ changed 20 1 ∷ changed 22 1
    ∷ changed 23 1 ∷ changed 8 2 ∷ changed 26 1 ∷ changed 31 1 ∷ changed 48 2 ∷ changed 52 0x20 ∷ changed 55 1 ∷ []
    ≡ true ∷ false ∷ false ∷ false ∷ false ∷ false ∷ false ∷ false ∷ false ∷ false ∷ false ∷ false ∷ false ∷ false ∷ false ∷ false ∷ []
unfolding changed section le_value row_fits n_low n_high outcome_most target_most address_most first_most entry_of zeros entry_fits fits all_fit is_section
rules = refl

-- an entry with an outcome and one data byte: the rules that the section above has no entry for
told : ℕ → ℕ → ℕ → ℕ → Bool
told k o m b = entry_fits (record { kind = k; outcome = o; target = 0; n = m; address = 0; bytes = b ∷ 0 ∷ 0 ∷ 0 ∷ 0 ∷ 0 ∷ 0 ∷ 0 ∷ [] })

-- a wait, done, failed, with a byte; a read of five, of six; a failed read without and with its byte, and a failed write with it
rows :
    told 9 0 0 0 ∷ told 9 1 0 0 ∷ told 9 0 0 1 ∷ told 3 0 5 1 ∷ told 3 0 6 1 ∷ told 3 1 5 0 ∷ told 3 1 5 1 ∷ told 8 1 1 0 ∷ told 8 1 1 1 ∷ told 6 1 1 1 ∷ []
    ≡ true ∷ false ∷ false ∷ true ∷ false ∷ true ∷ false ∷ true ∷ false ∷ true ∷ []
unfolding told row_fits n_low n_high outcome_most target_most address_most first_most zeros entry_fits
rows = refl
