-- Two sections end to end, their bytes written by hand: an I2C write of 0x2a to register 0x1a, then a wait of 10 ms. Document 02, #110: "oldest first".
-- Assumes nothing.
use Prim.Native.Nat.{ℕ}
use mathlib.Core.Path.{◌≡◌, refl}
use mathlib.Core.Bool.{true, false}
use mathlib.Core.List.{List, [], ◌∷◌, ◌++◌}
use lib.ListN.{replicate}
use Rattle.transcript.specs.declared.Entry.{Entry}
use Rattle.transcript.specs.Entries.{entry_fits, entry_of, fits, zeros}
use Rattle.transcript.specs.Table.{address_most, first_most, n_high, n_low, outcome_most, row_fits, target_most}
use Rattle.transcript.specs.Sections.{all_fit, entries_in, entries_of, is_section, section_of}
use Rattle.wire.specs.Bytes.{le_value}
use Rattle.sections.specs.Chain.{chain, chain_by, chain_entries, entries_by}

-- one entry, then the trailer: count 1, distance 16
abbrev trailer : List ℕ
trailer = 1 ∷ 0 ∷ 0 ∷ 0 ∷ 16 ∷ 0 ∷ 0 ∷ 0 ∷ []

abbrev older : List ℕ
older = 2 ∷ 0 ∷ 0x74 ∷ 2 ∷ 0 ∷ 0 ∷ 0 ∷ 0 ∷ 0x1a ∷ 0x2a ∷ (replicate 6 0 ++ trailer)

abbrev newer : List ℕ
newer = 9 ∷ 0 ∷ 0 ∷ 0 ∷ 10 ∷ 0 ∷ 0 ∷ 0 ∷ (replicate 8 0 ++ trailer)

abbrev write : Entry
write = record { kind = 2; outcome = 0; target = 0x74; n = 2; address = 0; bytes = 0x1a ∷ 0x2a ∷ replicate 6 0 }

abbrev wait : Entry
wait = record { kind = 9; outcome = 0; target = 0; n = 0; address = 10; bytes = replicate 8 0 }

pub both_sections : chain (older ++ newer) ≡ true
unfolding chain_by is_section all_fit le_value fits entry_of entry_fits row_fits zeros n_low n_high outcome_most target_most address_most first_most
both_sections = refl

pub in_order : chain_entries (older ++ newer) ≡ write ∷ wait ∷ []
unfolding entries_by entries_in entries_of section_of is_section all_fit le_value fits entry_of entry_fits row_fits zeros n_low n_high outcome_most target_most address_most first_most
in_order = refl

-- a byte before the last section that is no section
pub left_over : chain (0xff ∷ newer) ≡ false
unfolding chain_by is_section all_fit le_value fits entry_of entry_fits row_fits zeros n_low n_high outcome_most target_most address_most first_most
left_over = refl
