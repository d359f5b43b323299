-- Masked writes one after the other, all done: what they send, and the chip's record after them. Document 01, "The record": "A masked write stores (old and not
-- mask) or (value and mask) in the shadow before the write is tried."
-- Assumes nothing.
use Rattle.std.specs.Prelude.{ℕ, true, List, [], ◌∷◌}
use Rattle.transcript.specs.declared.Entry.{Entry}
use Rattle.chip.specs.declared.Chip.{Chip}
use Rattle.chip.specs.declared.Update.{Update}
use Rattle.chip.specs.Chips.{attempted_by, masked_byte, pair}
use Rattle.chip.specs.Entries.{written}

-- register and masked byte
abbrev pub bytes_for : Update → Chip → List ℕ
bytes_for u c = pair u.register (masked_byte c u.register u.value u.mask)

abbrev pub wrote_one : Update → Chip → Chip
wrote_one u c = attempted_by c 2 (bytes_for u c) true

unfoldable pub chip_behind : List Update → Chip → Chip
chip_behind [] c = c
chip_behind (u ∷ us) c = chip_behind us (wrote_one u c)

unfoldable pub entries_for : List Update → Chip → List Entry
entries_for [] c = []
entries_for (u ∷ us) c = written c.address 2 (bytes_for u c) true ∷ entries_for us (wrote_one u c)
