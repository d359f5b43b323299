-- The chip's record and what a write changes in it. Document 01, "The record".
-- Assumes nothing.
use Rattle.std.specs.Prelude.{ℕ, ◌-◌, Bool, not, List, [], ◌∷◌, replicate, bit_and, bit_or, slice_index, slice_range}
use Rattle.std.proofs.lemmas.List.Edits.{sets}
use Rattle.chip.specs.declared.Chip.{Chip}

-- "(old and not mask) or (value and mask)", in eight bits
unfoldable pub mask_of : ℕ → ℕ → ℕ → ℕ
mask_of old value mask = bit_or (bit_and old (255 - mask)) (bit_and value mask)

-- the chip's record of its parts
abbrev pub chip_of : ℕ → List ℕ → List Bool → Chip
chip_of address shadow doubtful = record { address = address; shadow = shadow; doubtful = doubtful }

-- the chip's record with other lists
abbrev pub with_lists : Chip → List ℕ → List Bool → Chip
with_lists c shadow doubtful = chip_of c.address shadow doubtful

-- "A write of n bytes attempts n-1 registers upward from its first byte"; #106: "The shadow and the last attempted bytes are then one and the same
-- list". The bytes after the first are stored, done or not, and they are doubtful if the write failed. Registers count from 0x05.
-- It is right on one condition: the write names registers of the record alone, that is it has 2 to 8 bytes, its first is 0x05 or above, and its last register is
-- 0x1f or below. Otherwise it would be wrong: below 0x05 the subtraction stops at 0, so that a byte would be stored for 0x05, and past 0x1f `sets` drops bytes that
-- the chip was sent. `fine` of crates/history/specs/Programs.antt asks this of a step, crates/sequences/proofs/Programs.antt shows it of every call's program, and
-- that the record follows the chip is claimed of programs of fine steps alone.
unfoldable pub attempted_by : Chip → ℕ → List ℕ → Bool → Chip
attempted_by c n bytes ok =
    with_lists c
    (sets c.shadow (slice_index bytes 0 - 5) (slice_range bytes 1 n))
    (sets c.doubtful (slice_index bytes 0 - 5) (replicate (n - 1) (not ok)))

-- two bytes of data, with the zeros after them
abbrev pub pair : ℕ → ℕ → List ℕ
pair register byte = register ∷ byte ∷ 0 ∷ 0 ∷ 0 ∷ 0 ∷ 0 ∷ 0 ∷ []

-- the byte of a masked write: "A masked write stores (old and not mask) or (value and mask) in the shadow before the write is tried."
abbrev pub masked_byte : Chip → ℕ → ℕ → ℕ → ℕ
masked_byte c register value mask = mask_of (slice_index c.shadow (register - 5)) value mask
