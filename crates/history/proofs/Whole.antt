-- A masked write under the mask 0xff sends and stores its value, whatever the shadow held: it is the write of two bytes that the Rust makes of 0x14, 0x15
-- and 0x16. So #106, by which they "go through the shadow", changes the record that a tuning leaves and none of its entries. Assumes nothing.
use Prim.Native.Nat.{ℕ, ◌-◌, ◌<◌}
use mathlib.Core.Path.{◌≡◌, ap, ◌∙◌}
use mathlib.Core.Bool.{Bool}
use native.Mathlib.Nat.{mod-eq_of_lt}
use lib.Bits.{bit_and, bit_or, and_mask, and_zero_r, or_zero_l}
use lib.ListN.{get_or}
use Rattle.chip.specs.declared.Chip.{Chip}
use Rattle.chip.specs.Chips.{attempted_by, mask_of, masked_byte, pair}
use Rattle.chip.specs.Entries.{written}
use Rattle.chip.specs.Steps.{chip_after, emit}
use Rattle.chip.specs.Steps.Step.{Mask, Send}

value_alone : (old value : ℕ) → value < 256 → mask_of old value 0xff ≡ value
unfolding mask_of
value_alone old value h =
    ap (λ (x : ℕ). bit_or x (bit_and value 0xff)) (and_zero_r old)
    ∙ or_zero_l (bit_and value 0xff)
    ∙ and_mask value 8
    ∙ mod-eq_of_lt h

module _ (c : Chip) (register value : ℕ) (ok : Bool) (small : value < 256) where
  byte : masked_byte c register value 0xff ≡ value
  byte = value_alone (get_or c.shadow (register - 5) 0) value small

  -- the entry that it makes
  pub whole_sent : emit (Mask register value 0xff) c ok ≡ emit (Send 2 (pair register value)) c ok
  whole_sent = ap (λ (b : ℕ). written c.address 2 (pair register b) ok) byte

  -- and the record after it
  pub whole_stored : chip_after (Mask register value 0xff) c ok ≡ chip_after (Send 2 (pair register value)) c ok
  whole_stored = ap (λ (b : ℕ). attempted_by c 2 (pair register b) ok) byte
