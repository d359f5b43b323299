-- The two GPIO calls. Document 01, "Transcript and script": "GPIO direction 4, 2; GPIO bit 2, 1"; "Refusal numbers": "6 pin | GPIO above 7".
-- src/device.rs: `set_gpio_output` and `set_gpio_bit` read a register of block SYS and write it back with the pin's bit changed.
-- Assumes nothing.
use Rattle.std.specs.Prelude.{cond, ℕ, ◌-◌, ◌^◌, List, [], ◌∷◌, map, eqb, ltb, get_or}
use Rattle.std.specs.Int.Bits.{bit_and, bit_or}
use Rattle.refusals.specs.Table.{PIN}
use Rattle.chip.specs.Courses.{Course}
use Rattle.chip.specs.Steps.{Step}
use Rattle.device.specs.declared.Access.{Access}
use Rattle.device.specs.Accesses.{access, access_step}
use Rattle.device.specs.Calls.{free}

-- a byte with the pin's bit set, or cleared
abbrev pub with_bit : ℕ → ℕ → ℕ
with_bit byte pin = bit_or byte (2 ^ pin)

abbrev pub without_bit : ℕ → ℕ → ℕ
without_bit byte pin = bit_and byte (255 - 2 ^ pin)

-- GPOE (0x3003) gets the bit, GPD (0x3004) loses it; a and b are the two replies. Kind 8 reads and kind 6 writes a block, here 2, SYS
abbrev pub output_rows : ℕ → ℕ → ℕ → List Access
output_rows pin a b =
    access 8 2 0x3003 a
    ∷ access 6 2 0x3003 (with_bit a pin)
    ∷ access 8 2 0x3004 b
    ∷ access 6 2 0x3004 (without_bit b pin)
    ∷ []

unfoldable pub output_steps : ℕ → ℕ → ℕ → List Step
output_steps pin a b = map access_step (output_rows pin a b)

-- set, or cleared where the value is 0
abbrev pub changed_of : ℕ → ℕ → ℕ → ℕ
changed_of pin value a = cond (eqb value 0) (without_bit a pin) (with_bit a pin)

-- GPO (0x3001) gets the bit, or loses it
abbrev pub bit_rows : ℕ → ℕ → ℕ → List Access
bit_rows pin value a = access 8 2 0x3001 a ∷ access 6 2 0x3001 (changed_of pin value a) ∷ []

unfoldable pub bit_steps : ℕ → ℕ → ℕ → List Step
bit_steps pin value a = map access_step (bit_rows pin value a)

-- the two calls; rs are the replies
pub data Order : Type 0 where
  Output : (pin : ℕ) (rs : List ℕ) → Order
  Bit : (pin value : ℕ) (rs : List ℕ) → Order

-- "6 pin | GPIO above 7"
abbrev pub pin_refusal : ℕ → ℕ
pin_refusal pin = cond (ltb 7 pin) PIN 0

-- "GPIO direction 4, 2; GPIO bit 2, 1"
abbrev pub gpio_course : Order → Course (Unit {0})
gpio_course (Output pin rs) = free (pin_refusal pin) 4 2 rs (output_steps pin (get_or rs 0 0) (get_or rs 1 0))
gpio_course (Bit pin value rs) = free (pin_refusal pin) 2 1 rs (bit_steps pin value (get_or rs 0 0))
