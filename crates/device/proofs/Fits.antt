-- Each access's entry fits the table, whatever its value: so do the entries of the GPIO programs. Assumes nothing.
use Prim.Native.Nat.{ℕ, ◌/◌, ◌%◌, ◌^◌, ◌≤◌, ◌<◌}
use mathlib.Core.Path.{◌≡◌}
use mathlib.Core.Bool.{true}
use native.Mathlib.Omega.{arith}
use borrow.Author.Tests.{le-leb}
use lib.Dec.{leb}
use Rattle.transcript.specs.Table.{address_most, first_most, n_high, n_low, outcome_most, row_fits, target_most}
use Rattle.transcript.specs.Entries.{entry_fits, zeros}
use Rattle.chip.specs.Steps.{every}
use Rattle.device.specs.Accesses.{access, access_entry, access_step, block_write, demod_write, demod_write16, fitting}
use Rattle.device.specs.Gpio.{bit_steps, changed_of, output_steps, with_bit, without_bit}

-- a value kept to eight bits, and the high half of sixteen
low_byte : (value : ℕ) → leb (value % 2 ^ 8) 255 ≡ true
low_byte value = le-leb (value % 2 ^ 8) 255 (omega arith)

high_byte : (value : ℕ) → value < 2 ^ 16 → leb (value / 2 ^ 8) 255 ≡ true
high_byte value h = le-leb (value / 2 ^ 8) 255 (omega arith)

module _ (target register value : ℕ) (t : target ≤ 255) (r : register ≤ 65535) where
  pub demod_fits : entry_fits (demod_write target register value) ≡ true
  unfolding entry_fits row_fits zeros n_low n_high outcome_most target_most address_most first_most
  demod_fits = rw (le-leb target 255 t, le-leb register 65535 r, low_byte value)

  pub block_fits : entry_fits (block_write target register value) ≡ true
  unfolding entry_fits row_fits zeros n_low n_high outcome_most target_most address_most first_most
  block_fits = rw (le-leb target 255 t, le-leb register 65535 r, low_byte value)

  pub read_fits : entry_fits (access_entry (access 8 target register value)) ≡ true
  unfolding entry_fits row_fits zeros n_low n_high outcome_most target_most address_most first_most
  read_fits = rw (le-leb target 255 t, le-leb register 65535 r, low_byte value)

  pub demod16_fits : value < 2 ^ 16 → entry_fits (demod_write16 target register value) ≡ true
  unfolding entry_fits row_fits zeros n_low n_high outcome_most target_most address_most first_most
  demod16_fits h = rw (le-leb target 255 t, le-leb register 65535 r, high_byte value h)

pub output_fits : (pin a b : ℕ) → every fitting (output_steps pin a b) ≡ true
unfolding every access_step output_steps
output_fits pin a b =
    rw (
      read_fits 2 0x3003 a (omega arith) (omega arith),
      block_fits 2 0x3003 (with_bit a pin) (omega arith) (omega arith),
      read_fits 2 0x3004 b (omega arith) (omega arith),
      block_fits 2 0x3004 (without_bit b pin) (omega arith) (omega arith),
    )

pub bit_fits : (pin value a : ℕ) → every fitting (bit_steps pin value a) ≡ true
unfolding every access_step bit_steps
bit_fits pin value a =
    rw (read_fits 2 0x3001 a (omega arith) (omega arith), block_fits 2 0x3001 (changed_of pin value a) (omega arith) (omega arith))
