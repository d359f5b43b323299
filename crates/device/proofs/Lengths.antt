-- How many steps the GPIO programs have, which bounds their entries. Document 01: "GPIO direction 4, 2; GPIO bit 2, 1".
-- Assumes nothing.
use Prim.Native.Nat.{ℕ}
use mathlib.Core.Path.{◌≡◌, refl}
use lib.ListN.{length}
use Rattle.device.specs.Gpio.{bit_steps, output_steps}

pub output_length : (pin a b : ℕ) → length (output_steps pin a b) ≡ 4
unfolding output_steps
output_length pin a b = refl

pub bit_length : (pin value a : ℕ) → length (bit_steps pin value a) ≡ 2
unfolding bit_steps
bit_length pin value a = refl
