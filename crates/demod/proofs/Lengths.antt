-- How many steps each program has, which bounds its entries. Document 01: "baseband 45, 0"; "Other `src/demod.rs` calls need as many
-- entries as they make interface calls". Assumes nothing.
use Prim.Native.Nat.{ℕ}
use mathlib.Core.Path.{◌≡◌, refl}
use lib.ListN.{length}
use Rattle.fir.specs.Packing.{pack_of}
use Rattle.demod.specs.Programs.{direct_steps, fir_steps, if_steps, init_steps, low_if_steps, mode_steps, power_steps, rate_steps, reset_steps, start_steps, stop_steps, upward, zero_if_steps}

pub init_length : length init_steps ≡ 45
unfolding init_steps power_steps upward fir_steps pack_of mode_steps
init_length = refl

pub low_if_length : length low_if_steps ≡ 2
unfolding low_if_steps
low_if_length = refl

pub zero_if_length : length zero_if_steps ≡ 2
unfolding zero_if_steps
zero_if_length = refl

pub reset_length : length reset_steps ≡ 2
unfolding reset_steps
reset_length = refl

pub direct_length : (page register value : ℕ) → length (direct_steps page register value) ≡ 1
unfolding direct_steps
direct_length page register value = refl

pub if_length : (hz xtal : ℕ) → length (if_steps hz xtal) ≡ 3
unfolding if_steps
if_length hz xtal = refl

pub rate_length : (rate xtal : ℕ) → length (rate_steps rate xtal) ≡ 4
unfolding rate_steps
rate_length rate xtal = refl

pub start_length : length start_steps ≡ 2
unfolding start_steps
start_length = refl

pub stop_length : length stop_steps ≡ 2
unfolding stop_steps
stop_length = refl
