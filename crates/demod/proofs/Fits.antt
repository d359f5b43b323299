-- Each entry of these programs fits the table. Assumes nothing.
use Prim.Native.Nat.{ℕ, ◌/◌, ◌%◌, ◌^◌, ◌≤◌, ◌<◌}
use mathlib.Core.Path.{◌≡◌, refl}
use mathlib.Core.Bool.{Bool, true}
use native.Mathlib.Omega.{arith}
use Rattle.transcript.specs.Table.{address_most, first_most, n_high, n_low, outcome_most, row_fits, target_most}
use Rattle.transcript.specs.Entries.{entry_fits, zeros}
use Rattle.chip.specs.Steps.{every}
use Rattle.registers.specs.Rates.{if_value_of, ratio_of, sent_of}
use Rattle.registers.proofs.Values.{sent_fits}
use Rattle.device.specs.Accesses.{access_step, fitting}
use Rattle.device.proofs.Fits.{demod_fits, demod16_fits}
use Rattle.fir.specs.Packing.{pack_of}
use Rattle.demod.specs.Programs.{ddc_byte, ddc_steps, direct_steps, fir_steps, if_steps, init_steps, low_if_steps, mode_steps, power_steps, rate_steps, reset_steps, start_steps, stop_steps, upward, zero_if_steps}

-- those without an argument, by computing
pub init_fits : every fitting init_steps ≡ true
unfolding every init_steps power_steps upward fir_steps pack_of mode_steps entry_fits row_fits zeros n_low n_high outcome_most target_most address_most first_most
init_fits = refl

pub reset_fits : every fitting reset_steps ≡ true
unfolding every reset_steps entry_fits row_fits zeros n_low n_high outcome_most target_most address_most first_most
reset_fits = refl

pub low_if_fits : every fitting low_if_steps ≡ true
unfolding every low_if_steps entry_fits row_fits zeros n_low n_high outcome_most target_most address_most first_most
low_if_fits = refl

pub zero_if_fits : every fitting zero_if_steps ≡ true
unfolding every zero_if_steps entry_fits row_fits zeros n_low n_high outcome_most target_most address_most first_most
zero_if_fits = refl

pub start_fits : every fitting start_steps ≡ true
unfolding every start_steps entry_fits row_fits zeros n_low n_high outcome_most target_most address_most first_most
start_fits = refl

pub stop_fits : every fitting stop_steps ≡ true
unfolding every stop_steps entry_fits row_fits zeros n_low n_high outcome_most target_most address_most first_most
stop_fits = refl

-- those with one
pub direct_fits : (page register value : ℕ) → page ≤ 255 → register ≤ 65535 → every fitting (direct_steps page register value) ≡ true
unfolding every direct_steps
direct_fits page register value p r = rw (demod_fits page register value p r)

pub ddc_fits : (inverted : Bool) → every fitting (ddc_steps inverted) ≡ true
unfolding every ddc_steps
ddc_fits inverted = rw (demod_fits 1 0x15 (ddc_byte inverted) (omega arith) (omega arith))

pub if_fits : (hz xtal : ℕ) → every fitting (if_steps hz xtal) ≡ true
unfolding every access_step if_steps
if_fits hz xtal =
    rw (
      demod_fits 1 0x19 (if_value_of hz xtal / 2 ^ 16) (omega arith) (omega arith),
      demod_fits 1 0x1a (if_value_of hz xtal / 2 ^ 8 % 2 ^ 8) (omega arith) (omega arith),
      demod_fits 1 0x1b (if_value_of hz xtal % 2 ^ 8) (omega arith) (omega arith),
    )

pub rate_fits : (rate xtal : ℕ) → every fitting (rate_steps rate xtal) ≡ true
unfolding every access_step rate_steps
rate_fits rate xtal =
    let small : sent_of (ratio_of rate xtal) / 2 ^ 16 < 2 ^ 16 = omega (arith, sent_fits (ratio_of rate xtal)) in
    let rest : sent_of (ratio_of rate xtal) % 2 ^ 16 < 2 ^ 16 = omega arith in
    rw (
      demod16_fits 1 0x9f (sent_of (ratio_of rate xtal) / 2 ^ 16) (omega arith) (omega arith) small,
      demod16_fits 1 0xa1 (sent_of (ratio_of rate xtal) % 2 ^ 16) (omega arith) (omega arith) rest,
      demod_fits 1 0x3f 0 (omega arith) (omega arith),
      demod_fits 1 0x3e 0 (omega arith) (omega arith),
    )
