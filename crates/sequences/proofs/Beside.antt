-- Programs that attempt no register: those of the GPIO and demodulator calls, which the driver's calls hold too. Assumes nothing.
use Prim.Native.Nat.{ℕ, ◌≤◌}
use mathlib.Core.Path.{◌≡◌, refl}
use mathlib.Core.Bool.{Bool, true, false, not, ◌&&◌, false≢true}
use mathlib.Core.List.{List, [], ◌∷◌}
use lib.Dec.{eqb}
use Rattle.chip.specs.Steps.{Step, every}
use Rattle.chip.specs.Steps.Step.{Open, Close, Send, Mask, Plain}
use Rattle.chip.proofs.Laws.{and_left, and_right}
use Rattle.device.specs.Accesses.{access_step, fitting}
use Rattle.device.specs.Gpio.{bit_steps, output_steps}
use Rattle.device.proofs.Fits.{bit_fits, output_fits}
use Rattle.fir.specs.Packing.{pack_of}
use Rattle.demod.specs.Programs.{ddc_steps, direct_steps, fir_steps, if_steps, init_steps, low_if_steps, mode_steps, power_steps, rate_steps, reset_steps, start_steps, stop_steps, upward, zero_if_steps}
use Rattle.demod.proofs.Fits.{ddc_fits, direct_fits, if_fits, init_fits, low_if_fits, rate_fits, reset_fits, start_fits, stop_fits, zero_if_fits}
use Rattle.history.specs.Programs.{beside, fine, fine_plain}

-- a plain step that is neither the repeater's nor an I2C write
abbrev apart : Step → Bool
apart Open = false
apart Close = false
apart (Send n bytes) = false
apart (Mask register value mask) = false
apart (Plain e) = not (eqb e.kind 1) && not (eqb e.kind 2)

beside_one : (s : Step) → fitting s ≡ true → apart s ≡ true → beside s ≡ true
unfolding fine_plain
beside_one Open f h = refl
beside_one Close f h = refl
beside_one (Send n bytes) f h = h
beside_one (Mask register value mask) f h = h
beside_one (Plain e) f h =
    rw (f, and_left (not (eqb e.kind 1)) (not (eqb e.kind 2)) h, and_right (not (eqb e.kind 1)) (not (eqb e.kind 2)) h)

pub besides : (ss : List Step) → every fitting ss ≡ true → every apart ss ≡ true → every beside ss ≡ true
unfolding every
besides [] f h = refl
besides (s ∷ ss) f h =
    rw (beside_one s (and_left (fitting s) (every fitting ss) f) (and_left (apart s) (every apart ss) h))
    (besides ss (and_right (fitting s) (every fitting ss) f) (and_right (apart s) (every apart ss) h))

fine_one : (s : Step) → beside s ≡ true → fine s ≡ true
fine_one Open h = refl
fine_one Close h = refl
fine_one (Send n bytes) h = absurd (false≢true h)
fine_one (Mask register value mask) h = absurd (false≢true h)
fine_one (Plain e) h = h

pub fines : (ss : List Step) → every beside ss ≡ true → every fine ss ≡ true
unfolding every
fines [] h = refl
fines (s ∷ ss) h = rw (fine_one s (and_left (beside s) (every beside ss) h)) (fines ss (and_right (beside s) (every beside ss) h))

-- ---- the programs

pub beside_output : (pin a b : ℕ) → every beside (output_steps pin a b) ≡ true
unfolding every access_step output_steps
beside_output pin a b = besides (output_steps pin a b) (output_fits pin a b) refl

pub beside_bit : (pin value a : ℕ) → every beside (bit_steps pin value a) ≡ true
unfolding every access_step bit_steps
beside_bit pin value a = besides (bit_steps pin value a) (bit_fits pin value a) refl

pub beside_init : every beside init_steps ≡ true
unfolding every init_steps power_steps upward fir_steps pack_of mode_steps
beside_init = besides init_steps init_fits refl

pub beside_low : every beside low_if_steps ≡ true
unfolding every low_if_steps
beside_low = besides low_if_steps low_if_fits refl

pub beside_zero : every beside zero_if_steps ≡ true
unfolding every zero_if_steps
beside_zero = besides zero_if_steps zero_if_fits refl

pub beside_reset : every beside reset_steps ≡ true
unfolding every reset_steps
beside_reset = besides reset_steps reset_fits refl

pub beside_direct : (page register value : ℕ) (p : page ≤ 255) (r : register ≤ 65535) → every beside (direct_steps page register value) ≡ true
unfolding every direct_steps
beside_direct page register value p r = besides (direct_steps page register value) (direct_fits page register value p r) refl

pub beside_start : every beside start_steps ≡ true
unfolding every start_steps
beside_start = besides start_steps start_fits refl

pub beside_stop : every beside stop_steps ≡ true
unfolding every stop_steps
beside_stop = besides stop_steps stop_fits refl

pub beside_ddc : (inverted : Bool) → every beside (ddc_steps inverted) ≡ true
unfolding every ddc_steps
beside_ddc inverted = besides (ddc_steps inverted) (ddc_fits inverted) refl

pub beside_if : (hz xtal : ℕ) → every beside (if_steps hz xtal) ≡ true
unfolding every access_step if_steps
beside_if hz xtal = besides (if_steps hz xtal) (if_fits hz xtal) refl

pub beside_rate : (rate xtal : ℕ) → every beside (rate_steps rate xtal) ≡ true
unfolding every access_step rate_steps
beside_rate rate xtal = besides (rate_steps rate xtal) (rate_fits rate xtal) refl
