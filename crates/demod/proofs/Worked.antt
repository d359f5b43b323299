-- Which bytes registers 0x19..0x1b get; and document 01's worked numbers, as the entries that carry them: "IF 3,570,000 at 28,800,000: 38 11 12", "Rate 2,048,000: 0x03840000. Rate
-- 225,000: 0", and `FIR_DEFAULT`'s twenty bytes. Assumes nothing.
use Prim.Native.Nat.{ℕ, ◌/◌, ◌%◌, ◌^◌}
use mathlib.Core.Path.{◌≡◌, refl, sym, ap}
use mathlib.Core.List.{List, [], ◌∷◌, map}
use lib.Pow.{shr_mod}
use native.Mathlib.Omega.{arith}
use Rattle.refusals.specs.declared.Answer.TheVariants.{Refused}
use Rattle.refusals.specs.Table.{RATIO}
use Rattle.chip.specs.Calls.{called}
use Rattle.chip.specs.Steps.Step.{Plain}
use Rattle.device.specs.Accesses.{access_step, demod_write, demod_write16}
use Rattle.device.specs.Calls.{free_result}
use Rattle.device.proofs.Free.{argument_bad}
use Rattle.fir.specs.Packing.{pack_of}
use Rattle.registers.specs.Rates.{ratio_holds, if_ratio_of, if_value_of, rate_number, sent_of, three_of}
use Rattle.registers.proofs.Values.{negated_small}
use Rattle.device.specs.declared.Access.{Access}
use Rattle.demod.specs.Calls.{demod_course}
use Rattle.demod.specs.Calls.Order.{RateXtal}
use Rattle.demod.specs.Programs.{fir_steps, if_rows, if_steps, rate_steps, upward}

-- the three of which the laws of crate `registers` speak, one in each: the highest has no bit above its sixth
pub if_bytes : (hz xtal : ℕ) → map (λ (a : Access). a.value) (if_rows hz xtal) ≡ three_of (if_value_of hz xtal)
if_bytes hz xtal =
    ap (λ (top : ℕ). top ∷ if_value_of hz xtal / 2 ^ 8 % 2 ^ 8 ∷ if_value_of hz xtal % 2 ^ 8 ∷ [])
    (sym (shr_mod 6 16 (negated_small (if_ratio_of hz xtal))))

pub if_worked : if_steps 3_570_000 28_800_000 ≡ Plain (demod_write 1 0x19 0x38) ∷ Plain (demod_write 1 0x1a 0x11) ∷ Plain (demod_write 1 0x1b 0x12) ∷ []
unfolding access_step if_steps
if_worked = refl

pub rate_worked : rate_steps 2_048_000 28_800_000
    ≡ Plain (demod_write16 1 0x9f 0x0384) ∷ Plain (demod_write16 1 0xa1 0x0000) ∷ Plain (demod_write 1 0x3f 0) ∷ Plain (demod_write 1 0x3e 0) ∷ []
unfolding access_step rate_steps sent_of
rate_worked = refl

pub rate_cut : rate_steps 225_000 28_800_000
    ≡ Plain (demod_write16 1 0x9f 0) ∷ Plain (demod_write16 1 0xa1 0) ∷ Plain (demod_write 1 0x3f 0) ∷ Plain (demod_write 1 0x3e 0) ∷ []
unfolding access_step rate_steps sent_of
rate_cut = refl

-- Document 02, #103: it is refused 13 with the room unchanged, as every rate is that the resampler doesn't hold, whatever is lent
pub not_held : (rate xtal : ℕ) (os room : List ℕ) → rate_number rate xtal ≡ RATIO → free_result (demod_course (RateXtal rate xtal)) os room ≡ called tt room 0 (Refused RATIO)
not_held rate xtal os room h = sym (argument_bad (rate_number rate xtal) 4 0 [] os (rate_steps rate xtal) room 13 h (λ e. omega (arith, e)))

pub rate_cut_refused : (os room : List ℕ) → free_result (demod_course (RateXtal 225_000 28_800_000)) os room ≡ called tt room 0 (Refused RATIO)
unfolding ratio_holds rate_number
rate_cut_refused os room = not_held 225_000 28_800_000 os room refl

pub fir_worked : fir_steps
    ≡ upward 0x1c (0xca ∷ 0xdc ∷ 0xd7 ∷ 0xd8 ∷ 0xe0 ∷ 0xf2 ∷ 0x0e ∷ 0x35 ∷ 0x06 ∷ 0x50 ∷ 0x9c ∷ 0x0d ∷ 0x71 ∷ 0x11 ∷ 0x14 ∷ 0x71 ∷ 0x74 ∷ 0x19 ∷ 0x41 ∷ 0xa5 ∷ [])
unfolding fir_steps pack_of
fir_worked = refl
