-- The calls of src/demod.rs, as one table. Document 01, "Transcript and script": "Other `src/demod.rs` calls need as many entries as they make
-- interface calls, and no replies"; baseband 45. Assumes nothing.
use Rattle.std.specs.Prelude.{ℕ, []}
use Rattle.chip.specs.Courses.{Course}
use Rattle.device.specs.Calls.{free}
use Rattle.registers.specs.Rates.{rate_number, xtal_number}
use Rattle.demod.specs.Programs.{direct_steps, if_steps, init_steps, low_if_steps, rate_steps, reset_steps, start_steps, stop_steps, zero_if_steps}

pub data Order : Type 0 where
  Baseband : Order
  LowIf : Order
  ZeroIf : Order
  Reset : Order
  Direct : (page register value : ℕ) → Order
  Start : Order
  Stop : Order
  IfXtal : (hz xtal : ℕ) → Order
  RateXtal : (rate xtal : ℕ) → Order

-- "`if_freq_regs` and its demod sister refuse 4 for reference zero". Document 02, #103: "Both the demod call and `set_sample_rate` refuse"
abbrev pub demod_course : Order → Course (Unit {0})
demod_course Baseband = free 0 45 0 [] init_steps
demod_course LowIf = free 0 2 0 [] low_if_steps
demod_course ZeroIf = free 0 2 0 [] zero_if_steps
demod_course Reset = free 0 2 0 [] reset_steps
demod_course (Direct page register value) = free 0 1 0 [] (direct_steps page register value)
demod_course Start = free 0 2 0 [] start_steps
demod_course Stop = free 0 2 0 [] stop_steps
demod_course (IfXtal hz xtal) = free (xtal_number xtal 0) 3 0 [] (if_steps hz xtal)
demod_course (RateXtal rate xtal) = free (rate_number rate xtal) 4 0 [] (rate_steps rate xtal)
