-- Where a tuner's record says that the oscillator stands: by the bytes last attempted, and only where none of the five is doubtful.
-- Assumes nothing.
use Rattle.std.specs.Prelude.{ℕ, ◌-◌, Bool, true, cond, ◌||◌, get_or}
use Rattle.refusals.specs.declared.Answer.{Answer}
use Rattle.refusals.specs.declared.Answer.TheVariants.{Done, Refused}
use Rattle.refusals.specs.Table.{SETUP, DOUBTFUL}
use Rattle.chip.specs.declared.Chip.{Chip}
use Rattle.oscillator.specs.Registers.{hz_in}
use Rattle.r82xx.specs.declared.Tuner.{Tuner}
use Rattle.r82xx.specs.Record.{sound}

-- of a register of 0x05..0x1f, the byte last attempted and whether it is in doubt
abbrev pub attempted_at : Chip → ℕ → ℕ
attempted_at c r = get_or c.shadow (r - 5) 0

abbrev pub doubtful_at : Chip → ℕ → Bool
doubtful_at c r = get_or c.doubtful (r - 5) true

-- one of the registers that the oscillator stands by is in doubt
abbrev pub unsure : Chip → Bool
unsure c = doubtful_at c 0x10 || doubtful_at c 0x12 || doubtful_at c 0x14 || doubtful_at c 0x15 || doubtful_at c 0x16

-- "20 doubtful", after 1; else the oscillator in whole Hz, cut
unfoldable pub oscillator_of : Tuner → Answer
oscillator_of t = cond (sound t) (cond (unsure t.chip) (Refused DOUBTFUL) (Done (hz_in t.corrected (attempted_at t.chip)))) (Refused SETUP)
