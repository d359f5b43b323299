-- A record that holds of a chip, however both came about. Demand 3: "doubtful are exactly those never attempted or last attempted in vain", and "at each call's end
-- a register whose last attempt was done holds the byte sent". At the end of a sequence from a fresh record that is proved (proofs/Demand.antt, `sure_holds`); here it is
-- what is given, so of a spare chip after a restore list too.
-- Assumes nothing.
use Rattle.std.specs.Prelude.{ℕ, ◌+◌, ◌<◌, ◌≡◌, true, false, get_or}
use Rattle.attempts.specs.Attempts.{Regs}
use Rattle.chip.specs.declared.Chip.{Chip}

-- each register of 0x05..0x1f that is not marked doubtful holds the shadow's byte
abbrev pub Holds : Chip → Regs → Type 0
Holds c chip = (i : ℕ) → i < 27 → get_or c.doubtful i true ≡ false → chip (5 + i) ≡ get_or c.shadow i 0
