-- A tuner's bytes that hold of a chip, wherever they come from. Demand 3: "doubtful are exactly those never attempted or last attempted in vain", and "at each call's end a
-- register whose last attempt was done holds the byte sent": bytes 2..28 are the shadow, 51..77 the doubtful marks, and register 5 + i is the i-th of each.
-- Assumes nothing.
use Rattle.std.specs.Prelude.{ℕ, ◌+◌, ◌<◌, ◌≡◌, List, get_or}
use Rattle.attempts.specs.Attempts.{Regs}

-- each register of 0x05..0x1f that is not marked doubtful holds the shadow's byte
abbrev pub Holds : List ℕ → Regs → Type 0
Holds b chip = (i : ℕ) → i < 27 → get_or b (51 + i) 1 ≡ 0 → chip (5 + i) ≡ get_or b (2 + i) 0
