-- Calls that touch no record: they are performed over a chip of zeros, and nothing of it is handed back.
-- Document 01, "Refusal numbers": "`set_gpio_*` touch no record"; src/demod.rs' calls have none either.
-- Assumes nothing.
use Rattle.std.specs.Prelude.{ℕ, true, false, List, replicate}
use Rattle.refusals.specs.declared.Answer.TheVariants.{Done}
use Rattle.chip.specs.declared.Chip.{Chip}
use Rattle.chip.specs.Calls.{Called, call_of}
use Rattle.chip.specs.Courses.{Course, left_by}
use Rattle.chip.specs.Courses.Course.{Taken}
use Rattle.chip.specs.Steps.{Step}

abbrev pub no_chip : Chip
no_chip = record { address = 0; shadow = replicate 27 0; doubtful = replicate 27 false }

-- refused by a number before any step, or performed; value 0
abbrev pub free_call : ℕ → List ℕ → List Step → List ℕ → Called (Unit {0})
free_call number os ss room = call_of number (Done 0) os ss no_chip (λ t. tt) tt room

-- the row of such a call: the number that its argument is refused by, its most entries and replies, the replies lent, its steps
abbrev pub free : ℕ → ℕ → ℕ → List ℕ → List Step → Course (Unit {0})
free argument n m rs ss = Taken argument n m rs (Done 0) ss (λ t. tt)

-- what a row leaves
unfoldable pub free_result : Course (Unit {0}) → List ℕ → List ℕ → Called (Unit {0})
free_result row os room = left_by true row os no_chip tt room
