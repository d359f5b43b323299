-- Calls on numbers alone: what the code stores in the record's place in memory, and its answer, without a copy of the record. A reader of the
-- contracts needs this file only to see how these functions stand for the rows of specs/Orders.antt.
-- Assumes nothing.
use Rattle.std.specs.Prelude.{ℕ, Bool, cond}
use Rattle.refusals.specs.declared.Answer.{Answer}
use Rattle.refusals.specs.declared.Answer.TheVariants.{Done, Refused}
use Rattle.refusals.specs.Table.{SETUP}
use Rattle.r82xx.specs.Record.{sound_by}

-- the notch that `apply_notch` stores
unfoldable pub kept_notch : ℕ → ℕ → Bool → Bool → Bool
kept_notch nominal corrected old on = cond (sound_by nominal corrected) on old

-- an answer that only says whether the record was sound
unfoldable pub sound_answer : ℕ → ℕ → ℕ → Answer
sound_answer nominal corrected value = cond (sound_by nominal corrected) (Done value) (Refused SETUP)
