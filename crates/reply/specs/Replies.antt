-- An answer as the numbers that a host is told. Document 01, "Refusal numbers": "A refused call's value is 0; 11 also gives the failing entry's index."
-- Assumes nothing.
use Rattle.std.specs.Prelude.{ℕ, zero, suc, ◌%◌, cond, List, [], ◌∷◌, Option, Some, None}
use Rattle.refusals.specs.declared.Answer.{Answer}
use Rattle.chip.specs.declared.LockTries.{LockTries}
use Rattle.refusals.specs.Answers.{index_of, number_of, value_of}
use Rattle.chip.specs.Calls.{Called}
use Rattle.transcript.specs.declared.Entry.{Entry}
use Rattle.transcript.specs.declared.Section.{Section}
use Rattle.transcript.specs.Sections.{refusal_of}
use Rattle.reply.specs.declared.Parts.{Parts}
use Rattle.reply.specs.declared.Reply.{Reply}
use Rattle.reply.specs.declared.TuneReply.{TuneReply}

-- The count is told in 32 bits. No call makes more than 64 entries (crate sequences), so none is cut.
abbrev pub reply_of : Answer → ℕ → Reply
reply_of a count =
    record { value = value_of a; index = index_of a; refusal = number_of a; count = count % 4294967296 }

-- the same of all that a call leaves
abbrev pub call_reply : {R : Type 0} → Called R → Reply
call_reply c = reply_of c.answer c.count

abbrev pub numbers_told : ℕ → ℕ → ℕ → ℕ → Reply
numbers_told refusal value index count = record { value = value; index = index; refusal = refusal; count = count }

-- the outcome of the entry at an index, 0 where there is none
unfoldable pub outcome_at : List Entry → ℕ → ℕ
outcome_at [] i = 0
outcome_at (e ∷ es) zero = e.outcome
outcome_at (e ∷ es) (suc i) = outcome_at es i

-- #101: a tuning's reply tells beside it how many tries there were, and 1 where it locked
abbrev pub tuned_of : Reply → LockTries → TuneReply
tuned_of r s =
    record { value = r.value; index = r.index; refusal = r.refusal; count = r.count; tries = s.tries; locked = cond s.locked 1 0 }

-- "refused: empty parts"
abbrev pub no_parts : Parts
no_parts = record { start = 0; count = 0; refusal = refusal_of None; zero = 0 }

abbrev pub parts_of : Option Section → Parts
parts_of (Some found) = record { start = found.start; count = found.count; refusal = 0; zero = 0 }
parts_of None = no_parts
