-- A call over a program: refusals before any step leave all as it was; else the program's trace decides the answer, the record and
-- the room. Document 01, "Transcript and script", "Refusal numbers".
-- Assumes nothing.
use Rattle.std.specs.Prelude.{ℕ, ◌+◌, ◌*◌, Bool, false, cond, ◌&&◌, ◌||◌, List, [], ◌∷◌, length, ◌==◌, nat_lt}
use Rattle.std.proofs.lemmas.List.Edits.{sets}
use Rattle.transcript.specs.declared.Entry.{Entry}
use Rattle.transcript.specs.Sections.{section_bytes}
use Rattle.refusals.specs.declared.Answer.{Answer}
use Rattle.refusals.specs.declared.Answer.TheVariants.{Refused, Stopped}
use Rattle.refusals.specs.Table.{SETUP, ROOM, OUTCOMES, REPLIES}
use Rattle.chip.specs.declared.Chip.{Chip}
use Rattle.chip.specs.declared.LockTries.{LockTries}
use Rattle.chip.specs.declared.Progress.{Progress}
use Rattle.chip.specs.declared.Progress.TheVariants.{Going, Refused11}
use Rattle.chip.specs.Entries.{is_try, lock_bit, lock_tries}
use Rattle.chip.specs.Steps.{Step, Trace, trace}

-- "8 room, 9 outcomes, 10 replies | lent slice too short": for a call of at most n entries and m replies; 0 where all suffice.
-- "room is 16 bytes for each of its most entries, plus 8"
unfoldable pub too_short : ℕ → ℕ → ℕ → ℕ → ℕ → ℕ
too_short n m room outcomes replies =
    cond (nat_lt room (16 * n + 8)) ROOM (cond (nat_lt outcomes n) OUTCOMES (cond (nat_lt replies m) REPLIES 0))

-- 1 unless the records given are in their ranges, then an argument's number where it is refused, then 8, 9, 10
abbrev pub refusal_with : Bool → ℕ → ℕ → ℕ → ℕ → ℕ → ℕ → ℕ
refusal_with sound argument n m room os rs = cond sound (cond (argument == 0) (too_short n m room os rs) argument) SETUP

-- the answer of a call by how far it has come: `whole` where no step failed
abbrev pub answer_of : Answer → Progress → Answer
answer_of whole Going = whole
answer_of whole (Refused11 k) = Stopped k

-- what a call leaves: the next record, the lent room, how many entries it made, its answer
pub record Called (R : Type 0) : Type 0 where
  pub next : R
  pub room : List ℕ
  pub count : ℕ
  pub answer : Answer

abbrev pub called : {R : Type 0} → R → List ℕ → ℕ → Answer → Called R
called next room count answer = record { next = next; room = room; count = count; answer = answer }

-- steps were taken: "Each call with steps writes its section at the start of the lent room"; "Bytes past the section stay as they were"
abbrev pub performed : {R : Type 0} → Answer → (Trace → R) → List ℕ → Trace → Called R
performed whole keep room t =
    called (keep t) (sets room 0 (section_bytes t.log)) (length t.log) (answer_of whole t.progress)

-- a call refused by a number before any step, or performed
unfoldable pub call_of : {R : Type 0} → ℕ → Answer → List ℕ → List Step → Chip → (Trace → R) → R → List ℕ → Called R
call_of number whole os ss c keep old room =
    cond (number == 0) (performed whole keep room (trace os ss c)) (called old room 0 (Refused number))

-- the entries of a call: those of its program's trace, and none where a number refuses it before any step
abbrev pub call_entries : ℕ → List ℕ → List Step → Chip → List Entry
call_entries number os ss c = cond (number == 0) (trace os ss c).log []

-- #101: "Tries equal the three-byte reads in the transcript that were done", "and locked means a try read the lock bit"
unfoldable pub tries_in : List Entry → ℕ
tries_in [] = 0
tries_in (e ∷ es) = cond (is_try e) 1 0 + tries_in es

unfoldable pub locked_in : List Entry → Bool
locked_in [] = false
locked_in (e ∷ es) = (is_try e && lock_bit e) || locked_in es

abbrev pub lock_tries_in : List Entry → LockTries
lock_tries_in es = lock_tries (tries_in es) (locked_in es)
