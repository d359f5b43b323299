-- A call as data: a row says its answer without a step, or by which number its argument is refused, what it asks to be lent, its answer when all
-- is done, its program and the record that it keeps. The methods' contracts, the boundary's order of refusals and demand 3 read the same row.
-- Document 01, "Transcript and script", "Refusal numbers".
-- Assumes nothing.
use Rattle.std.specs.Prelude.{ℕ, Bool, cond, List, [], length}
use Rattle.transcript.specs.declared.Entry.{Entry}
use Rattle.refusals.specs.declared.Answer.{Answer}
use Rattle.refusals.specs.declared.Answer.TheVariants.{Refused}
use Rattle.chip.specs.declared.Chip.{Chip}
use Rattle.refusals.specs.Answers.{number_of}
use Rattle.refusals.specs.Table.{SETUP}
use Rattle.chip.specs.Calls.{Called, call_entries, call_of, called, refusal_with}
use Rattle.chip.specs.Steps.{Step, Trace}

-- Still: "0 entries: no lent memory, no section"; the record and the answer.
-- Taken: the number that its argument is refused by, 0 for none; "Per call, the most entries and replies"; the replies that are lent; the answer where
-- no step failed; the steps; the record that is left, by the steps' trace.
pub data Course (R : Type 0) : Type 0 where
  Still : (next : R) (answer : Answer) → Course R
  Taken : (argument entries replies : ℕ) (rs : List ℕ) (whole : Answer) (steps : List Step) (keep : Trace → R) → Course R

-- the number of an argument's refusal, which comes before any lent slice's
abbrev pub argument_of : {R : Type 0} → Course R → ℕ
argument_of (Still next answer) = number_of answer
argument_of (Taken argument n m rs whole ss keep) = argument

-- "Per call, the most entries"
abbrev pub most_of : {R : Type 0} → Course R → ℕ
most_of (Still next answer) = 0
most_of (Taken argument n m rs whole ss keep) = n

-- its steps, and the replies that are lent to it
abbrev pub steps_of : {R : Type 0} → Course R → List Step
steps_of (Still next answer) = []
steps_of (Taken argument n m rs whole ss keep) = ss

abbrev pub replies_of : {R : Type 0} → Course R → List ℕ
replies_of (Still next answer) = []
replies_of (Taken argument n m rs whole ss keep) = rs

-- what decides a call's entries beside the outcomes: the number that refuses it before any step, and its program
pub record Asked : Type 0 where
  pub number : ℕ
  pub steps : List Step

abbrev pub ask : ℕ → List Step → Asked
ask number steps = record { number = number; steps = steps }

-- by whether the records given are in their ranges, and the lengths of outcomes and room
abbrev pub asked_by : {R : Type 0} → Bool → Course R → ℕ → ℕ → Asked
asked_by sound (Still next answer) os room = ask 0 []
asked_by sound (Taken argument n m rs whole ss keep) os room = ask (refusal_with sound argument n m room os (length rs)) ss

-- the entries that it makes
abbrev pub entries_by : Asked → List ℕ → Chip → List Entry
entries_by a os c = call_entries a.number os a.steps c

-- what a call leaves. "A given record out of its ranges .. is refused 1 first, all unchanged"
unfoldable pub left_by : {R : Type 0} → Bool → Course R → List ℕ → Chip → R → List ℕ → Called R
left_by sound (Still next answer) os c old room = cond sound (called next room 0 answer) (called old room 0 (Refused SETUP))
left_by sound (Taken argument n m rs whole ss keep) os c old room =
    call_of (refusal_with sound argument n m (length room) (length os) (length rs)) whole os ss c keep old room
