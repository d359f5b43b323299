-- The tuner's calls with steps, over bytes: what the given bytes are read as, the call's own definition, the next record's bytes.
-- Document 01, "Modules, leaves first": "Records cross there as bytes. A given record out of its ranges .. is refused 1 first, all unchanged".
-- Assumes nothing.
use Rattle.std.specs.Prelude.{ℕ, Bool, true, not, cond, List, eqb, ltb, length}
use Rattle.std.proofs.lemmas.List.Edits.{sets}
use Rattle.refusals.specs.declared.Answer.{Answer}
use Rattle.refusals.specs.declared.Answer.TheVariants.{Done, Refused, Stopped}
use Rattle.refusals.specs.Table.{SETUP, ROOM}
use Rattle.chip.specs.declared.LockTries.{LockTries}
use Rattle.chip.specs.Calls.{Called, lock_tries_in}
use Rattle.chip.specs.Courses.{Course, argument_of, asked_by, entries_by, left_by}
use Rattle.chip.specs.Entries.{no_tries}
use Rattle.r82xx.specs.declared.Tuner.{Tuner}
use Rattle.r82xx.specs.Record.{sound}
use Rattle.records.specs.Tuners.{tuner_bytes, tuner_of}
use Rattle.reply.specs.declared.Reply.{Reply}
use Rattle.reply.specs.declared.TuneReply.{TuneReply}
use Rattle.reply.specs.Replies.{call_reply, reply_of, tuned_of}

-- what a call over bytes leaves: its answer, the room, the slice for the next record
pub record After : Type 0 where
  pub answer : Reply
  pub room : List ℕ
  pub next : List ℕ

abbrev pub after : Reply → List ℕ → List ℕ → After
after answer room next = record { answer = answer; room = room; next = next }

-- "Order: arguments (1 to 7, and 2 for hz), then 8": the records, the argument, then the slices for next records; 0 where nothing refuses
abbrev pub ready_by : Bool → ℕ → Bool → ℕ
ready_by ok argument short = cond ok (cond (eqb argument 0) (cond short ROOM 0) argument) SETUP

-- of one record, of which `need` bytes are written
unfoldable pub ready_of : Bool → ℕ → ℕ → ℕ → ℕ
ready_of ok argument next need = ready_by ok argument (ltb next need)

-- the next record is written once steps were taken or the call is done
abbrev pub is_written : Answer → ℕ → Bool
is_written (Done value) count = true
is_written (Refused number) count = not (eqb count 0)
is_written (Stopped index) count = not (eqb count 0)

unfoldable pub next_of : {R : Type 0} → (R → List ℕ) → Answer → ℕ → R → List ℕ → List ℕ
next_of bytes answer count new next = cond (is_written answer count) (sets next 0 (bytes new)) next

-- a call that was made, and one that was refused before it
abbrev pub handed : Called Tuner → List ℕ → After
handed c next =
    after (call_reply c) c.room (next_of tuner_bytes c.answer c.count c.next next)

abbrev pub refusal : ℕ → List ℕ → List ℕ → After
refusal number room next = after (reply_of (Refused number) 0) room next

-- what a call comes to by the number that it is refused by before its steps, 0 for none; for any kind of answer, since crate drivers uses it for its own
unfoldable pub unless_refused : {A : Type 0} → ℕ → (ℕ → A) → A → A
unless_refused number refuse made = cond (eqb number 0) made (refuse number)

-- one call over bytes, by its row: the number of its argument's refusal, and what it leaves of the record that the bytes are
unfoldable pub over_tuner : (Tuner → Course Tuner) → List ℕ → List ℕ → List ℕ → List ℕ → After
over_tuner row os b room next =
    unless_refused (ready_of (tuner_of b).ok (argument_of (row (tuner_of b).tuner)) (length next) 78)
    (λ n. refusal n room next)
    (handed (left_by (sound (tuner_of b).tuner) (row (tuner_of b).tuner) os (tuner_of b).tuner.chip (tuner_of b).tuner room) next)

-- ---- a tuning, which has a reply of its own

pub record Tuned : Type 0 where
  pub answer : TuneReply
  pub room : List ℕ
  pub next : List ℕ

abbrev pub tuned_to : TuneReply → List ℕ → List ℕ → Tuned
tuned_to answer room next = record { answer = answer; room = room; next = next }

abbrev pub tuned_by : After → LockTries → Tuned
tuned_by a s = tuned_to (tuned_of a.answer s) a.room a.next

-- #101: what a call over bytes tells of the lock, by the entries that it makes on the record that the bytes are
unfoldable pub lock_tries_over : (Tuner → Course Tuner) → List ℕ → List ℕ → List ℕ → List ℕ → LockTries
lock_tries_over row os b room next =
    unless_refused (ready_of (tuner_of b).ok (argument_of (row (tuner_of b).tuner)) (length next) 78)
    (λ n. no_tries)
    (lock_tries_in (entries_by (asked_by (sound (tuner_of b).tuner) (row (tuner_of b).tuner) (length os) (length room)) os (tuner_of b).tuner.chip))

unfoldable pub over_tuning : (Tuner → Course Tuner) → List ℕ → List ℕ → List ℕ → List ℕ → Tuned
over_tuning row os b room next = tuned_by (over_tuner row os b room next) (lock_tries_over row os b room next)

-- a path's number above 2 names no path
abbrev pub path_refusal : ℕ → ℕ
path_refusal path = cond (ltb 2 path) SETUP 0
