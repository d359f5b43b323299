-- The driver's calls over bytes. Document 01, "The record": "`set_sample_rate` takes both records". Document 02, #109: so does the correction.
-- Assumes nothing.
use Rattle.std.specs.Prelude.{ℕ, Bool, ◌&&◌, ◌||◌, cond, List, ltb, ℤ, length}
use Rattle.refusals.specs.Lent.{Given, answered_to}
use Rattle.refusals.specs.declared.Answer.{Answer}
use Rattle.refusals.specs.declared.Answer.TheVariants.{Refused}
use Rattle.refusals.specs.Table.{SETUP}
use Rattle.chip.specs.Calls.{Called}
use Rattle.bands.specs.Tables.{plan_by}
use Rattle.centre.specs.Centre.{centre_of}
use Rattle.boards.specs.Hops.{hop_refusal, hop_result, hop_lock_tries}
use Rattle.chip.specs.declared.LockTries.{LockTries}
use Rattle.chip.specs.Courses.{argument_of}
use Rattle.chip.specs.Entries.{no_tries}
use Rattle.r82xx.specs.declared.Tuner.{Tuner}
use Rattle.reply.specs.declared.TuneReply.{TuneReply}
use Rattle.driver.specs.declared.Driver.{Driver}
use Rattle.driver.specs.Calls.{Both, correction_call, rate_result, rate_row, xtal_answer}
use Rattle.driver.specs.Record.{driver_of as madeDriver, xtal_of}
use Rattle.records.specs.Drivers.{driver_bytes, driver_of}
use Rattle.records.specs.Tuners.{tuner_bytes, tuner_of}
use Rattle.reply.specs.declared.Reply.{Reply}
use Rattle.reply.specs.Replies.{call_reply, reply_of, tuned_of}
use Rattle.tuners.specs.Over.{next_of, ready_by, unless_refused}
use Rattle.tuners.specs.Still.{of_record}

-- a fresh one
abbrev pub fresh_into : ℕ → ℕ → ℤ → ℕ → ℕ → List ℕ → Given
fresh_into board nominal ppm frequency rate out =
    answered_to (madeDriver board nominal ppm frequency rate).answer (driver_bytes (madeDriver board nominal ppm frequency rate).driver) out

abbrev pub xtal_over : List ℕ → Answer
xtal_over b = of_record (driver_of b).ok (driver_of b).driver (λ d. xtal_answer (xtal_of d)) (Refused SETUP)

-- the recording's centre: 1 for either record, then 19, 20 and 2
unfoldable pub centre_over : List ℕ → List ℕ → List ℕ → Answer
centre_over table d t = cond ((driver_of d).ok && (tuner_of t).ok) (centre_of table (driver_of d).driver (tuner_of t).tuner) (Refused SETUP)

-- what a rate leaves: its answer, the room, the slices for both next records
pub record Rates : Type 0 where
  pub answer : Reply
  pub room : List ℕ
  pub driver : List ℕ
  pub tuner : List ℕ

abbrev pub rates : Reply → List ℕ → List ℕ → List ℕ → Rates
rates answer room driver tuner = record { answer = answer; room = room; driver = driver; tuner = tuner }

-- of both records: 1 for either, then the argument's number, then 8 for either slice
unfoldable pub both_ready : Bool → ℕ → ℕ → ℕ → ℕ
both_ready ok argument driver tuner = ready_by ok argument (ltb driver 29 || ltb tuner 78)

abbrev pub rates_made : Called Both → List ℕ → List ℕ → Rates
rates_made c driver tuner =
    rates (call_reply c) c.room (next_of driver_bytes c.answer c.count c.next.driver driver)
    (next_of tuner_bytes c.answer c.count c.next.tuner tuner)

abbrev pub rates_refused : ℕ → List ℕ → List ℕ → List ℕ → Rates
rates_refused number room driver tuner = rates (reply_of (Refused number) 0) room driver tuner

-- a call over both records' bytes, by the number of its argument's refusal and what it leaves of the records that the bytes are
unfoldable pub over_both : (Tuner → Driver → ℕ) → (Tuner → Driver → Called Both) → List ℕ → List ℕ → List ℕ → List ℕ → List ℕ → Rates
over_both argument result d t room driver tuner =
    unless_refused (both_ready ((driver_of d).ok && (tuner_of t).ok) (argument (tuner_of t).tuner (driver_of d).driver) (length driver) (length tuner))
    (λ n. rates_refused n room driver tuner)
    (rates_made (result (tuner_of t).tuner (driver_of d).driver) driver tuner)

-- a rate, by its row and the table's plan
abbrev pub rate_over : List ℕ → ℕ → List ℕ → List ℕ → List ℕ → List ℕ → List ℕ → List ℕ → Rates
rate_over os rate table d t room driver tuner =
    over_both (λ u v. argument_of (rate_row rate (plan_by table v.frequency) u v)) (λ u v. rate_result rate (plan_by table v.frequency) os u v room) d t room driver tuner

-- ---- the board-level tune, which has a tuning's reply

pub record Hops : Type 0 where
  pub answer : TuneReply
  pub room : List ℕ
  pub driver : List ℕ
  pub tuner : List ℕ

abbrev pub hops : TuneReply → List ℕ → List ℕ → List ℕ → Hops
hops answer room driver tuner = record { answer = answer; room = room; driver = driver; tuner = tuner }

abbrev pub hops_by : Rates → LockTries → Hops
hops_by r s = hops (tuned_of r.answer s) r.room r.driver r.tuner

-- what it tells of the lock: nothing where it is refused before any step
unfoldable pub lock_tries_both : (Tuner → Driver → ℕ) → (Tuner → Driver → LockTries) → List ℕ → List ℕ → List ℕ → List ℕ → LockTries
lock_tries_both argument seen d t driver tuner =
    unless_refused (both_ready ((driver_of d).ok && (tuner_of t).ok) (argument (tuner_of t).tuner (driver_of d).driver) (length driver) (length tuner))
    (λ n. no_tries)
    (seen (tuner_of t).tuner (driver_of d).driver)

abbrev pub hop_argument : List ℕ → ℕ → Tuner → Driver → ℕ
hop_argument table hz u v = hop_refusal (plan_by table hz) u.ifreq

abbrev pub hop_over : List ℕ → ℕ → List ℕ → List ℕ → List ℕ → List ℕ → List ℕ → List ℕ → List ℕ → Hops
hop_over table hz rs os d t room driver tuner =
    hops_by (over_both (hop_argument table hz) (λ u v. hop_result (plan_by table hz) hz rs os u v room) d t room driver tuner)
    (lock_tries_both (hop_argument table hz) (λ u v. hop_lock_tries (plan_by table hz) hz rs os u v room) d t driver tuner)

-- what a correction leaves: its answer, and both records' bytes where they lie
pub record Corrects : Type 0 where
  pub answer : Reply
  pub tuner : List ℕ
  pub driver : List ℕ

abbrev pub corrects : Reply → List ℕ → List ℕ → Corrects
corrects answer tuner driver = record { answer = answer; tuner = tuner; driver = driver }

abbrev pub corrects_made : Called Both → List ℕ → List ℕ → Corrects
corrects_made c tuner driver =
    corrects (call_reply c) (next_of tuner_bytes c.answer c.count c.next.tuner tuner) (next_of driver_bytes c.answer c.count c.next.driver driver)

-- #109, on the records that the bytes are, 1 where either's are not valid; refused, it leaves the bytes of both as they were
unfoldable pub correct_over : ℤ → List ℕ → List ℕ → Corrects
correct_over ppm tuner driver =
    cond ((tuner_of tuner).ok && (driver_of driver).ok)
    (corrects_made (correction_call ppm (tuner_of tuner).tuner (driver_of driver).driver) tuner driver)
    (corrects (reply_of (Refused SETUP) 0) tuner driver)
