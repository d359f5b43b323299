-- Every call that takes or hands back a tuner record, with any arguments, outcomes, replies and room. What it leaves is its contract's definition of crate
-- `r82xx` or `driver`, and its entries are those of the program in the very row that the contract cites. Document 01, "Transcript and script", "The record".
-- Assumes nothing.
use Rattle.std.specs.Prelude.{ℕ, Bool, ◌&&◌, List, leb, ℤ, length, set}
use Rattle.transcript.specs.declared.Entry.{Entry}
use Rattle.bands.specs.Tables.{plan_by}
use Rattle.board.specs.Numbers.{path_of}
use Rattle.boards.specs.Hops.{hop_result, hop_row}
use Rattle.chip.specs.Calls.{Called, called}
use Rattle.chip.specs.Courses.{Asked, Course, asked_by, entries_by, most_of, replies_of}
use Rattle.chip.specs.Courses.Course.{Still, Taken}
use Rattle.chip.specs.Steps.{every}
use Rattle.r82xx.specs.declared.Tuner.{Tuner}
use Rattle.r82xx.specs.Orders as tuner
use Rattle.r82xx.specs.Record.{sound}
use Rattle.driver.specs.declared.Driver.{Driver}
use Rattle.driver.specs.Record.{sound_driver}
use Rattle.driver.specs.Calls.{Both, board_result, board_row, correction_result, correction_row, rate_result, rate_row}

-- what is called, with its arguments: a call of the tuner's table, or one of the driver's; rs are the replies, a table its bytes. `set_sample_rate`, the
-- correction and the board-level tune (#113) take a driver's record too: any, so that nothing hangs on where it comes from
pub data Order : Type 0 where
  Tuned : (o : tuner.Order) → Order
  SampleRate : (rate : ℕ) (table : List ℕ) (d : Driver) → Order
  Correction : (ppm : ℤ) (d : Driver) → Order
  BoardPath : (path : ℕ) (rs : List ℕ) → Order
  BoardTune : (hz : ℕ) (table rs : List ℕ) (d : Driver) → Order

-- a call: what is called, and the outcomes and the room that are lent to it (one without steps looks at neither)
pub record Call : Type 0 where
  pub order : Order
  pub outcomes : List ℕ
  pub room : List ℕ

abbrev pub call : Order → List ℕ → List ℕ → Call
call order outcomes room = record { order = order; outcomes = outcomes; room = room }

-- ---- what a call leaves, by its contract

-- "`set_sample_rate` takes both records", and so do the correction (#109) and the board-level tune (#113): what they leave of the tuner's
abbrev pub tuner_of : Called Both → Called Tuner
tuner_of x = called x.next.tuner x.room x.count x.answer

abbrev pub result_of : Order → List ℕ → List ℕ → Tuner → Called Tuner
result_of (Tuned o) os room t = tuner.result_of o os t room
result_of (SampleRate rate table d) os room t = tuner_of (rate_result rate (plan_by table d.frequency) os t d room)
result_of (Correction ppm d) os room t = tuner_of (correction_result ppm os t d room)
result_of (BoardPath path rs) os room t = board_result path rs os t room
result_of (BoardTune hz table rs d) os room t = tuner_of (hop_result (plan_by table hz) hz rs os t d room)

abbrev pub result : Call → Tuner → Called Tuner
result k t = result_of k.order k.outcomes k.room t

-- the record that it hands back
abbrev pub tuner_after : Call → Tuner → Tuner
tuner_after k t = (result k t).next

-- ---- its row, and its entries

-- of a row over both records, the tuner's part
abbrev pub tuner_part : Course Both → Course Tuner
tuner_part (Still next answer) = Still next.tuner answer
tuner_part (Taken argument n m rs whole ss keep) = Taken argument n m rs whole ss (λ tr. (keep tr).tuner)

abbrev pub row_of : Order → Tuner → Course Tuner
row_of (Tuned o) t = tuner.course_of o t
row_of (SampleRate rate table d) t = tuner_part (rate_row rate (plan_by table d.frequency) t d)
row_of (Correction ppm d) t = tuner_part (correction_row ppm t d)
row_of (BoardPath path rs) t = board_row (path_of path) rs t
row_of (BoardTune hz table rs d) t = tuner_part (hop_row (plan_by table hz) hz rs t d)

-- whether the records given are in their ranges
abbrev pub sound_for : Order → Tuner → Bool
sound_for (Tuned o) t = sound t
sound_for (SampleRate rate table d) t = sound t && sound_driver d
sound_for (Correction ppm d) t = sound t && sound_driver d
sound_for (BoardPath path rs) t = sound t
sound_for (BoardTune hz table rs d) t = sound t && sound_driver d

abbrev pub asked : Call → Tuner → Asked
asked k t = asked_by (sound_for k.order t) (row_of k.order t) (length k.outcomes) (length k.room)

-- proofs/Ties.antt: they are the ones that the reader finds in the room that the contract hands back
abbrev pub entries : Call → Tuner → List Entry
entries k t = entries_by (asked k t) k.outcomes t.chip

-- "the uncut call is the one with the failing step done and all other outcomes and replies equal"
abbrev pub uncut : ℕ → Call → Call
uncut i k = call k.order (set k.outcomes i 0) k.room

-- "Per call, the most entries"
abbrev pub most : Order → Tuner → ℕ
most o t = most_of (row_of o t)

abbrev pub is_byte : ℕ → Bool
is_byte b = leb b 255

-- what is asked of a call's numbers: its replies are bytes. Nothing else, so that any numbers of the code's types are among them
abbrev pub given : Order → Tuner → Bool
given o t = every is_byte (replies_of (row_of o t))
