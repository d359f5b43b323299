-- Every exported call that takes a tuner's record, as a host makes it: on bytes, with any arguments and any lent memory. What it leaves is the very
-- definition that its exported contract cites (crates `tuners` and `drivers`); what a host goes on with and what it reads is worked out from that alone.
-- Document 01, "Modules, leaves first": "Records cross there as bytes"; "The record": "Each operation hands the record back with its answer; only `set_ppm`
-- and `apply_notch` change the caller's record where it lies."
-- Assumes nothing.
use Rattle.std.specs.Prelude.{ℕ, ◌+◌, ◌*◌, ◌^◌, Bool, true, false, not, ◌||◌, cond, List, [], eqb, ltb, ℤ, set, take}
use Rattle.transcript.specs.declared.Entry.{Entry}
use Rattle.transcript.specs.Sections.{section_entries}
use Rattle.board.specs.Numbers.{path_of}
use Rattle.chip.specs.Steps.{every}
use Rattle.refusals.specs.Lent.{Given}
use Rattle.r82xx.specs.Orders as tuner
use Rattle.r82xx.specs.Orders.Order.{Initialize, Reload, Bandwidth, IfFreq, Gain, GainIndex, InputPath, Tune, Notch, GainTold, IfTold, TableTold}
use Rattle.driver.specs.Calls.{board_row}
use Rattle.records.specs.Drivers.{driver_of}
use Rattle.reply.specs.declared.Reply.{Reply}
use Rattle.reply.specs.declared.TuneReply.{TuneReply}
use Rattle.reply.specs.Replies.{call_reply, reply_of}
use Rattle.tuners.specs.Over.{After, Tuned as Tunings, over_tuner, over_tuning}
use Rattle.tuners.specs.Still.{answer_over, changed_into, table_over}
use Rattle.drivers.specs.Drivers.{Corrects, Hops, Rates, correct_over, hop_over, rate_over}
use Rattle.sequences.specs.Asides.{Aside, aside_result}
use Rattle.sequences.specs.Calls.{Order, is_byte}
use Rattle.sequences.specs.Calls.Order.{Tuned, SampleRate, Correction, BoardPath, BoardTune}

-- what is called, with its arguments: a call of the tuner's table, or one of the driver's. rs are the replies, a table its bytes, `driver` the bytes of a
-- driver's record and `left` the slice for its next one: any bytes, so that nothing hangs on where they come from
pub data Exported : Type 0 where
  Own : (o : tuner.Order) → Exported
  Rate : (rate : ℕ) (table driver left : List ℕ) → Exported
  Correct : (ppm : ℤ) (driver : List ℕ) → Exported
  Path : (path : ℕ) (rs : List ℕ) → Exported
  Hop : (hz : ℕ) (table rs driver left : List ℕ) → Exported

-- with the memory that is lent to it: outcomes, room, and the slice for the next record, or for the gain table (a call without steps has no outcomes and no room)
pub record Lent : Type 0 where
  pub exported : Exported
  pub outcomes : List ℕ
  pub room : List ℕ
  pub next : List ℕ

abbrev pub lent : Exported → List ℕ → List ℕ → List ℕ → Lent
lent exported outcomes room next = record { exported = exported; outcomes = outcomes; room = room; next = next }

-- ---- what a host is left with

-- include/pasetone.h, `pasetone_stands`: "it is done, or it is refused and has taken steps, which stand. Then its next records are written and take the place
-- of the given ones .. Else nothing was written, and the given records stay."
abbrev pub stands : Reply → Bool
stands r = eqb r.refusal 0 || ltb 0 r.count

-- the reply, the room, and the bytes that the host gives to its next call
pub record Left : Type 0 where
  pub reply : Reply
  pub room : List ℕ
  pub bytes : List ℕ

abbrev pub left : Reply → List ℕ → List ℕ → Left
left reply room bytes = record { reply = reply; room = room; bytes = bytes }

-- of a call that writes the next record into a slice of its own, which may be longer than a record's 78 bytes: those, or the ones that it was given
abbrev pub taking : Reply → List ℕ → List ℕ → List ℕ → Left
taking reply room next b = left reply room (cond (stands reply) (take 78 next) b)

-- a tuning's reply without the tries
abbrev pub plainly : TuneReply → Reply
plainly r = record { value = r.value; index = r.index; refusal = r.refusal; count = r.count }

abbrev pub by_after : After → List ℕ → Left
by_after a b = taking a.answer a.room a.next b

abbrev pub by_tuning : Tunings → List ℕ → Left
by_tuning a b = taking (plainly a.answer) a.room a.next b

abbrev pub by_rates : Rates → List ℕ → Left
by_rates a b = taking a.answer a.room a.tuner b

abbrev pub by_hops : Hops → List ℕ → Left
by_hops a b = taking (plainly a.answer) a.room a.tuner b

-- of one that changes the record where it lies: the slice itself
abbrev pub by_given : Given → List ℕ → Left
by_given g room = left (reply_of g.answer 0) room g.out

abbrev pub by_corrects : Corrects → List ℕ → Left
by_corrects c room = left c.answer room c.tuner

-- the calls of the tuner's table, on the bytes b; the last three only read them
abbrev pub tuner_left : tuner.Order → List ℕ → List ℕ → List ℕ → List ℕ → Left
tuner_left Initialize os room next b = by_after (over_tuner (tuner.course_of Initialize) os b room next) b
tuner_left Reload os room next b = by_after (over_tuner (tuner.course_of Reload) os b room next) b
tuner_left (Bandwidth hz) os room next b = by_after (over_tuner (tuner.course_of (Bandwidth hz)) os b room next) b
tuner_left (IfFreq hz) os room next b = by_after (over_tuner (tuner.course_of (IfFreq hz)) os b room next) b
tuner_left (Gain db) os room next b = by_after (over_tuner (tuner.course_of (Gain db)) os b room next) b
tuner_left (GainIndex k) os room next b = by_after (over_tuner (tuner.course_of (GainIndex k)) os b room next) b
tuner_left (InputPath path) os room next b = by_after (over_tuner (tuner.course_of (InputPath path)) os b room next) b
tuner_left (Tune hz rs) os room next b = by_tuning (over_tuning (tuner.course_of (Tune hz rs)) os b room next) b
tuner_left (Notch on) os room next b = by_given (changed_into (Notch on) b b) room
tuner_left GainTold os room next b = left (reply_of (answer_over GainTold b) 0) room b
tuner_left IfTold os room next b = left (reply_of (answer_over IfTold b) 0) room b
tuner_left TableTold os room next b = left (reply_of (table_over b next).answer 0) room b

abbrev pub left_of : Exported → List ℕ → List ℕ → List ℕ → List ℕ → Left
left_of (Own o) os room next b = tuner_left o os room next b
left_of (Rate rate table driver left) os room next b = by_rates (rate_over os rate table driver b room left next) b
left_of (Correct ppm driver) os room next b = by_corrects (correct_over ppm b driver) room
left_of (Path path rs) os room next b = by_after (over_tuner (board_row (path_of path) rs) os b room next) b
left_of (Hop hz table rs driver left) os room next b = by_hops (hop_over table hz rs os driver b room left next) b

abbrev pub leaves : Lent → List ℕ → Left
leaves k b = left_of k.exported k.outcomes k.room k.next b

-- "Each call with steps writes its section at the start of the lent room": the entries that the reader finds there; none where the reply counts none
abbrev pub read_by : Reply → List ℕ → List Entry
read_by r room = cond (eqb r.count 0) [] (section_entries (take (16 * r.count + 8) room))

abbrev pub entries_of : Lent → List ℕ → List Entry
entries_of k b = read_by (leaves k b).reply (leaves k b).room

-- "the uncut call is the one with the failing step done and all other outcomes and replies equal"
abbrev pub uncut : ℕ → Lent → Lent
uncut i k = lent k.exported (set k.outcomes i 0) k.room k.next

-- of a call that takes no record
abbrev pub aside_entries_of : Aside → List Entry
aside_entries_of a = read_by (call_reply (aside_result a)) (aside_result a).room

-- ---- what is asked of a call's numbers

-- the call on the records that the bytes are
abbrev pub order_of : Exported → Order
order_of (Own o) = Tuned o
order_of (Rate rate table driver left) = SampleRate rate table (driver_of driver).driver
order_of (Correct ppm driver) = Correction ppm (driver_of driver).driver
order_of (Path path rs) = BoardPath path rs
order_of (Hop hz table rs driver left) = BoardTune hz table rs (driver_of driver).driver

-- Of the bounds that the types of the arguments have, the two that count: a reply is a byte, an IF a u64. Nothing else is asked, so that any numbers of the
-- types are among them
abbrev pub tuner_typed : tuner.Order → Bool
tuner_typed Initialize = true
tuner_typed Reload = true
tuner_typed (Bandwidth hz) = true
tuner_typed (IfFreq hz) = ltb hz (2 ^ 64)
tuner_typed (Gain db) = true
tuner_typed (GainIndex k) = true
tuner_typed (InputPath path) = true
tuner_typed (Tune hz rs) = every is_byte rs
tuner_typed (Notch on) = true
tuner_typed GainTold = true
tuner_typed IfTold = true
tuner_typed TableTold = true

abbrev pub typed_order : Order → Bool
typed_order (Tuned o) = tuner_typed o
typed_order (SampleRate rate table d) = true
typed_order (Correction ppm d) = true
typed_order (BoardPath path rs) = every is_byte rs
typed_order (BoardTune hz table rs d) = every is_byte rs

abbrev pub typed : Exported → Bool
typed e = typed_order (order_of e)

-- ---- what is left of refusal 1, "1 setup | .. a given record as above", where the tuner's record is one

-- a number that names no path: 0 is HF, 1 VHF, 2 UHF
abbrev pub pathless : Order → Bool
pathless (Tuned Initialize) = false
pathless (Tuned Reload) = false
pathless (Tuned (Bandwidth hz)) = false
pathless (Tuned (IfFreq hz)) = false
pathless (Tuned (Gain db)) = false
pathless (Tuned (GainIndex k)) = false
pathless (Tuned (InputPath path)) = ltb 2 path
pathless (Tuned (Tune hz rs)) = false
pathless (Tuned (Notch on)) = false
pathless (Tuned GainTold) = false
pathless (Tuned IfTold) = false
pathless (Tuned TableTold) = false
pathless (SampleRate rate table d) = false
pathless (Correction ppm d) = false
pathless (BoardPath path rs) = ltb 2 path
pathless (BoardTune hz table rs d) = false

-- bytes that are no driver's record, in a call that takes one
abbrev pub driverless : Exported → Bool
driverless (Own o) = false
driverless (Rate rate table driver left) = not (driver_of driver).ok
driverless (Correct ppm driver) = not (driver_of driver).ok
driverless (Path path rs) = false
driverless (Hop hz table rs driver left) = not (driver_of driver).ok

abbrev pub amiss : Exported → Bool
amiss e = driverless e || pathless (order_of e)
