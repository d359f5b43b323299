-- The table of the tuner's calls: what is called, with its arguments, and one row for each. The methods' contracts cite it, the boundary reads its
-- refusals from it, and demand 3 is about it. Document 01, "Transcript and script", "Refusal numbers", "The record", "Gain", "PLL".
-- Assumes nothing.
use Rattle.std.specs.Prelude.{ℕ, ◌+◌, Bool, cond, List, [], map, Float, pos, length, replicate, Option, Some, None}
use Rattle.std.specs.Float.{binary32}
use Rattle.std.specs.Float.Ieee.{to_bits}
use Rattle.board.specs.declared.Path.{Path}
use Rattle.board.specs.Numbers.{path_of}
use Rattle.refusals.specs.declared.Answer.{Answer}
use Rattle.refusals.specs.declared.Answer.TheVariants.{Done, Refused}
use Rattle.refusals.specs.Table.{SETUP}
use Rattle.chip.specs.declared.LockTries.{LockTries}
use Rattle.chip.specs.declared.Update.{Update}
use Rattle.chip.specs.Calls.{Called, lock_tries_in}
use Rattle.chip.specs.Courses.{Course, asked_by, entries_by, left_by}
use Rattle.chip.specs.Courses.Course.{Still, Taken}
use Rattle.chip.specs.Steps.{Step, Trace, while_open, updates}
use Rattle.gain.specs.Product.{gain_of}
use Rattle.gain.specs.Steps.{chosen_of, clamped, step_at, steps}
use Rattle.pll.specs.declared.Kind.{Kind}
use Rattle.pll.specs.declared.Kind.TheVariants.{R820T, R828D}
use Rattle.pll.specs.declared.Plan.{Plan}
use Rattle.tuning.specs.Program.{tune_steps, tune_answer}
use Rattle.tuning.specs.Tries.{lock_by}
use Rattle.writes.specs.Lists.{bandwidth_updates, gain_updates, if_updates, path_updates}
use Rattle.writes.specs.Programs.{init_steps, send_all}
use Rattle.r82xx.specs.declared.Table.{Table}
use Rattle.r82xx.specs.declared.Tuner.{Tuner}
use Rattle.r82xx.specs.Record.{ended_by, sound, with_chip, with_gain, with_if, with_lock, with_notch}
use Rattle.r82xx.specs.Calls.{hz_refusal, plan_for}

-- rs are the replies. The last four take no step: "notch .. 0, 0", and the three that only tell
pub data Order : Type 0 where
  Initialize : Order
  Reload : Order
  Bandwidth : (hz : ℕ) → Order
  IfFreq : (hz : ℕ) → Order
  Gain : (db : Float) → Order
  GainIndex : (k : ℕ) → Order
  InputPath : (path : ℕ) → Order
  Tune : (hz : ℕ) (rs : List ℕ) → Order
  Notch : (on : Bool) → Order
  GainTold : Order
  IfTold : Order
  TableTold : Order

-- one bracket of n masked writes, which leaves the record `cut` where a step failed and `whole` where all were done
unfoldable pub bracket : ℕ → List Update → Answer → Tuner → Tuner → Course Tuner
bracket n us answer cut whole = Taken 0 (n + 2) 0 [] answer (while_open (updates us)) (λ tr. ended_by cut whole tr.progress tr.chip)

-- "gain only when all are done"; "The answer is step / 10 in binary32"
unfoldable pub gain_row : ℕ → Tuner → Course Tuner
gain_row k t = bracket 5 (gain_updates k) (Done (to_bits binary32 (gain_of (step_at k)))) t (with_gain t (gain_of (step_at k)))

-- "input path 4, 0 (R820T: 0, 0)"; a number that names no path is a setup: 1
abbrev pub path_row : Option Path → Kind → Tuner → Course Tuner
path_row None kind t = Still t (Refused SETUP)
path_row (Some path) R820T t = Still t (Done 0)
path_row (Some path) R828D t = bracket 2 (path_updates path) (Done 0) t t

-- a tuning's program by its plan, and the record that its steps leave
abbrev pub tune_of : Tuner → Option Plan → ℕ → List ℕ → List Step
tune_of t plan hz rs = tune_steps t.chip.address t.kind t.notch plan hz rs

abbrev pub lock_kept : Tuner → Trace → Tuner
lock_kept t tr = with_lock (with_chip t tr.chip) (lock_by (lock_tries_in tr.log) t.lock)

-- "initialise 19, 0; tune 53, 35; gain 7, 0; bandwidth 3, 0; IF 4, 0; .. reload 9, 0"
abbrev pub course_of : Order → Tuner → Course Tuner
course_of Initialize t = Taken 0 19 0 [] (Done 0) init_steps (λ tr. with_chip t tr.chip)
course_of Reload t = Taken 0 9 0 [] (Done 0) (send_all t.chip.shadow) (λ tr. with_chip t tr.chip)
course_of (Bandwidth hz) t = bracket 1 (bandwidth_updates hz) (Done 0) t t
course_of (IfFreq hz) t = bracket 2 (if_updates hz) (Done 0) (with_if t hz) (with_if t hz)
course_of (Gain db) t = gain_row (chosen_of db) t
course_of (GainIndex k) t = gain_row (clamped k) t
course_of (InputPath path) t = path_row (path_of path) t.kind t
course_of (Tune hz rs) t =
    Taken (hz_refusal hz t.ifreq) 53 35 rs (tune_answer (plan_for t hz) hz) (tune_of t (plan_for t hz) hz rs) (lock_kept t)
course_of (Notch on) t = Still (with_notch t on) (Done 0)
course_of GainTold t = Still t (Done (to_bits binary32 t.gain))
course_of IfTold t = Still t (Done t.ifreq)
course_of TableTold t = Still t (Done 0)

-- what a call leaves, by the outcomes and the room that are lent to it
unfoldable pub result_of : Order → List ℕ → Tuner → List ℕ → Called Tuner
result_of o os t room = left_by (sound t) (course_of o t) os t.chip t room

-- #101: what it tells of the lock, read off the entries that it makes: "On refusal 11 the tries are those counted so far"
unfoldable pub lock_tries_of : Order → List ℕ → Tuner → List ℕ → LockTries
lock_tries_of o os t room = lock_tries_in (entries_by (asked_by (sound t) (course_of o t) (length os) (length room)) os t.chip)

-- a call without steps, to which nothing is lent
abbrev pub quietly : Order → Tuner → Called Tuner
quietly o t = result_of o [] t []

-- the gain table with its answer: zeros beside a refusal
unfoldable pub table_of : Tuner → Table
table_of t =
    record { answer = (quietly TableTold t).answer; steps = cond (sound t) (map pos steps) (replicate 29 (pos 0)) }
