-- A command on both records: the row of the call that it makes, and what that leaves. Document 02, #105: "1 frequency (u64), 2 rate (u32), 3 gain in dB
-- (binary32 bits), 4 gain index (u8), 5 bandwidth (u32), 6 the tuner's correction (i32), 7 reload (0)"; #109: "the command of #105 uses the new one".
-- Assumes nothing.
use Rattle.std.specs.Prelude.{ℕ, Bool, ◌&&◌, ◌||◌, cond, List, Option, Some, None}
use Rattle.std.specs.Option.{is_none}
use Rattle.bands.specs.Tables.{plan_by}
use Rattle.refusals.specs.declared.Answer.TheVariants.{Refused}
use Rattle.refusals.specs.Table.{COMMAND}
use Rattle.chip.specs.declared.LockTries.{LockTries}
use Rattle.chip.specs.Calls.{Called}
use Rattle.chip.specs.Courses.{Course, left_by}
use Rattle.chip.specs.Courses.Course.{Still, Taken}
use Rattle.chip.specs.Entries.{no_tries}
use Rattle.driver.specs.declared.Driver.{Driver}
use Rattle.driver.specs.Calls.{Both, both, correction_row, rate_row}
use Rattle.driver.specs.Record.{sound_driver}
use Rattle.r82xx.specs.declared.Tuner.{Tuner}
use Rattle.r82xx.specs.Orders.{course_of, lock_tries_of}
use Rattle.r82xx.specs.Orders as order
use Rattle.r82xx.specs.Record.{sound}
use Rattle.stream.specs.declared.Command.{Command}
use Rattle.stream.specs.declared.Command.TheVariants.{Frequency, Rate, GainDb, GainIndex, Bandwidth, Correction, Reload}

-- a row of the tuner's table, beside a driver's record that stays
abbrev pub beside : Driver → Course Tuner → Course Both
beside d (Still next answer) = Still (both next d) answer
beside d (Taken argument n m rs whole ss keep) = Taken argument n m rs whole ss (λ tr. both (keep tr) d)

-- the call that a command makes: by the board's table and the replies, on both records. "new 14 command"
abbrev pub command_row : Option Command → List ℕ → List ℕ → Tuner → Driver → Course Both
command_row (Some (Frequency hz)) table rs t d = beside d (course_of (order.Order.Tune hz rs) t)
command_row (Some (Rate rate)) table rs t d = rate_row rate (plan_by table d.frequency) t d
command_row (Some (GainDb db)) table rs t d = beside d (course_of (order.Order.Gain db) t)
command_row (Some (GainIndex k)) table rs t d = beside d (course_of (order.Order.GainIndex k) t)
command_row (Some (Bandwidth hz)) table rs t d = beside d (course_of (order.Order.Bandwidth hz) t)
command_row (Some (Correction ppm)) table rs t d = correction_row ppm t d
command_row (Some Reload) table rs t d = beside d (course_of order.Order.Reload t)
command_row None table rs t d = Still (both t d) (Refused COMMAND)

-- "it stands first": before 1 for either record, which is judged for every other command
abbrev pub judged : Option Command → Tuner → Driver → Bool
judged c t d = is_none c || (sound t && sound_driver d)

unfoldable pub command_result : Option Command → List ℕ → List ℕ → List ℕ → Tuner → Driver → List ℕ → Called Both
command_result c table rs os t d room = left_by (judged c t d) (command_row c table rs t d) os t.chip (both t d) room

-- #101: what it tells of the lock; only a tuning tells something
abbrev pub lock_tries_by : Option Command → List ℕ → List ℕ → Tuner → List ℕ → LockTries
lock_tries_by (Some (Frequency hz)) rs os t room = lock_tries_of (order.Order.Tune hz rs) os t room
lock_tries_by (Some (Rate rate)) rs os t room = no_tries
lock_tries_by (Some (GainDb db)) rs os t room = no_tries
lock_tries_by (Some (GainIndex k)) rs os t room = no_tries
lock_tries_by (Some (Bandwidth hz)) rs os t room = no_tries
lock_tries_by (Some (Correction ppm)) rs os t room = no_tries
lock_tries_by (Some Reload) rs os t room = no_tries
lock_tries_by None rs os t room = no_tries

unfoldable pub command_lock_tries : Option Command → List ℕ → List ℕ → Tuner → Driver → List ℕ → LockTries
command_lock_tries c rs os t d room = cond (judged c t d) (lock_tries_by c rs os t room) no_tries
