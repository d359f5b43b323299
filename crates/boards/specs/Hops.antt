-- The board-level tune. Document 02, #113: "Add the board-level tune: plan, notch, board path where there is one, tune, then the DDC sync byte, in that
-- order." "Demands 2 and 3 cover it as another call, of at most 64 entries and 38 replies."
-- Assumes nothing.
use Rattle.std.specs.Prelude.{ℕ, Bool, ◌&&◌, cond, List, [], ◌++◌, eqb, drop, length, Option, Some, None}
use Rattle.bands.specs.declared.Planned.{Planned}
use Rattle.board.specs.declared.Path.{Path}
use Rattle.board.specs.declared.Plan.{Plan}
use Rattle.refusals.specs.declared.Answer.{Answer}
use Rattle.refusals.specs.declared.Answer.TheVariants.{Done, Refused, Stopped}
use Rattle.chip.specs.declared.LockTries.{LockTries}
use Rattle.chip.specs.Calls.{Called, answer_of, lock_tries_in}
use Rattle.chip.specs.Courses.{Course, asked_by, entries_by, left_by}
use Rattle.chip.specs.Courses.Course.{Taken}
use Rattle.chip.specs.Steps.{Step, Trace}
use Rattle.demod.specs.Programs.{ddc_steps}
use Rattle.driver.specs.declared.Driver.{Driver}
use Rattle.driver.specs.Calls.{Both, both}
use Rattle.driver.specs.Programs.{board_path_steps}
use Rattle.driver.specs.Record.{driver, sound_driver}
use Rattle.pll.specs.declared.Kind.{Kind}
use Rattle.pll.specs.declared.Kind.TheVariants.{R820T, R828D}
use Rattle.pll.specs.declared.Plan as pll
use Rattle.r82xx.specs.declared.Tuner.{Tuner}
use Rattle.r82xx.specs.Calls.{hz_refusal, plan_for}
use Rattle.r82xx.specs.Orders.{lock_kept}
use Rattle.r82xx.specs.Record.{sound, with_notch}
use Rattle.tuning.specs.Program.{tune_steps, tune_answer}

-- "Here the board path is taken only if the kind is R828D", and where the plan has one
abbrev pub path_part : Kind → Option Path → List ℕ → List Step
path_part R820T route rs = []
path_part R828D None rs = []
path_part R828D (Some path) rs = board_path_steps R828D path rs

-- replies go in the order of reading: the path's three only where it is taken
abbrev pub path_replies : Kind → Option Path → ℕ
path_replies R820T route = 0
path_replies R828D None = 0
path_replies R828D (Some path) = 3

-- the DDC byte goes by the PLL's plan, not by how the steps went: a refusal of the PLL ends the call without one
abbrev pub ddc_part : Option pll.Plan → Bool → List Step
ddc_part None inverted = []
ddc_part (Some p) inverted = ddc_steps inverted

-- its program, by the board's plan and the PLL's
abbrev pub hop_steps : Kind → ℕ → Plan → Option pll.Plan → List ℕ → List Step
hop_steps kind address p by rs =
    path_part kind p.path rs
    ++ (tune_steps address kind p.notch by p.hz (drop (path_replies kind p.path) rs) ++ ddc_part by p.inverted)

-- "new 19 table ..; then 2 for a frequency in no band or shifted below 0 or past u64, and in the tune also for one shifted to 0 or whose sum with the IF
-- is past u64"
abbrev pub hop_refusal : Planned → ℕ → ℕ
hop_refusal p ifreq = cond (eqb p.refusal 0) (hz_refusal p.plan.hz ifreq) p.refusal

-- "The driver's frequency becomes the one asked when all steps are done": not after 11, nor where the PLL refuses
abbrev pub heard_by : Driver → ℕ → Answer → Driver
heard_by d hz (Done value) = driver d.board d.nominal d.ppm hz d.rate d.actual
heard_by d hz (Refused number) = d
heard_by d hz (Stopped index) = d

-- both records after the steps: the notch is stored before the first of them, so it stays whatever comes
abbrev pub hop_kept : Tuner → Driver → Plan → Answer → ℕ → Trace → Both
hop_kept t d p whole hz tr = both (lock_kept (with_notch t p.notch) tr) (heard_by d hz (answer_of whole tr.progress))

-- the row; the value is the hz asked
abbrev pub hop_row : Planned → ℕ → List ℕ → Tuner → Driver → Course Both
hop_row p hz rs t d =
    Taken (hop_refusal p t.ifreq) 64 38 rs (tune_answer (plan_for t p.plan.hz) hz)
    (hop_steps t.kind t.chip.address p.plan (plan_for t p.plan.hz) rs)
    (hop_kept t d p.plan (tune_answer (plan_for t p.plan.hz) hz) hz)

-- what it leaves, by the table's plan, the outcomes and the room that are lent to it
unfoldable pub hop_result : Planned → ℕ → List ℕ → List ℕ → Tuner → Driver → List ℕ → Called Both
hop_result p hz rs os t d room = left_by (sound t && sound_driver d) (hop_row p hz rs t d) os t.chip (both t d) room

-- #101: what it tells of the lock, read off the entries that it makes
unfoldable pub hop_lock_tries : Planned → ℕ → List ℕ → List ℕ → Tuner → Driver → List ℕ → LockTries
hop_lock_tries p hz rs os t d room =
    lock_tries_in (entries_by (asked_by (sound t && sound_driver d) (hop_row p hz rs t d) (length os) (length room)) os t.chip)
