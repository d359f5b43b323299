-- The driver's calls, as one definition each. Document 01, "Transcript and script": "sample rate 17, 0; board path 10, 3"; "Refusal numbers";
-- "The record": "`set_sample_rate` takes both records; the rate is recorded only when all steps are done."
-- Assumes nothing.
use Rattle.std.specs.Prelude.{ℕ, ◌&&◌, cond, List, [], eqb, leb, ℤ, Option, Some, None}
use Rattle.board.specs.declared.Path.{Path}
use Rattle.board.specs.Numbers.{path_of}
use Rattle.bands.specs.declared.Planned.{Planned}
use Rattle.refusals.specs.declared.Answer.{Answer}
use Rattle.refusals.specs.declared.Answer.TheVariants.{Done, Refused}
use Rattle.refusals.specs.Table.{SETUP, CORRECTION, TABLE}
use Rattle.chip.specs.declared.Chip.{Chip}
use Rattle.chip.specs.declared.Progress.{Progress}
use Rattle.chip.specs.Calls.{Called}
use Rattle.chip.specs.Courses.{Course, left_by}
use Rattle.chip.specs.Courses.Course.{Still, Taken}
use Rattle.chip.specs.Steps.{goes}
use Rattle.registers.specs.Rates.{rate_number, true_of}
use Rattle.r82xx.specs.declared.Tuner.{Tuner}
use Rattle.r82xx.specs.Record.{sound, with_chip, with_corrected, with_if}
use Rattle.driver.specs.declared.Driver.{Driver}
use Rattle.driver.specs.Record.{sound_driver, with_ppm, with_rate, xtal_by, xtal_of}
use Rattle.driver.specs.Programs.{board_path_steps, if_for, sample_rate_steps}

-- `corrected_xtal_hz`
unfoldable pub xtal_answer : ℕ → Answer
xtal_answer xtal = cond (leb 1 xtal) (Done xtal) (Refused SETUP)

-- both records
pub record Both : Type 0 where
  pub tuner : Tuner
  pub driver : Driver

abbrev pub both : Tuner → Driver → Both
both t d = record { tuner = t; driver = d }

-- Document 02, #109: "one call works out both corrected references from their own nominals and sets both, or refuses and sets neither"; "4 if either is out of
-- its range". The tuner keeps its corrected reference, the driver its ppm
abbrev pub correction_row : ℤ → Tuner → Driver → Course Both
correction_row ppm t d =
    cond (leb 1 (xtal_by t.nominal ppm) && leb 1 (xtal_by d.nominal ppm))
    (Still (both (with_corrected t (xtal_by t.nominal ppm)) (with_ppm d ppm)) (Done 0))
    (Still (both t d) (Refused CORRECTION))

-- 1 for either record stands before it
unfoldable pub correction_result : ℤ → List ℕ → Tuner → Driver → List ℕ → Called Both
correction_result ppm os t d room = left_by (sound t && sound_driver d) (correction_row ppm t d) os t.chip (both t d) room

-- nothing is lent to it
abbrev pub correction_call : ℤ → Tuner → Driver → Called Both
correction_call ppm t d = correction_result ppm [] t d []

-- Document 02, #103: "Both the demod call and `set_sample_rate` refuse", here with the corrected reference
abbrev pub rate_refusal : ℕ → Driver → ℕ
rate_refusal rate d = rate_number rate (xtal_of d)

-- the tuner's record after it: "IF changes before its writes are tried"
abbrev pub retuned : Tuner → ℕ → Chip → Tuner
retuned t hz chip = with_chip (with_if t hz) chip

-- the driver's: "the rate is recorded only when all steps are done", and with it the true one
abbrev pub rated_by : Driver → ℕ → ℕ → Progress → Driver
rated_by d rate xtal progress = cond (goes progress) (with_rate d rate (true_of rate xtal)) d

-- #113: "`set_sample_rate` plans by a table too (19 after 1); no plan, not inverted"
abbrev pub rate_argument : ℕ → Planned → Driver → ℕ
rate_argument rate p d = cond (eqb p.refusal TABLE) TABLE (rate_refusal rate d)

-- the rows of both calls with steps, by the table's plan for the recorded frequency. "sample rate 17, 0"
abbrev pub rate_row : ℕ → Planned → Tuner → Driver → Course Both
rate_row rate p t d =
    Taken (rate_argument rate p d) 17 0 [] (Done 0)
    (sample_rate_steps (if_for t.ifreq rate) rate (xtal_of d) p.plan.inverted)
    (λ tr. both (retuned t (if_for t.ifreq rate) tr.chip) (rated_by d rate (xtal_of d) tr.progress))

-- "board path 10, 3", on R820T too; a number that names no path is a setup: 1
abbrev pub board_row : Option Path → List ℕ → Tuner → Course Tuner
board_row None rs t = Still t (Refused SETUP)
board_row (Some path) rs t = Taken 0 10 3 rs (Done 0) (board_path_steps t.kind path rs) (λ tr. with_chip t tr.chip)

-- what they leave, by the outcomes and the room that are lent to them
unfoldable pub rate_result : ℕ → Planned → List ℕ → Tuner → Driver → List ℕ → Called Both
rate_result rate p os t d room = left_by (sound t && sound_driver d) (rate_row rate p t d) os t.chip (both t d) room

unfoldable pub board_result : ℕ → List ℕ → List ℕ → Tuner → List ℕ → Called Tuner
board_result path rs os t room = left_by (sound t) (board_row (path_of path) rs t) os t.chip t room
