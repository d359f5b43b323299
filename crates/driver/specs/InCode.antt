-- `set_ppm` on numbers alone: the tuner's nominal and corrected reference, the driver's nominal and ppm, and the ppm asked. The code stores what it works out
-- in the records' place in memory. A reader of the contracts needs this file only to see how that stands for `correction_row` of specs/Calls.antt.
-- Assumes nothing.
use Rattle.std.specs.Prelude.{ℕ, cond, ◌&&◌, eqb, leb, ℤ}
use Rattle.refusals.specs.declared.Answer.{Answer}
use Rattle.refusals.specs.declared.Answer.TheVariants.{Done, Refused}
use Rattle.refusals.specs.Table.{SETUP, CORRECTION}
use Rattle.r82xx.specs.Record.{sound_by}
use Rattle.driver.specs.Record.{xtal_by}

-- the number that refuses it, 0 for none
unfoldable pub correction_refusal : ℕ → ℕ → ℕ → ℤ → ℤ → ℕ
correction_refusal nominal corrected other had ppm =
    cond (sound_by nominal corrected && leb 1 (xtal_by other had)) (cond (leb 1 (xtal_by nominal ppm) && leb 1 (xtal_by other ppm)) 0 CORRECTION) SETUP

-- what is stored: the tuner's corrected reference, and the driver's ppm
unfoldable pub kept_reference : ℕ → ℕ → ℕ → ℤ → ℤ → ℕ
kept_reference nominal corrected other had ppm = cond (eqb (correction_refusal nominal corrected other had ppm) 0) (xtal_by nominal ppm) corrected

unfoldable pub kept_ppm : ℕ → ℕ → ℕ → ℤ → ℤ → ℤ
kept_ppm nominal corrected other had ppm = cond (eqb (correction_refusal nominal corrected other had ppm) 0) ppm had

unfoldable pub correction_answer : ℕ → ℕ → ℕ → ℤ → ℤ → Answer
correction_answer nominal corrected other had ppm =
    cond (eqb (correction_refusal nominal corrected other had ppm) 0) (Done 0) (Refused (correction_refusal nominal corrected other had ppm))
