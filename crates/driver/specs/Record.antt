-- The driver's record: how it is made, when it is out of its ranges, and what changes in it. Document 01, "The record": "The driver's record holds
-- board, nominal (1..4,294,967,295, else 1), ppm, frequency and rate, all given at its making, with 4 for a bad correction."
-- Assumes nothing.
use Rattle.std.specs.Prelude.{ℕ, Bool, ◌&&◌, cond, leb, ℤ, pos, Option, Some, None}
use Rattle.std.specs.Option.{unwrap_or}
use Rattle.board.specs.declared.Board.{Board}
use Rattle.board.specs.declared.Board.TheVariants.{Generic}
use Rattle.board.specs.Numbers.{board_of}
use Rattle.refusals.specs.declared.Answer.{Answer}
use Rattle.refusals.specs.declared.Answer.TheVariants.{Done, Refused}
use Rattle.refusals.specs.Table.{SETUP, CORRECTION}
use Rattle.reference.specs.Correct.{corrected_of}
use Rattle.driver.specs.declared.Driver.{Driver}
use Rattle.driver.specs.declared.Made.{Made}

-- "The tuner and the driver each keep their own": the driver's corrected reference is no field, but worked out; 0 where it is out of its range
unfoldable pub xtal_by : ℕ → ℤ → ℕ
xtal_by nominal ppm = unwrap_or (corrected_of nominal ppm) 0

abbrev pub xtal_of : Driver → ℕ
xtal_of d = xtal_by d.nominal d.ppm

-- "A given record out of its ranges": its reference cannot be corrected. A nominal of 0 never can, and above a u32 bounds it
abbrev pub sound_driver : Driver → Bool
sound_driver d = leb 1 (xtal_of d)

-- Document 02, #104: "Record both: the rate asked, and the true rate"
abbrev pub driver : Board → ℕ → ℤ → ℕ → ℕ → ℕ → Driver
driver board nominal ppm frequency rate actual =
    record { board = board; nominal = nominal; ppm = ppm; frequency = frequency; rate = rate; actual = actual }

abbrev pub made : Answer → Driver → Made
made answer d = record { answer = answer; driver = d }

-- "nothing made": the record beside a refusal is always this one
abbrev pub nothing_made : ℕ → Made
nothing_made number = made (Refused number) (driver Generic 1 (pos 0) 0 0 0)

-- a board by its number (0 generic, 1 V4) that was read: 1, then 4. "At the record's making the true rate is 0"
abbrev pub made_on : Option Board → ℕ → ℤ → ℕ → ℕ → Made
made_on None nominal ppm frequency rate = nothing_made SETUP
made_on (Some board) nominal ppm frequency rate =
    cond (leb 1 nominal && leb nominal 4_294_967_295)
    (cond (leb 1 (xtal_by nominal ppm)) (made (Done 0) (driver board nominal ppm frequency rate 0)) (nothing_made CORRECTION))
    (nothing_made SETUP)

unfoldable pub driver_of : ℕ → ℕ → ℤ → ℕ → ℕ → Made
driver_of board nominal ppm frequency rate = made_on (board_of board) nominal ppm frequency rate

-- the record with one part changed
abbrev pub with_ppm : Driver → ℤ → Driver
with_ppm d ppm = driver d.board d.nominal ppm d.frequency d.rate d.actual

abbrev pub with_rate : Driver → ℕ → ℕ → Driver
with_rate d rate actual = driver d.board d.nominal d.ppm d.frequency rate actual
