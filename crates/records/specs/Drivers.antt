-- The driver's record as 29 bytes. Document 01, "The record": "The driver's record holds board, nominal (1..4,294,967,295, else 1), ppm, frequency and rate".
-- Document 02, #104: the true rate after them, any u64.
-- Assumes nothing.
use Rattle.std.specs.Prelude.{ℕ, Bool, true, false, ◌&&◌, List, [], ◌∷◌, eqb, leb, pos, length, Option, Some, None}
use Rattle.std.specs.Int.{w32}
use Rattle.std.proofs.Common.{of_z, to_z}
use Rattle.wire.specs.Bytes.{le_bytes}
use Rattle.board.specs.Numbers.{board_number}
use Rattle.board.specs.declared.Board.TheVariants.{Generic}
use Rattle.driver.specs.Record.{driver, sound_driver}
use Rattle.driver.specs.declared.Driver.{Driver}
use Rattle.records.specs.Fields.{board_from}
use Rattle.wire.specs.Parts.{joined, num, parts_from}

-- board, nominal, ppm, frequency, rate, true rate
abbrev pub driver_widths : List ℕ
driver_widths = 1 ∷ 4 ∷ 4 ∷ 8 ∷ 4 ∷ 8 ∷ []

abbrev pub driver_parts : Driver → List (List ℕ)
driver_parts d =
    le_bytes 1 (board_number d.board)
    ∷ le_bytes 4 d.nominal
    ∷ le_bytes 4 (of_z w32 d.ppm)
    ∷ le_bytes 8 d.frequency
    ∷ le_bytes 4 d.rate
    ∷ le_bytes 8 d.actual
    ∷ []

unfoldable pub driver_bytes : Driver → List ℕ
driver_bytes d = joined (driver_parts d)

abbrev pub driver_from : List (List ℕ) → Driver
driver_from ps = driver (board_from (num ps 0)) (num ps 1) (to_z w32 (num ps 2)) (num ps 3) (num ps 4) (num ps 5)

-- a board, and a reference that can be corrected
unfoldable pub driver_fits : List (List ℕ) → Bool
driver_fits ps = leb (num ps 0) 1 && sound_driver (driver_from ps)

unfoldable pub is_driver : List ℕ → Bool
is_driver b = eqb (length b) 29 && driver_fits (parts_from 0 driver_widths b)

-- a record that bytes are read as; where they are not valid, `driver` counts for nothing
pub record DriverRead : Type 0 where
  pub ok : Bool
  pub driver : Driver

abbrev pub driver_read : Bool → Driver → DriverRead
driver_read ok d = record { ok = ok; driver = d }

abbrev pub pick_driver : Bool → Driver → DriverRead
pick_driver true d = driver_read true d
pick_driver false d = driver_read false (driver Generic 1 (pos 0) 0 0 0)

unfoldable pub driver_of : List ℕ → DriverRead
driver_of b = pick_driver (is_driver b) (driver_from (parts_from 0 driver_widths b))

-- what the code's answer means
abbrev pub driver_meant : Option Driver → DriverRead
driver_meant (Some d) = driver_read true d
driver_meant None = driver_read false (driver Generic 1 (pos 0) 0 0 0)
