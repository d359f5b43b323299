-- The numbers by which boards and input paths cross to a host, both ways. A number that names no case is refused.
-- Board: 0 generic, 1 V4. Path: 0 HF, 1 VHF, 2 UHF; in a plan 3 says that the board has no paths to choose from.
-- Assumes nothing.
use Rattle.std.specs.Prelude.{ℕ, zero, suc, Option, Some, None}
use Rattle.board.specs.declared.Board.{Board}
use Rattle.board.specs.declared.Board.TheVariants.{Generic, V4}
use Rattle.board.specs.declared.Path.{Path}
use Rattle.board.specs.declared.Path.TheVariants.{Hf, Vhf, Uhf}

abbrev pub board_number : Board → ℕ
board_number Generic = 0
board_number V4 = 1

abbrev pub path_number : Path → ℕ
path_number Hf = 0
path_number Vhf = 1
path_number Uhf = 2

abbrev pub route_number : Option Path → ℕ
route_number (Some p) = path_number p
route_number None = 3

abbrev pub board_of : ℕ → Option Board
board_of zero = Some Generic
board_of (suc zero) = Some V4
board_of (suc (suc n)) = None

abbrev pub path_of : ℕ → Option Path
path_of zero = Some Hf
path_of (suc zero) = Some Vhf
path_of (suc (suc zero)) = Some Uhf
path_of (suc (suc (suc n))) = None
