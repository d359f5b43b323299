-- What stands in a part that is no plain number: a kind, a flag, a gain's bits. The other way each is read back, from what it can be alone.
-- Assumes nothing.
use Rattle.std.specs.Prelude.{ℕ, ◌%◌, Bool, true, false, cond, ◌&&◌, ◌||◌, List, [], ◌∷◌, eqb, leb}
use Rattle.board.specs.declared.Board.{Board}
use Rattle.board.specs.declared.Board.TheVariants.{Generic, V4}
use Rattle.board.specs.Numbers.{board_number}
use Rattle.pll.specs.declared.Kind.{Kind}
use Rattle.pll.specs.declared.Kind.TheVariants.{R820T, R828D}
use Rattle.pll.specs.Plan.{kind_number}

-- a kind and a board by their numbers; another number stands in no record
abbrev pub kind_of : ℕ → Kind
kind_of n = cond (eqb n (kind_number R828D)) R828D R820T

abbrev pub board_from : ℕ → Board
board_from n = cond (eqb n (board_number V4)) V4 Generic

abbrev pub flag_byte : Bool → ℕ
flag_byte true = 1
flag_byte false = 0

abbrev pub flag_read : ℕ → Bool
flag_read n = eqb n 1

-- no byte but 0 and 1
unfoldable pub flags_only : List ℕ → Bool
flags_only [] = true
flags_only (b ∷ bs) = leb b 1 && flags_only bs

-- the bits that a binary32 is written as: of all NaN patterns, the one
abbrev pub proper_gain : ℕ → Bool
proper_gain n = leb (n % 0x8000_0000) 0x7f80_0000 || eqb n 0x7fc0_0000
