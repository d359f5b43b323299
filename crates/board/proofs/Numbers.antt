-- Numbers and cases go both ways: a case's number names the case, and a number that names a case is its number.
-- Numbers past the last case are refused. Assumes nothing.
use mathlib.Core.Path.{◌≡◌, refl, ap, sym, ◌∙◌}
use Prim.Native.Nat.{ℕ, zero, suc, ◌<◌}
use native.Mathlib.Omega.{arith}
use Rattle.std.specs.Prelude.{Option, Some, None}
use Rattle.board.specs.declared.Board.{Board}
use Rattle.board.specs.declared.Board.TheVariants.{Generic, V4}
use Rattle.board.specs.declared.Path.{Path}
use Rattle.board.specs.declared.Path.TheVariants.{Hf, Vhf, Uhf}
use Rattle.board.specs.Numbers.{board_number, board_of, path_number, path_of}

pub board_of_number : (b : Board) → board_of (board_number b) ≡ Some b
board_of_number Generic = refl
board_of_number V4 = refl

pub path_of_number : (p : Path) → path_of (path_number p) ≡ Some p
path_of_number Hf = refl
path_of_number Vhf = refl
path_of_number Uhf = refl

-- the number of the case that was read, and n where none was
abbrev board_told : Option Board → ℕ → ℕ
board_told (Some b) n = board_number b
board_told None n = n

board_back : (n : ℕ) → board_told (board_of n) n ≡ n
board_back zero = refl
board_back (suc zero) = refl
board_back (suc (suc n)) = refl

pub number_of_board : (n : ℕ) (b : Board) → board_of n ≡ Some b → board_number b ≡ n
number_of_board n b h = sym (ap (λ (r : Option Board). board_told r n) h) ∙ board_back n

abbrev path_told : Option Path → ℕ → ℕ
path_told (Some p) n = path_number p
path_told None n = n

path_back : (n : ℕ) → path_told (path_of n) n ≡ n
path_back zero = refl
path_back (suc zero) = refl
path_back (suc (suc zero)) = refl
path_back (suc (suc (suc n))) = refl

pub number_of_path : (n : ℕ) (p : Path) → path_of n ≡ Some p → path_number p ≡ n
number_of_path n p h = sym (ap (λ (r : Option Path). path_told r n) h) ∙ path_back n

pub no_path : (n : ℕ) → 2 < n → None ≡ path_of n
no_path zero h = absurd (omega arith)
no_path (suc zero) h = absurd (omega arith)
no_path (suc (suc zero)) h = absurd (omega arith)
no_path (suc (suc (suc n))) h = refl
