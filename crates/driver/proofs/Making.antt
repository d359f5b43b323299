-- The driver's record made, and asked for its reference: case by case, from references that were worked out apart.
-- Assumes nothing.
use Prim.Native.Nat.{ℕ, ◌≤◌, ◌<◌}
use mathlib.Core.Path.{◌≡◌, sym, ap, ◌∙◌}
use borrow.Author.Tests.{le-leb, lt-leb}
use lib.IntN.{ℤ}
use Rattle.std.specs.Prelude.{Option, Some, None}
use Rattle.board.specs.declared.Board.{Board}
use Rattle.board.specs.Numbers.{board_of}
use Rattle.refusals.specs.declared.Answer.TheVariants.{Done, Refused}
use Rattle.refusals.specs.Table.{SETUP, CORRECTION}
use Rattle.driver.specs.Record.{driver, driver_of, made, made_on, nothing_made, xtal_by}
use Rattle.driver.specs.Calls.{xtal_answer}

-- `new`: the board's number was read as b
module _ (board nominal : ℕ) (ppm : ℤ) (frequency rate : ℕ) (b : Option Board) (read : b ≡ board_of board) where
  pub new_no_board : b ≡ None → nothing_made SETUP ≡ driver_of board nominal ppm frequency rate
  unfolding driver_of
  new_no_board e =
      sym (ap (λ (x : Option Board). made_on x nominal ppm frequency rate) e) ∙ ap (λ (x : Option Board). made_on x nominal ppm frequency rate) read

  module _ (named : Board) (e : b ≡ Some named) where
    on : made_on (Some named) nominal ppm frequency rate ≡ driver_of board nominal ppm frequency rate
    unfolding driver_of
    on = sym (ap (λ (x : Option Board). made_on x nominal ppm frequency rate) e) ∙ ap (λ (x : Option Board). made_on x nominal ppm frequency rate) read

    pub new_low : nominal < 1 → nothing_made SETUP ≡ driver_of board nominal ppm frequency rate
    new_low h = rw (lt-leb 1 nominal h) at on

    pub new_high : 1 ≤ nominal → 4_294_967_295 < nominal → nothing_made SETUP ≡ driver_of board nominal ppm frequency rate
    new_high h k = rw (le-leb 1 nominal h, lt-leb nominal 4_294_967_295 k) at on

    module _ (low : 1 ≤ nominal) (high : nominal ≤ 4_294_967_295) (xtal : ℕ) (worked : xtal ≡ xtal_by nominal ppm) where
      pub new_bad : xtal < 1 → nothing_made CORRECTION ≡ driver_of board nominal ppm frequency rate
      new_bad h = rw (le-leb 1 nominal low, le-leb nominal 4_294_967_295 high, ← worked, lt-leb 1 xtal h) at on

      pub new_good : 1 ≤ xtal → made (Done 0) (driver named nominal ppm frequency rate 0) ≡ driver_of board nominal ppm frequency rate
      new_good h = rw (le-leb 1 nominal low, le-leb nominal 4_294_967_295 high, ← worked, le-leb 1 xtal h) at on

-- `corrected_xtal_hz`
pub xtal_refused : (xtal y : ℕ) → xtal ≡ y → xtal < 1 → Refused SETUP ≡ xtal_answer y
unfolding xtal_answer
xtal_refused xtal y e h = rw (← e, lt-leb 1 xtal h)

pub xtal_told : (xtal y : ℕ) → xtal ≡ y → 1 ≤ xtal → Done xtal ≡ xtal_answer y
unfolding xtal_answer
xtal_told xtal y e h = rw (← e, le-leb 1 xtal h)
