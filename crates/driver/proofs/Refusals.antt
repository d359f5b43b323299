-- What is known of a reference that was taken. Assumes nothing.
use Prim.Native.Nat.{ℕ, ◌<◌}
use mathlib.Core.Path.{◌≡◌}
use mathlib.Core.Bool.{Bool, true, ◌&&◌}
use borrow.Author.Tests.{leb-true}
use lib.Dec.{leb}
use Rattle.chip.proofs.Laws.{and_right}

-- a whole record's reference is above 0
pub xtal_taken : (s : Bool) (xtal : ℕ) → (s && leb 1 xtal) ≡ true → 0 < xtal
xtal_taken s xtal h = leb-true 1 xtal (and_right s (leb 1 xtal) h)
