-- From which reference on an N can be below 13: with 68,076,923 Hz or less none is, whatever the lo. At 68,076,924 one is (`below_least` of Proved).
-- Assumes nothing.
use mathlib.Core.Path.{◌≡◌}
use Prim.Native.Nat.{ℕ, ◌*◌, ◌≤◌, ◌<◌}
use native.Mathlib.Omega.{arith}
use native.Mathlib.Nat.{le-div_iff_mul-le}
use Rattle.std.specs.Prelude.{Some}
use Rattle.pll.specs.Divide.{divider_of}
use Rattle.pll.specs.Plan.{whole_of}
use Rattle.pll.proofs.Dividers.{found}

pub never_below : (lo r m k : ℕ) → 0 < r → r ≤ 68_076_923 → divider_of lo ≡ Some (m, k) → 13 ≤ whole_of (lo * m) r
never_below lo r m k h most e =
    let low : 1_770_000_000 ≤ lo * m = (found lo m k e).low in
    let some : 0 < 2 * r = omega arith in
    let fits : 13 * (2 * r) ≤ lo * m = omega arith in
    (le-div_iff_mul-le some).1 fits
