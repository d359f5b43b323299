-- The numbers stay in 64 bits. Assumes nothing.
use Prim.Native.Nat.{ℕ, ◌+◌, ◌-◌, ◌*◌, ◌%◌, ◌^◌, ◌<◌, ◌≤◌}
use mathlib.Core.Path.{◌≡◌, ◌∙◌}
use mathlib.Core.Bool.{Bool, true, false, cond}
use native.Mathlib.Omega.{arith}
use native.Mathlib.Nat.{mul-le-mul_left, mod-eq_of_lt}
use lib.Pow.{pow_mono}

-- S has two bytes
pub sum_small : (s : ℕ) (b : Bool) (high low : ℕ) → high < 256 → low < 256 → s ≡ cond b 0 (256 * high + low) → s < 65_536
sum_small s true high low h l e = omega arith
sum_small s false high low h l e = omega arith

pub vco_small : (r x : ℕ) → r < 4_294_967_296 → x < 17_694_720 → r * x < 75_998_243_991_552_000
vco_small r x h k =
    let most : r * x ≤ r * 17_694_720 = mul-le-mul_left r (omega arith) in
    omega (arith, most)

pub units_small : (v p : ℕ) → v < 75_998_243_991_552_000 → p ≤ 128 → v * p < 18_446_744_073_709_551_616
units_small v p h k =
    let most : v * p ≤ v * 128 = mul-le-mul_left v k in
    omega (arith, most)

-- seven halvings at most
pub halved : (d : ℕ) → d < 8 → 1 * 2 ^ (7 - d) % 2 ^ 64 ≡ 2 ^ (7 - d)
halved d h =
    let few : 2 ^ (7 - d) ≤ 2 ^ 7 = pow_mono {i = 7 - d} {j = 7} (omega arith) in
    let same : 1 * 2 ^ (7 - d) ≡ 2 ^ (7 - d) = omega arith in
    mod-eq_of_lt (omega (arith, few)) ∙ same

pub half_most : (d : ℕ) → 2 ^ (7 - d) ≤ 128
half_most d = pow_mono {i = 7 - d} {j = 7} (omega arith)
