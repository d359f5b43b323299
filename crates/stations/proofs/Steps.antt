-- The two bounds joined: the PLL's, and that of 22 bits. Assumes nothing.
use Prim.Native.Nat.{ℕ, ◌+◌, ◌*◌, ◌^◌, ◌≤◌, ◌<◌}
use native.Mathlib.Omega.{arith}
use native.Mathlib.Nat.{div-lt_iff_lt-mul, mul-div-le, mul-le-mul_left}
use Rattle.oscillator.specs.Registers.{Bytes, Within, divider_in}
use Rattle.registers.specs.Rates.{if_ratio_of}
use Rattle.stations.specs.Centre.{Centred}

-- an IF in steps of xtal / 2^22 is less than one step below it
pub step_low : (hz xtal : ℕ) → if_ratio_of hz xtal * xtal ≤ hz * 2 ^ 22
step_low hz xtal = omega (arith, mul-div-le (hz * 2 ^ 22) xtal)

pub step_high : (hz xtal : ℕ) → 0 < xtal → hz * 2 ^ 22 ≤ if_ratio_of hz xtal * xtal + xtal
step_high hz xtal h =
    let cut : hz * 2 ^ 22 < (if_ratio_of hz xtal + 1) * xtal = (div-lt_iff_lt-mul h).0 (omega arith) in
    omega (arith, cut)

-- and below 2^22 of them
pub step_few : (hz xtal : ℕ) → hz < xtal → if_ratio_of hz xtal < 2 ^ 22
step_few hz xtal h =
    let some : 0 < xtal = omega arith in
    (div-lt_iff_lt-mul some).1 (omega arith)

pub centred : (hz i r xtal v : ℕ) (reg : Bytes) → Within (hz + i) r reg → v * xtal ≤ i * 2 ^ 22 → i * 2 ^ 22 ≤ v * xtal + xtal → Centred hz r xtal v reg
centred hz i r xtal v reg w low high =
    let m : ℕ = divider_in reg in
    let lower : m * (v * xtal) ≤ m * (i * 2 ^ 22) = mul-le-mul_left m low in
    let upper : m * (i * 2 ^ 22) ≤ m * (v * xtal + xtal) = mul-le-mul_left m high in
    record {
      below = omega (arith, w.below, lower);
      above = omega (arith, w.above, upper);
    }
