-- `witness::units` meets its contract: R(65,536·N + S) is below 2^57, and the shift halves 128 as often as the divider says.
-- Assumes nothing.
use Prim.Native.Nat.{ℕ, ◌+◌, ◌-◌, ◌*◌, ◌/◌, ◌%◌, ◌^◌, ◌<◌}
use mathlib.Core.Path.{◌≡◌, ap, ◌∙◌}
use mathlib.Core.Bool.{cond}
use native.Mathlib.Omega.{arith}
use Rattle.oscillator.specs.Registers.{off}
use Rattle.evidence.specs.Evidence.{lo_units}
use Rattle.witness.proofs.Sizes.{half_most, halved, sum_small, units_small, vco_small}
use Rattle.witness.proofs.units.Goals as goal

pub overflow_mul-result-3 : goal.overflow_mul-result-3
overflow_mul-result-3 c =
    let a = c.args in
    let s = sum_small c.sum-s.result (off a.control) a.high a.low (omega arith) (omega arith) c.sum-s.ensures in
    let n : ℕ = 13 + 4 * (a.whole % 64) + a.whole / 64 in
    let few : 65_536 * n + c.sum-s.result < 17_694_720 = omega (arith, s) in
    let d : ℕ = a.divider / 32 in
    let vco = vco_small a.r (65_536 * n + c.sum-s.result) (omega arith) few in
    let half : 1 * 2 ^ (7 - d) % 18_446_744_073_709_551_616 ≡ 2 ^ (7 - d) = halved d (omega arith) in
    let small : a.r * (65_536 * n + c.sum-s.result) * (1 * 2 ^ (7 - d) % 18_446_744_073_709_551_616) < 18_446_744_073_709_551_616 =
    rw half (units_small (a.r * (65_536 * n + c.sum-s.result)) (2 ^ (7 - d)) vco (half_most d)) in
    omega (arith, small)

pub returns : goal.returns
unfolding lo_units
returns c =
    let a = c.args in
    let n : ℕ = 13 + 4 * (a.whole % 64) + a.whole / 64 in
    let d : ℕ = a.divider / 32 in
    ap (λ (x : ℕ). a.r * (65_536 * n + x) * (1 * 2 ^ (7 - d) % 18_446_744_073_709_551_616)) c.sum-s.ensures
    ∙ ap (λ (y : ℕ). a.r * (65_536 * n + cond (off a.control) 0 (256 * a.high + a.low)) * y) (halved d (omega arith))
