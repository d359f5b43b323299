-- The oscillator in units of 2^-23 Hz is the VCO of crate oscillator, divided by m, with nothing cut; and the IF's word by its bytes. Assumes nothing.
use Prim.Native.Nat.{ℕ, suc, ◌+◌, ◌-◌, ◌*◌, ◌/◌, ◌%◌, ◌^◌, ◌≤◌, ◌<◌}
use mathlib.Core.Path.{◌≡◌, sym, ap, ◌∙◌}
use native.Mathlib.Omega.{arith}
use lib.Pow.{pow-add}
use Rattle.oscillator.specs.Registers.{Bytes, divider_in, sum_in, vco_in, whole_in}
use Rattle.evidence.specs.Evidence.{code_in, lo_units}

-- vco_in is in 65,536ths: 2^23 / 65,536 is 128
pub lo_exactly : (r : ℕ) (f : Bytes) → code_in f ≤ 7 → lo_units r f * divider_in f ≡ 128 * vco_in r f
unfolding lo_units
lo_exactly r f h =
    let c : ℕ = code_in f in
    let steps : ℕ = r * (65_536 * whole_in f + sum_in f) in
    let sum : (7 - c) + suc c ≡ 8 = omega arith in
    let all : 2 ^ (7 - c) * 2 ^ suc c ≡ 256 = sym (pow-add 2 (7 - c) (suc c)) ∙ ap (λ (x : ℕ). 2 ^ x) sum in
    let times : steps * (2 ^ (7 - c) * 2 ^ suc c) ≡ steps * 256 = ap (λ (x : ℕ). steps * x) all in
    omega (arith, times)

-- the IF's three bytes as they are sent, read back
pub word : (w : ℕ) → w < 4_194_304 → 65_536 * (w / 65_536 % 256 % 64) + (256 * (w / 256 % 256 % 256) + w % 256 % 256) ≡ w
word w h =
    let top : w / 65_536 < 64 = omega arith in
    let first : w / 65_536 % 256 % 64 ≡ w / 65_536 = omega (arith, top) in
    let second : w / 256 % 256 % 256 ≡ w / 256 % 256 = omega arith in
    let third : w % 256 % 256 ≡ w % 256 = omega arith in
    let middle : w / 256 / 256 ≡ w / 65_536 = omega arith in
    rw (first, second, third) (omega (arith, middle))
