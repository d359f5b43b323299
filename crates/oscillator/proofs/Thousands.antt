-- At a reference that is a multiple of 1,000 Hz nothing is cut of K, and below 32,768,000 Hz at most 17 kHz are left of the fraction: the VCO is then at most
-- 17,999 Hz below what was asked, and at most 16,000 above. Assumes nothing.
use mathlib.Core.Path.{◌≡◌, refl, sym, ap, subst}
use Prim.Native.Nat.{ℕ, ◌+◌, ◌-◌, ◌*◌, ◌/◌, ◌%◌, ◌≤◌, ◌<◌}
use native.Mathlib.Omega.{arith}
use native.Mathlib.Nat.{mul-div-le}
use Rattle.pll.specs.declared.Kind.{Kind}
use Rattle.pll.specs.declared.Plan.{Plan}
use Rattle.std.specs.Prelude.{Some}
use Rattle.pll.specs.Fraction.{sum_of, sum_start, taken_of}
use Rattle.pll.specs.Plan.{fraction_of, plan_of, whole_of}
use Rattle.pll.proofs.Bits.{bits_of, sum_is}
use Rattle.pll.proofs.Plans.{Known, known}
use Rattle.oscillator.specs.Bounds.{Around}
use Rattle.oscillator.specs.Registers.{Bytes, divider_in, vco_in}
use Rattle.oscillator.proofs.Oscillator.{Near, Says, divider_says, fraction_most, high, near, vco_says}
use Rattle.oscillator.proofs.Rests.{rest_most}

module _ (kind : Kind) (lo r : ℕ) (thousand : r % 1000 ≡ 0) (small : r < 32_768_000) (p : Plan) (is : plan_of kind lo r ≡ Some p) (reg : Bytes)
    (says : Says p p.number reg) where
  pub around : Around 17_999 16_000 lo r reg
  around =
      let w : Known kind lo r p = known kind lo r p is in
      let vco : ℕ = lo * p.m in
      let k : ℕ = r / 1000 in
      let f : ℕ = fraction_of vco r in
      let N : ℕ = whole_of vco r in
      let S : ℕ = (sum_of k f).sum in
      let taken : taken_of 16 k 2 (sum_start f) + (sum_of k f).rest ≡ f =
      subst (λ (x : Plan). taken_of 16 k 2 (sum_start x.fraction) + x.rest ≡ x.fraction) w.made w.taken in
      let bits : S ≡ bits_of 16 k 2 (sum_start f) = omega (arith, sum_is 16 0 k 2 (sum_start f) refl refl) in
      let upper : 2 * k * S ≤ 65_536 * (taken_of 16 k 2 (sum_start f) + 16) =
      subst (λ (x : ℕ). 2 * k * x ≤ 65_536 * (taken_of 16 k 2 (sum_start f) + 16)) (sym bits) (high 16 0 k 2 (sum_start f) refl refl) in
      let exact : 1000 * k ≡ r = omega arith in
      let scaled : 2 * (1000 * k) * S ≡ 2 * r * S = ap (λ (x : ℕ). 2 * x * S) exact in
      let part : 2 * r * N ≤ vco = mul-div-le vco (2 * r) in
      let least : 1000 * f ≤ vco - 2 * r * N = omega arith in
      let same : 2 * r * (65_536 * p.n + p.sum) ≡ 2 * r * (65_536 * N + S) = ap (λ (x : Plan). 2 * r * (65_536 * x.n + x.sum)) w.made in
      let v : vco_in r reg ≡ 2 * r * (65_536 * p.n + p.sum) = vco_says kind lo r p is reg says in
      let m : 65_536 * (lo * divider_in reg) ≡ 65_536 * vco = ap (λ (x : ℕ). 65_536 * (lo * x)) (divider_says kind lo r p is reg says) in
      let left : (sum_of k f).rest ≤ 17 = omega (arith, rest_most k f (fraction_most vco r w.reference), small) in
      let rest : p.rest ≤ 17 = subst (λ (x : Plan). x.rest ≤ 17) (sym w.made) left in
      let near_by : Near lo r p = near kind lo r p is in
      record {
        below = omega (arith, near_by.below, rest, m, v);
        above = omega (arith, upper, scaled, part, least, taken, same, m, v);
      }
