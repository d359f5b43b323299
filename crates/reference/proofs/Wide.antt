-- The corrected reference as the machine works it out, in signed numbers of 64 bits: nothing is lost on the way. Assumes nothing.
use Rattle.std.proofs.Common.{◌≡◌, ◌∙◌, ap, ap₂, arith, rules, ℕ, ◌<◌, ℤ, pos, ◌+ℤ◌, ◌*ℤ◌, to_z, of_z}
use Rattle.std.proofs.Math.Facts.{to_z-of_z, sfits_widen}
use Rattle.std.proofs.lemmas.Int.{ints, fits_signed_mul, quot_fits}
use Rattle.std.specs.Int.Signed.{quot_z}
use mir.Syntax.{w32, w64}
use mir.Val.{SFits}

-- what the machine holds
abbrev held : ℤ → ℤ
held z = to_z w64 (of_z w64 z)

pub worked_out : (n : ℕ) (z : ℤ) {a b : ℤ} → n < 4_294_967_296 → SFits w32 z → a ≡ pos n → b ≡ to_z w32 (of_z w32 z)
    → held (held a +ℤ held (quot_z (held (held a *ℤ held b)) (pos 1_000_000))) ≡ pos n +ℤ quot_z (pos n *ℤ z) (pos 1_000_000)
worked_out n z {a = a} {b = b} small f is ppm_is =
    let wide : SFits w64 (pos n) = search rules in
    let product : SFits w64 (pos n *ℤ z) = fits_signed_mul w64 (pos n) z 4294967295 2147483648 (omega arith) (omega (arith, ints)) (omega arith) in
    let part : SFits w64 (quot_z (pos n *ℤ z) (pos 1_000_000)) = quot_fits w64 (pos n *ℤ z) (pos 1_000_000) product (search rules) in
    let whole : SFits w64 (pos n +ℤ quot_z (pos n *ℤ z) (pos 1_000_000)) = search rules in
    let n_held : held a ≡ pos n = ap held is ∙ to_z-of_z wide in
    let ppm_held : held b ≡ z = ap held (ppm_is ∙ to_z-of_z f) ∙ to_z-of_z {w = w64} (sfits_widen tt f) in
    let product_held : held (held a *ℤ held b) ≡ pos n *ℤ z = ap₂ (λ x y. held (x *ℤ y)) n_held ppm_held ∙ to_z-of_z product in
    let part_held : held (quot_z (held (held a *ℤ held b)) (pos 1_000_000)) ≡ quot_z (pos n *ℤ z) (pos 1_000_000) =
    ap (λ x. held (quot_z x (pos 1_000_000))) product_held ∙ to_z-of_z part in
    ap₂ (λ x y. held (x +ℤ y)) n_held part_held ∙ to_z-of_z whole
