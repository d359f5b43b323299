-- The driver's corrected reference, which is worked out: 0 exactly where it is out of its range, and always so for a nominal of 0. Assumes nothing.
use Prim.Native.Nat.{ℕ, ◌+◌, ◌-◌, ◌≤◌, ◌<◌}
use mathlib.Core.Path.{◌≡◌, refl, sym, ap, ◌∙◌}
use mathlib.Core.Bool.{Bool, true, false}
use native.Mathlib.Omega.{arith}
use borrow.Author.Tests.{leb-false}
use lib.Dec.{leb}
use lib.IntN.{ℤ, pos}
use lib.Signed.{lt_z}
use Rattle.std.specs.Prelude.{Option, Some, None}
use Rattle.std.specs.Option.{unwrap_or}
use Rattle.reference.specs.Correct.{accept_of, corrected_of}
use Rattle.reference.proofs.Corrections.{downward, in_range_lem, share_of, upward}
use Rattle.driver.specs.Record.{xtal_by}

-- not 0: it is the corrected reference
is_by : (x : Option ℕ) → leb 1 (unwrap_or x 0) ≡ true → x ≡ Some (unwrap_or x 0)
is_by (Some v) h = refl
is_by None h = cc

pub xtal_is : (n : ℕ) (ppm : ℤ) → leb 1 (xtal_by n ppm) ≡ true → corrected_of n ppm ≡ Some (xtal_by n ppm)
unfolding xtal_by
xtal_is n ppm h = is_by (corrected_of n ppm) h

-- 0: there is none
out_by : (x : Option ℕ) → ((v : ℕ) → x ≡ Some v → 0 < v) → leb 1 (unwrap_or x 0) ≡ false → x ≡ None
out_by (Some v) r h = let some : 0 < v = r v refl in let none : v < 1 = leb-false 1 v h in absurd (omega arith)
out_by None r h = refl

pub xtal_out : (n : ℕ) (ppm : ℤ) → leb 1 (xtal_by n ppm) ≡ false → corrected_of n ppm ≡ None
unfolding xtal_by
xtal_out n ppm h = out_by (corrected_of n ppm) (λ v e. (in_range_lem n ppm v e).0) h

-- "nominal (1..4,294,967,295, else 1)": a nominal of 0 has no corrected reference, so a given record that has it is out of its ranges
pub no_nominal : (ppm : ℤ) → corrected_of 0 ppm ≡ None
no_nominal ppm = go (lt_z ppm (pos 0)) refl
  where
    go : (b : Bool) → lt_z ppm (pos 0) ≡ b → corrected_of 0 ppm ≡ None
    go false e = let none : 0 + share_of 0 ppm ≡ 0 = omega arith in upward 0 ppm e ∙ ap (λ (k : ℕ). accept_of (pos k)) none
    go true e =
        let few : share_of 0 ppm ≤ 0 = omega arith in
        let none : 0 - share_of 0 ppm ≡ 0 = omega arith in
        downward 0 ppm e few ∙ ap (λ (k : ℕ). accept_of (pos k)) none
