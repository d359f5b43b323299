-- `fir::size` meets its contract: on each side of zero the number is the one that `mag` gives.
-- Assumes nothing.
use mathlib.Core.Path.{◌≡◌, sym, ap, ◌∙◌, subst}
use Prim.Native.Nat.{◌<◌, ◌^◌}
use native.Mathlib.Omega.{arith}
use mir.Syntax.{w32}
use mir.Val.{Fits, SFits, to_z, of_z}
use mir.ValLaws.{to_z-of_z}
use lib.Dec.{T}
use lib.IntN.{ℤ, pos, negsuc, nat_abs, ◌-ℤ◌}
use lib.Signed.{mag, non_neg}
use Rattle.fir.proofs.Widths.{turned, plain}
use Rattle.fir.proofs.size.Goals as goal

-- a number that is no less than zero may be cast to a u32
castable : (z v : ℤ) → SFits w32 z → v ≡ pos (mag z) → T (non_neg v) × Fits w32 (nat_abs v)
castable z v f e = let l : mag z < 2 ^ 31 = f.sfits in subst (λ (y : ℤ). T (non_neg y) × Fits w32 (nat_abs y)) (sym e) (tt, record { fits = omega arith })

under : (c : goal.Then-z-lt0) → negsuc 0 -ℤ to_z w32 (of_z w32 c.args.z) ≡ pos (mag c.args.z)
under c =
    let e = to_z-of_z w32 c.args.z c.ranges.z in
    turned (to_z w32 (of_z w32 c.args.z)) c.if-z-lt0.true ∙ ap (λ (z : ℤ). pos (mag z)) e

read : (c : goal.Then-z-lt0) → to_z w32 (of_z w32 (negsuc 0 -ℤ to_z w32 (of_z w32 c.args.z))) ≡ pos (mag c.args.z)
read c = to_z-of_z w32 (negsuc 0 -ℤ to_z w32 (of_z w32 c.args.z)) (subst (SFits w32) (sym (under c)) (record { sfits = c.ranges.z.sfits })) ∙ under c

over : (c : goal.Else-z-lt0) → to_z w32 (of_z w32 c.args.z) ≡ pos (mag c.args.z)
over c =
    let e = to_z-of_z w32 c.args.z c.ranges.z in
    plain (to_z w32 (of_z w32 c.args.z)) c.if-z-lt0.false ∙ ap (λ (z : ℤ). pos (mag z)) e

pub overflow_sub-result : goal.overflow_sub-result
overflow_sub-result c = subst (SFits w32) (sym (under c)) (record { sfits = c.ranges.z.sfits })

pub overflow_cast-result : goal.overflow_cast-result
overflow_cast-result c = castable c.args.z _ c.ranges.z (read c)

pub returns-then-z-lt0 : goal.returns-then-z-lt0
returns-then-z-lt0 c = ap nat_abs (read c)

pub overflow_cast-result-2 : goal.overflow_cast-result-2
overflow_cast-result-2 c = castable c.args.z _ c.ranges.z (over c)

pub returns : goal.returns
returns c = ap nat_abs (over c)
