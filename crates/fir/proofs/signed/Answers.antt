-- `fir::signed` meets its contract: the lower half of the numbers stands for itself, the upper for those below zero.
-- Assumes nothing.
use mathlib.Core.Path.{◌≡◌, sym, ap, ◌∙◌, subst}
use Prim.Native.Nat.{◌-◌, ◌*◌, ◌<◌, ◌^◌}
use native.Mathlib.Omega.{arith}
use borrow.Author.Tests.{lt-ltb, le-ltb}
use mir.Syntax.{w32}
use mir.Val.{SFits, to_z}
use mir.ValLaws.{to_z_pos, to_z-of_z}
use lib.IntN.{ℤ, negsuc, ◌-ℤ◌}
use Rattle.fir.proofs.Widths.{minus}
use Rattle.fir.proofs.signed.Goals as goal

upper : (c : goal.Else-n-half) → negsuc 0 -ℤ to_z w32 (2 * c.args.half - 1 - c.args.n) ≡ negsuc (2 * c.args.half - 1 - c.args.n)
upper c =
    let m = 2 * c.args.half - 1 - c.args.n in
    let l : m < 2 ^ 31 = omega arith in
    ap (λ (z : ℤ). negsuc 0 -ℤ z) (to_z_pos w32 m l) ∙ minus m

pub returns-then-n-half : goal.returns-then-n-half
returns-then-n-half c = to_z_pos w32 c.args.n (omega arith) ∙ simp (lt-ltb c.args.n c.args.half c.if-n-half.true)

pub overflow_sub-result-3 : goal.overflow_sub-result-3
overflow_sub-result-3 c = subst (SFits w32) (sym (upper c)) (record { sfits = omega arith })

pub returns : goal.returns
returns c = to_z-of_z w32 _ (overflow_sub-result-3 c) ∙ upper c ∙ simp (le-ltb c.args.n c.args.half c.if-n-half.false)
