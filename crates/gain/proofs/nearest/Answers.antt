-- `gain::nearest` meets its contract: below zero the nearest is step 0, and from zero on the number is the one that `nearest_up` takes.
-- Assumes nothing.
use mathlib.Core.Path.{◌≡◌, sym, ap, ◌∙◌, subst}
use mathlib.Core.Bool.{true, false}
use Prim.Native.Nat.{◌<◌, ◌^◌}
use native.Mathlib.Omega.{arith}
use borrow.Author.Tests.{ltb-true}
use mir.Syntax.{w32}
use mir.Val.{Fits, SFits, to_z, of_z}
use mir.ValLaws.{to_z-of_z}
use lib.Dec.{T}
use lib.IntN.{ℤ, pos, negsuc, nat_abs}
use lib.Signed.{lt_z, non_neg, pos-nat_abs}
use Rattle.gain.specs.Steps.{nearest_of}
use Rattle.gain.proofs.Steps.{below_zero}
use Rattle.gain.proofs.nearest.Goals as goal

under : (t : ℤ) → lt_z t (pos 0) ≡ true → 0 ≡ nearest_of t
under (pos n) h = absurd (let l : n < 0 = ltb-true n 0 h in omega arith)
under (negsuc n) h = below_zero n

from_zero : (t : ℤ) → lt_z t (pos 0) ≡ false → T (non_neg t)
from_zero (pos n) h = tt
from_zero (negsuc n) h = subst T h tt

in_range_lem : (t : ℤ) → SFits w32 t → T (non_neg t) → Fits w32 (nat_abs t)
in_range_lem (pos n) f h = let l : n < 2 ^ 31 = f.sfits in record { fits = omega arith }
in_range_lem (negsuc n) f h = absurd h

-- t from zero on, as the code has it: read back from its bits
at_least : (c : goal.Else-t-lt0) → T (non_neg (to_z w32 (of_z w32 c.args.t)))
at_least c = from_zero (to_z w32 (of_z w32 c.args.t)) c.if-t-lt0.false

pub returns-then-t-lt0 : goal.returns-then-t-lt0
returns-then-t-lt0 c =
    let t = c.args.t in
    under t (ap (λ (z : ℤ). lt_z z (pos 0)) (sym (to_z-of_z w32 t c.ranges.t)) ∙ c.if-t-lt0.true)

pub overflow_cast-t : goal.overflow_cast-t
overflow_cast-t c =
    let args = c.args in
    let fits = c.ranges in (
      at_least c,
      in_range_lem (to_z w32 (of_z w32 args.t))
          (subst (SFits w32) (sym (to_z-of_z w32 args.t fits.t)) fits.t)
          (at_least c),
    )

pub returns : goal.returns
returns c =
    let args = c.args in
    let t = args.t in
    c.nearest_up.ensures
    ∙ ap nearest_of (pos-nat_abs (to_z w32 (of_z w32 t)) (at_least (c.before)) ∙ to_z-of_z w32 t c.ranges.t)
