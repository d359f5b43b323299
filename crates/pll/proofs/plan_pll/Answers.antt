-- `pll::plan_pll` meets its contract: each `return` is the law of its case, the products stay below the oscillator's upper end. Assumes nothing.
use Rattle.std.proofs.Common.{◌≡◌, ◌*◌, ◌/◌, ◌^◌, ◌<◌, Some, sym, ◌∙◌, subst, arith}
use native.Mathlib.Nat.{mul-div-le}
use Rattle.pll.specs.declared.Sum.{Sum}
use Rattle.pll.specs.Divide.{divider_of}
use Rattle.pll.proofs.Dividers.{found}
use Rattle.pll.proofs.Fractions.{sum_fits}
use Rattle.pll.proofs.Plans.{cap_most, no_reference, no_divider, too_slow, too_fast, planned, put_together}
use Rattle.pll.proofs.plan_pll.Goals as goal

-- in the arm of the divider: it is the definition's, and lo·m is below 3,600,000,000
came :
    (c : goal.In_ok-m) → divider_of c.args.lo ≡ Some (c.in_ok-m.m, c.in_ok-m.number)
came c =
    sym c.divider.ensures ∙ c.in_ok-m.was

bounded : (c : goal.In_ok-m) → c.args.lo * c.in_ok-m.m < 3_600_000_000
bounded c = (found _ _ _ (came c)).high

-- where the cap was passed: N is below 128
within : (c : goal.Else-cap-n)
    → c.args.lo
    * c.in_ok-m.m / (2 * c.args.r)
    < 128
within c =
    omega (arith, c.if-cap-n.false, c.cap.ensures, cap_most c.args.kind)

pub returns-then-r-eq0 : goal.returns-then-r-eq0
returns-then-r-eq0 c = sym (no_reference _ _ _ c.if-r-eq0.true)

pub returns-in_err-m : goal.returns-in_err-m
returns-in_err-m c = c.from_residual.ensures ∙ sym (no_divider _ _ _ (sym c.divider.ensures ∙ c.in_err-m.was))

pub overflow_mul-vco : goal.overflow_mul-vco
overflow_mul-vco c = omega (arith, bounded c)

pub returns-then-n-lt-LEAST : goal.returns-then-n-lt-LEAST
returns-then-n-lt-LEAST c = sym (too_slow _ _ _ _ _ (came c.before) c.if-n-lt-LEAST.true)

pub returns-then-cap-n : goal.returns-then-cap-n
returns-then-cap-n c =
    sym (too_fast _ _ _ _ _ (came (c.before.before.before)) c.if-n-lt-LEAST.false (omega (arith, c.if-cap-n.true, c.cap.ensures)))

pub overflow_mul-f-2 : goal.overflow_mul-f-2
overflow_mul-f-2 c =
    let args = c.args in
    omega (arith, bounded (c.before.before.before), mul-div-le (args.lo * c.in_ok-m.m) (2 * args.r))

pub overflow_sub-f : goal.overflow_sub-f
overflow_sub-f c = mul-div-le _ _

pub setting-byte-requires : goal.setting-byte-requires
setting-byte-requires c = within c

pub overflow_cast-small : goal.overflow_cast-small
overflow_cast-small c = omega (arith, within c.before.before)

pub overflow_cast-short : goal.overflow_cast-short
overflow_cast-short c = record { fits = subst (λ (s : Sum). s.sum < 2 ^ 16) (sym c.fraction-end.ensures) (sum_fits _ _) }

pub returns : goal.returns
returns c =
    put_together _ _ _ _ _ _ c.setting-byte.ensures c.fraction-end.ensures
    ∙ sym
    (planned _ _ _ _ _ c.if-r-eq0.false (came (c.before.before.before.before.before)) c.if-n-lt-LEAST.false (omega (arith, c.if-cap-n.false, c.cap.ensures)))
