-- `fir::low` meets its contract: on each side of zero by the law for that side.
-- Assumes nothing.
use mathlib.Core.Path.{ap, ◌∙◌}
use Prim.Native.Nat.{ℕ, ◌-◌, ◌*◌, ◌%◌, ◌<◌}
use native.Mathlib.Nat.{mod-lt}
use native.Mathlib.Omega.{arith}
use mir.Syntax.{w32}
use mir.Val.{to_z, of_z}
use mir.ValLaws.{to_z-of_z}
use Rattle.fir.specs.Packing.{low_of}
use Rattle.fir.proofs.Widths.{low_under, low_over}
use Rattle.fir.proofs.low.Goals as goal

pub overflow_sub-result-then-z-lt0 : goal.overflow_sub-result-then-z-lt0
overflow_sub-result-then-z-lt0 c =
    let size = c.size in
    let args = c.args in
    let h = args.half in
    let p : 0 < 2 * h = omega arith in
    let l : size.result % (2 * h) < 2 * h = mod-lt size.result p in
    omega arith

pub returns-then-z-lt0 : goal.returns-then-z-lt0
returns-then-z-lt0 c =
    let args = c.args in
    let h = args.half in
    let z = args.z in
    ap (λ (n : ℕ). 2 * h - 1 - n % (2 * h)) c.size.ensures
    ∙ low_under h (to_z w32 (of_z w32 z)) c.if-z-lt0.true
    ∙ ap (low_of h) (to_z-of_z w32 z c.ranges.z)

pub returns : goal.returns
returns c =
    let args = c.args in
    let h = args.half in
    let z = args.z in
    ap (λ (n : ℕ). n % (2 * h)) c.size.ensures
    ∙ low_over h (to_z w32 (of_z w32 z)) c.if-z-lt0.false
    ∙ ap (low_of h) (to_z-of_z w32 z c.ranges.z)
