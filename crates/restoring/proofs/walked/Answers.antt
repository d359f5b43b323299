-- `restoring::walked` meets its contract. The loop's invariant: what stands before `end` is sections end to end exactly where the slice is, and its entries, over what is told by then, are all entries over what was told.
-- Assumes nothing.
use Prim.Native.Nat.{◌-◌}
use mathlib.Core.Path.{refl, sym, ◌∙◌}
use native.Mathlib.Omega.{arith}
use lib.ListN.{take}
use Rattle.restoring.proofs.Backward.{all_sections, all_told, chain_on, few, fit, lower, not_both, refused, stopped, told_on, within}
use Rattle.restoring.proofs.walked.Goals as goal

pub returns-in_default : goal.returns-in_default
returns-in_default c =
    let l = c.loop-end in
    let s = c.args.s.now in
    let bad =
    stopped s (take (l.end - 0) s) l.end refl (omega arith) l.invariant.0 l.invariant.1.0
    (sym c.in_default.is ∙ c.read_section.ensures) in
    (refused s bad, not_both s bad)

pub noted_all-requires : goal.noted_all-requires
noted_all-requires c =
    let l = c.loop-end in
    let s = c.args.s.now in
    let p = take (l.end - 0) s in
    let read = sym c.in-Some.is ∙ c.read_section.ensures in (
      few s p l.end refl (omega arith) l.invariant.0 _ _ read,
      within s p l.end refl (omega arith) l.invariant.0 _ _ read,
      fit s p l.end refl (omega arith) l.invariant.0 _ _ read,
    )

pub loop-end-smaller : goal.loop-end-smaller
loop-end-smaller c =
    let l = c.loop-end in
    let s = c.args.s.now in
    let p = take (l.end - 0) s in
    lower s p l.end refl (omega arith) l.invariant.0 _ _ (sym c.in-Some.is ∙ c.read_section.ensures)

pub loop-end-preserved : goal.loop-end-preserved
loop-end-preserved c =
    let l = c.loop-end in
    let a = c.args in
    let s = a.s.now in
    let p = take (l.end - 0) s in
    let read = sym c.in-Some.is ∙ c.read_section.ensures in
    let less = lower s p l.end refl (omega arith) l.invariant.0 _ _ read in (
      omega (arith, less),
      (
        chain_on s p l.end refl (omega arith) l.invariant.0 _ _ read ∙ l.invariant.1.0,
        told_on s p l.end refl (omega arith) l.invariant.0 _ _ read a.address l.known _ c.noted_all.ensures ∙ l.invariant.1.1,
      ),
    )

pub returns : goal.returns
returns c =
    let l = c.loop-end in
    let a = c.args in
    let s = a.s.now in (
      all_sections s l.end (omega arith) l.invariant.1.0,
      λ h. all_told s l.end (omega arith) l.invariant.1.0 a.address l.known ∙ l.invariant.1.1,
    )
