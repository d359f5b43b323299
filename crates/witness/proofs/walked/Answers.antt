-- `witness::walked` meets its contract. The loop's invariant: what stands before `end` is sections end to end exactly where the slice is, and its entries, over what is gathered by then, are all entries over nothing.
-- Assumes nothing.
use Prim.Native.Nat.{◌-◌}
use mathlib.Core.Path.{refl, sym, ◌∙◌}
use native.Mathlib.Omega.{arith}
use lib.ListN.{take}
use Rattle.restoring.proofs.Backward.{all_sections, all_turned, chain_on, few, fit, lower, not_both, refused, stopped, turned, within}
use Rattle.witness.specs.Walk.{seen_all}
use Rattle.witness.proofs.Gathered.{all_both, all_empty}
use Rattle.witness.proofs.walked.Goals as goal

pub returns-in_default : goal.returns-in_default
returns-in_default c =
    let l = c.loop-end in
    let s = c.args.s.now in
    let bad =
    stopped s (take (l.end - 0) s) l.end refl (omega arith) l.invariant.0 l.invariant.1.0
    (sym c.in_default.is ∙ c.read_section.ensures) in
    (refused s bad, not_both s bad)

pub heard_all-requires : goal.heard_all-requires
heard_all-requires c =
    let l = c.loop-end in
    let a = c.args in
    let s = a.s.now in
    let p = take (l.end - 0) s in
    let read = sym c.in-Some.is ∙ c.read_section.ensures in (
      few s p l.end refl (omega arith) l.invariant.0 _ _ read,
      within s p l.end refl (omega arith) l.invariant.0 _ _ read,
      fit s p l.end refl (omega arith) l.invariant.0 _ _ read,
    )

pub loop-end-smaller : goal.loop-end-smaller
loop-end-smaller c =
    let l = c.loop-end in
    let a = c.args in
    let s = a.s.now in
    let p = take (l.end - 0) s in
    let read = sym c.in-Some.is ∙ c.read_section.ensures in
    lower s p l.end refl (omega arith) l.invariant.0 _ _ read

pub loop-end-preserved : goal.loop-end-preserved
loop-end-preserved c =
    let l = c.loop-end in
    let a = c.args in
    let s = a.s.now in
    let p = take (l.end - 0) s in
    let read = sym c.in-Some.is ∙ c.read_section.ensures in
    let less = lower s p l.end refl (omega arith) l.invariant.0 _ _ read in (
      omega (arith, less),
      (
        chain_on s p l.end refl (omega arith) l.invariant.0 _ _ read ∙ l.invariant.1.0,
        turned s p l.end refl (omega arith) l.invariant.0 _ _ read (seen_all a.address) l.seen _ (all_both a.address) c.heard_all.ensures
            ∙ l.invariant.1.1,
      ),
    )

pub returns : goal.returns
returns c =
    let l = c.loop-end in
    let a = c.args in
    let s = a.s.now in (
      all_sections s l.end (omega arith) l.invariant.1.0,
      λ h. all_turned s l.end (omega arith) l.invariant.1.0 (seen_all a.address) l.seen (all_empty a.address l.seen) ∙ l.invariant.1.1,
    )
