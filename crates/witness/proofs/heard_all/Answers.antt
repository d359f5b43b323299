-- `witness::heard_all` meets its contract. The loop's invariant: the first i entries, over what is gathered by then, are all entries over what was.
-- Assumes nothing.
use Prim.Native.Nat.{◌-◌}
use mathlib.Core.Path.{◌∙◌}
use native.Mathlib.Omega.{arith}
use Rattle.restoring.proofs.Telling.{few, turn_end, turn_on}
use Rattle.witness.specs.Walk.{seen, seen_all}
use Rattle.witness.proofs.Gathered.{all_both, all_empty}
use Rattle.witness.proofs.heard_all.Goals as goal

pub heard-w-requires : goal.heard-w-requires
heard-w-requires c =
    let a = c.args in
    few a.s.now a.start a.count (c.loop-i.i - 1) c.get-e.result (omega arith) c.requires.2 c.get-e.ensures

pub loop-i-preserved : goal.loop-i-preserved
loop-i-preserved c =
    let l = c.loop-i in
    let a = c.args in
    turn_on (seen_all a.address) a.s.now a.start l.i (seen l.seen.chip l.seen.demod l.w) _ c.get-e.result (all_both a.address) (omega arith)
    c.get-e.ensures
    c.heard-w.ensures
    ∙ l.invariant

pub returns : goal.returns
returns c =
    let l = c.loop-i in
    let a = c.args in
    let all = seen l.seen.chip l.seen.demod l.w in
    turn_end (seen_all a.address) a.s.now a.start l.i all (all_empty a.address all) (omega arith) ∙ l.invariant
