-- `restoring::noted_all` meets its contract. The loop's invariant: the first i entries, over what is told by then, are all entries over what was told.
-- Assumes nothing.
use Prim.Native.Nat.{◌-◌}
use mathlib.Core.Path.{◌∙◌}
use native.Mathlib.Omega.{arith}
use Rattle.restoring.proofs.Telling.{entries_end, entry_turn, few}
use Rattle.restoring.proofs.noted_all.Goals as goal

pub noted-requires : goal.noted-requires
noted-requires c =
    let a = c.args in
    few a.s.now a.start a.count (c.loop-i.i - 1) c.get-e.result (omega arith) c.requires.2 c.get-e.ensures

pub loop-i-preserved : goal.loop-i-preserved
loop-i-preserved c =
    let l = c.loop-i in
    let a = c.args in
    entry_turn a.address a.s.now a.start l.i l.known _ c.get-e.result (omega arith) c.get-e.ensures c.noted.ensures ∙ l.invariant

pub returns : goal.returns
returns c =
    let a = c.args in
    entries_end a.address a.s.now a.start c.loop-i.i c.loop-i.known (omega arith) ∙ c.loop-i.invariant
