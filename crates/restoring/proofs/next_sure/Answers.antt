-- `restoring::next_sure` meets its contract. The loop's invariant: the next from here is the next from the start.
-- Assumes nothing.
use Prim.Native.Nat.{◌-◌}
use mathlib.Core.Path.{sym, ◌∙◌}
use native.Mathlib.Omega.{arith}
use Rattle.restoring.specs.Standing.{sure_of}
use Rattle.restoring.proofs.Laying.{sure_found, sure_none, sure_on}
use Rattle.restoring.proofs.next_sure.Goals as goal

pub returns-then-sure : goal.returns-then-sure
returns-then-sure c =
    let l = c.loop-r in
    sure_found (sure_of c.args.known.now) (32 - l.r) l.r (omega arith) (sym c.sure.ensures ∙ c.if-sure.true) ∙ l.invariant

pub loop-r-preserved : goal.loop-r-preserved
loop-r-preserved c =
    let l = c.loop-r in
    sure_on (sure_of c.args.known.now) 32 l.r (omega arith) (sym c.sure.ensures ∙ c.if-sure.false) ∙ l.invariant

pub returns : goal.returns
returns c =
    let l = c.loop-r in
    sure_none (sure_of c.args.known.now) 32 l.r (omega arith) ∙ l.invariant
