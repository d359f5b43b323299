-- `restoring::run_len` meets its contract. The loop's invariant: what is counted, and the run from there, are the whole run.
-- Assumes nothing.
use mathlib.Core.Path.{◌≡◌, sym, ◌∙◌}
use native.Mathlib.Omega.{arith}
use Rattle.restoring.specs.Standing.{sure_of}
use Rattle.restoring.proofs.Laying.{run_full, run_on, run_stops}
use Rattle.restoring.proofs.run_len.Goals as goal

pub returns-then-not-sure : goal.returns-then-not-sure
returns-then-not-sure c =
    let sure = c.sure in
    let l = c.loop-k in
    let args = c.args in
    run_stops (sure_of args.known.now) args.i l.k (omega arith) (sym sure.ensures ∙ c.if-not-sure.true) ∙ l.invariant.1

pub loop-k-preserved : goal.loop-k-preserved
loop-k-preserved c =
    let sure = c.sure in
    let l = c.loop-k in
    let args = c.args in (
      omega arith,
      run_on (sure_of args.known.now) args.i l.k (omega arith) (sym sure.ensures ∙ c.if-not-sure.false) ∙ l.invariant.1,
    )

pub returns : goal.returns
returns c =
    let l = c.loop-k in
    let args = c.args in
    let all : l.k ≡ 7 = omega arith in
    sym all ∙ run_full (sure_of args.known.now) args.i l.k (omega arith) ∙ l.invariant.1
