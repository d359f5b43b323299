-- `expansion::counted` meets its contract. The loop's invariant: the entries so far and those of the bytes left make the whole, and all are heard if those left are.
-- Assumes nothing.
use mathlib.Core.Path.{refl, sym, ◌∙◌}
use native.Mathlib.Omega.{arith}
use lib.ListN.{drop}
use Rattle.expansion.proofs.Hearing.{ended, refused, stray, too_many, turn, unheard}
use Rattle.expansion.proofs.counted.Goals as goal

pub returns-then-i-eq4096 : goal.returns-then-i-eq4096
returns-then-i-eq4096 c =
    let l = c.loop-at in
    let b = c.args.b.now in
    refused b l.at l.i l.invariant.2 (too_many b l.at l.i (omega arith) (omega arith))

pub returns-in_err-h : goal.returns-in_err-h
returns-in_err-h c =
    let l = c.loop-at in
    let b = c.args.b.now in
    c.from_residual.ensures
    ∙ refused b l.at l.i l.invariant.2 (stray b l.at l.i (omega arith) (omega arith) (unheard (drop l.at b) (sym c.in_err-h.was ∙ c.hear.ensures)))

pub overflow_add-at : goal.overflow_add-at
overflow_add-at c =
    let l = c.loop-at in
    let t = turn c.args.b.now l.at l.i c.in_ok-h.h (sym c.in_ok-h.was ∙ c.hear.ensures) (omega arith) in
    record { fits = omega (arith, t.within) }

pub loop-at-smaller : goal.loop-at-smaller
loop-at-smaller c =
    let l = c.loop-at in
    let t = turn c.args.b.now l.at l.i c.in_ok-h.h (sym c.in_ok-h.was ∙ c.hear.ensures) (omega arith) in
    omega (arith, t.eight, t.within)

pub loop-at-preserved : goal.loop-at-preserved
loop-at-preserved c =
    let l = c.loop-at in
    let t = turn c.args.b.now l.at l.i c.in_ok-h.h (sym c.in_ok-h.was ∙ c.hear.ensures) (omega arith) in
    (omega (arith, t.less), t.within, t.all ∙ l.invariant.2, t.count ∙ l.invariant.3)

pub returns : goal.returns
returns c =
    let l = c.loop-at in
    ended c.args.b.now l.at l.i (omega arith) l.invariant.2 l.invariant.3
