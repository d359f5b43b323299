-- `witness::noted_demod` meets its contract. The loop's invariant: the slots from k on, over what is told by then, are all slots over what was told.
-- Assumes nothing.
use mathlib.Core.Path.{ap, ◌∙◌}
use mathlib.Core.Bool.{Bool, not, ◌&&◌}
use mathlib.Core.List.{[], ◌∷◌}
use native.Mathlib.Omega.{arith}
use lib.Dec.{eqb}
use Rattle.evidence.specs.Demodulator.{demod_settles}
use Rattle.witness.proofs.Slots.{from_end, from_start, from_turn, high_kind, low_kind}
use Rattle.witness.proofs.noted_demod.Goals as goal

pub returns-then-e-lt-DEMOD : goal.returns-then-e-lt-DEMOD
returns-then-e-lt-DEMOD c =
    let a = c.args in
    low_kind a.e a.known.now c.if-e-lt-DEMOD.true

pub returns-then-e-gt-BLOCK16 : goal.returns-then-e-gt-BLOCK16
returns-then-e-gt-BLOCK16 c =
    let a = c.args in
    high_kind a.e a.known.now c.if-e-gt-BLOCK16.true

pub noted_at-requires : goal.noted_at-requires
unfolding demod_settles
noted_at-requires c =
    let e = c.args.e in
    let done = ap (λ (b : Bool). eqb e.outcome 0 && not b && not (eqb e.kind 1)) c.shakes-shaken.ensures in
    ((c.requires, (omega arith, omega arith)), (c.shakes-shaken.ensures, done))

pub loop-k-preserved : goal.loop-k-preserved
loop-k-preserved c =
    let l = c.loop-k in
    from_turn (c.args.e ∷ []) l.known l.k _ (omega arith) (omega arith) c.noted_at.ensures ∙ l.invariant

pub returns : goal.returns
returns c =
    let l = c.loop-k in
    let a = c.args in
    from_end (a.e ∷ []) l.known l.k (omega arith)
    ∙ l.invariant
    ∙ from_start (a.e ∷ []) a.known.now
