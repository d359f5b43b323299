-- `r82xx::Tuner::operate` meets its contract. Each return is one law of the definition, with what the calls before it ensure. Assumes nothing.
use mathlib.Core.Path.{refl, sym, ap, ◌∙◌}
use native.Mathlib.Omega.{arith}
use Prim.Native.Nat.{◌+◌}
use Rattle.r82xx.specs.Record.{ended_by, sound}
use Rattle.chip.proofs.Refusals.{taken_by}
use Rattle.r82xx.proofs.Whole.{bracket_eight, perform_by, refuse_by, same_ended}
use lib.ListN.{length}
use Rattle.chip.specs.InCode.{Logged, in_room}
use Rattle.chip.specs.Steps.{Line, run, while_open, updates}
use Rattle.r82xx.specs.Orders.{bracket}
use Rattle.chip.specs.Courses.{left_by}
use Rattle.r82xx.proofs.Tuner.operate.Goals as goal

pub returns-then-number-ne0 : goal.returns-then-number-ne0
unfolding left_by bracket
returns-then-number-ne0 c = c.refused.ensures _ ∙ refuse_by _ _ _ _ _ _ _ _ _ c.refusal-number.ensures c.if-number-ne0.true

pub with_repeater-f-requires : goal.with_repeater-f-requires
with_repeater-f-requires c =
    let args = c.args in
    let pre = c.requires in
    let z =
    taken_by (sound args.self) 0 (length args.us.now + 2) 0 (length args.room.now) (length args.outcomes.now) 0
    (sym c.refusal-number.ensures ∙ c.if-number-ne0.false) in
    let one = z.lent.rooms in let two = z.lent.outs in (omega (arith, pre.0), pre.1, omega arith, omega arith)

pub ended-requires : goal.ended-requires
ended-requires c =
    let with-repeater = c.with_repeater-f in
    let args = c.args in
    let z =
    taken_by (sound args.self) 0 (length args.us.now + 2) 0 (length args.room.now) (length args.outcomes.now) 0
    (sym c.refusal-number.ensures ∙ c.if-number-ne0.false) in
    let one = z.lent.rooms in
    let two = z.lent.outs in (omega (arith, c.requires.0, with-repeater.ensures.bounds), omega (arith, with-repeater.ensures.bounds, with-repeater.auto))

pub returns : goal.returns
unfolding left_by bracket
returns c =
    let with-repeater = c.with_repeater-f in
    let args = c.args in
    let us = args.us.now in
    let next = args.next in
    c.ended.ensures
    ∙ perform_by _ _ _ _ (while_open (updates us)) _ _ (λ (w : Line Logged). ended_by next next w.progress w.chip) _ _ _ with-repeater.result _ _ _
    c.refusal-number.ensures c.if-number-ne0.false (bracket_eight us) (with-repeater.ensures.room_after ∙ ap (run in_room _ (while_open (updates us))) (c.start-start.ensures.begun _)) refl refl
    (same_ended next with-repeater.result.log.progress with-repeater.result.chip) refl
