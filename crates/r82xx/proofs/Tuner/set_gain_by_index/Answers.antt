-- `r82xx::Tuner::set_gain_by_index` meets its contract. Each return is one law of the definition, with what the calls before it ensure. Assumes nothing.
use mathlib.Core.Path.{refl, sym, ap, ◌∙◌}
use native.Mathlib.Omega.{arith}
use lib.ListN.{length}
use Rattle.chip.specs.InCode.{Logged, in_room}
use Rattle.chip.specs.Steps.{Line, run, while_open, updates}
use Rattle.writes.specs.Lists.{gain_updates}
use Rattle.r82xx.specs.Record.{ended_by, sound, with_gain}
use Rattle.chip.proofs.Refusals.{taken_by}
use Rattle.r82xx.proofs.Tuned.{at_step}
use Rattle.r82xx.proofs.Whole.{bracket_eight, gain_kept, perform_by, step_by, step_refused}
use Rattle.r82xx.specs.Orders.{bracket, result_of}
use Rattle.chip.specs.Courses.{left_by}
use Rattle.r82xx.proofs.Tuner.set_gain_by_index.Goals as goal

pub returns-then-number-ne0 : goal.returns-then-number-ne0
unfolding result_of
returns-then-number-ne0 c = c.refused.ensures _ ∙ step_refused _ _ _ _ _ c.refusal-number.ensures c.if-number-ne0.true

pub gain_steps-f-requires : goal.gain_steps-f-requires
gain_steps-f-requires c =
    let args = c.args in
    let z =
    taken_by (sound args.self) 0 7 0 (length args.room.now) (length args.outcomes.now) 0
    (sym c.refusal-number.ensures ∙ c.if-number-ne0.false) in
    let one = z.lent.rooms in let two = z.lent.outs in (omega (arith, c.choose_index-k.ensures), omega arith, omega arith)

pub ended-requires : goal.ended-requires
ended-requires c =
    let gain-steps = c.gain_steps-f in
    let args = c.args in
    let z =
    taken_by (sound args.self) 0 7 0 (length args.room.now) (length args.outcomes.now) 0
    (sym c.refusal-number.ensures ∙ c.if-number-ne0.false) in
    let one = z.lent.rooms in let two = z.lent.outs in (omega (arith, gain-steps.ensures.bounds), omega (arith, gain-steps.ensures.bounds, gain-steps.auto))

pub returns : goal.returns
unfolding result_of left_by bracket
returns c =
    let gain-steps = c.gain_steps-f in
    let gain-at = c.gain_at-actual in
    let actual = gain-at.result in
    let choose-index = c.choose_index-k in
    let k = choose-index.result in
    let args = c.args in
    let t = args.self in
    at_step _ _ _ _ _ _ choose-index.ensures
    (step_by k _ _ (gain_updates k) args.outcomes.now t args.room.now _ refl gain-at.ensures c.bits_of-bits.ensures
    (c.ended.ensures
    ∙ perform_by _ _ _ _ (while_open (updates (gain_updates k))) _ _ (λ (w : Line Logged). ended_by t (with_gain t actual) w.progress w.chip) _ _ _
    gain-steps.result _ _ _ c.refusal-number.ensures c.if-number-ne0.false (bracket_eight (gain_updates k)) (gain-steps.ensures.room_after ∙ ap (run in_room _ (while_open (updates (gain_updates k)))) (c.start.ensures.begun _)) refl
    refl (gain_kept t actual c.kept_gain.result gain-steps.result.log.progress gain-steps.result.chip c.kept_gain.ensures)
    refl))
