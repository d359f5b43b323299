-- `r82xx::Tuner::reload` meets its contract. Each return is one law of the definition, with what the calls before it ensure. Assumes nothing.
use Rattle.r82xx.specs.Record.{sound, with_chip}
use Rattle.r82xx.proofs.Whole.{perform_by, refuse_by, send_eight}
use Rattle.writes.specs.Programs.{send_all}
use mathlib.Core.Path.{refl, sym, ap, ◌∙◌}
use native.Mathlib.Omega.{arith}
use Rattle.chip.proofs.Refusals.{taken_by}
use lib.ListN.{length}
use Rattle.chip.specs.InCode.{Logged, in_room}
use Rattle.chip.specs.Steps.{Line, run}
use Rattle.r82xx.specs.Orders.{result_of}
use Rattle.chip.specs.Courses.{left_by}
use Rattle.r82xx.proofs.Tuner.reload.Goals as goal

pub returns-then-number-ne0 : goal.returns-then-number-ne0
unfolding result_of left_by
returns-then-number-ne0 c = c.refused.ensures _ ∙ refuse_by _ _ _ _ _ _ _ _ _ c.refusal-number.ensures c.if-number-ne0.true

pub send_all-sent-requires : goal.send_all-sent-requires
send_all-sent-requires c =
    let args = c.args in
    let z =
    taken_by (sound args.self) 0 9 0 (length args.room.now) (length args.outcomes.now) 0
    (sym c.refusal-number.ensures ∙ c.if-number-ne0.false) in
    let one = z.lent.rooms in let two = z.lent.outs in (omega arith, omega arith)

pub ended-requires : goal.ended-requires
ended-requires c =
    let send-all = c.send_all-sent in
    let args = c.args in
    let z =
    taken_by (sound args.self) 0 9 0 (length args.room.now) (length args.outcomes.now) 0
    (sym c.refusal-number.ensures ∙ c.if-number-ne0.false) in
    let one = z.lent.rooms in let two = z.lent.outs in (omega (arith, send-all.ensures.bounds), omega (arith, send-all.ensures.bounds, send-all.auto))

pub returns : goal.returns
unfolding result_of left_by
returns c =
    let send-all = c.send_all-sent in
    let args = c.args in
    let shadow = args.self.chip.shadow in
    c.ended.ensures
    ∙ perform_by _ _ _ _ (send_all shadow) _ _ (λ (w : Line Logged). with_chip args.self w.chip) _ _ _ send-all.result _ _ _ c.refusal-number.ensures
    c.if-number-ne0.false (send_eight shadow) (send-all.ensures.room_after ∙ ap (run in_room _ (send_all shadow)) (c.start.ensures.begun _)) refl refl refl refl
