-- `r82xx::Tuner::initialize` meets its contract. Each return is one law of the definition, with what the calls before it ensure. Assumes nothing.
use Rattle.r82xx.specs.Record.{sound, with_chip}
use Rattle.r82xx.proofs.Whole.{init_eight, perform_by, refuse_by}
use Rattle.writes.specs.Programs.{init_steps}
use mathlib.Core.Path.{refl, sym, ap, ◌∙◌}
use native.Mathlib.Omega.{arith}
use Rattle.chip.proofs.Refusals.{taken_by}
use lib.ListN.{length}
use Rattle.chip.specs.InCode.{Logged, in_room}
use Rattle.chip.specs.Steps.{Line, run}
use Rattle.r82xx.specs.Orders.{result_of}
use Rattle.chip.specs.Courses.{left_by}
use Rattle.r82xx.proofs.Tuner.initialize.Goals as goal

pub returns-then-number-ne0 : goal.returns-then-number-ne0
unfolding result_of left_by
returns-then-number-ne0 c = c.refused.ensures _ ∙ refuse_by _ _ _ _ _ _ _ _ _ c.refusal-number.ensures c.if-number-ne0.true

pub initialize-f-requires : goal.initialize-f-requires
initialize-f-requires c =
    let args = c.args in
    let z =
    taken_by (sound args.self) 0 19 0 (length args.room.now) (length args.outcomes.now) 0
    (sym c.refusal-number.ensures ∙ c.if-number-ne0.false) in
    let one = z.lent.rooms in let two = z.lent.outs in (omega arith, omega arith)

pub ended-requires : goal.ended-requires
ended-requires c =
    let initialize = c.initialize-f in
    let args = c.args in
    let z =
    taken_by (sound args.self) 0 19 0 (length args.room.now) (length args.outcomes.now) 0
    (sym c.refusal-number.ensures ∙ c.if-number-ne0.false) in
    let one = z.lent.rooms in let two = z.lent.outs in (omega (arith, initialize.ensures.bounds), omega (arith, initialize.ensures.bounds, initialize.auto))

pub returns : goal.returns
unfolding result_of left_by
returns c =
    let initialize = c.initialize-f in
    c.ended.ensures
    ∙ perform_by _ _ _ _ init_steps _ _ (λ (w : Line Logged). with_chip c.args.self w.chip) _ _ _ initialize.result _ _ _
    c.refusal-number.ensures c.if-number-ne0.false init_eight (initialize.ensures.room_after ∙ ap (run in_room _ init_steps) (c.start.ensures.begun _)) refl refl refl refl
