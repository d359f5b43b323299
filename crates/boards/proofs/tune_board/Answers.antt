-- `boards::tune_board` meets its contract: the plan by the table, then the tune by the plan. Assumes nothing.
use mathlib.Core.Path.{ap, ◌∙◌}
use Rattle.bands.specs.declared.Planned.{Planned}
use Rattle.boards.specs.Hops.{hop_result, hop_lock_tries}
use Rattle.boards.proofs.tune_board.Goals as goal

pub returns : goal.returns
returns c =
    let tune-planned = c.tune_planned in
    let told = tune-planned.ensures in
    let plan-by-table = c.plan_by_table-planned in
    let by = plan-by-table.ensures in
    let a = c.args in
    let outcomes = a.outcomes.now in
    let replies = a.replies.now in (
      told.0 ∙ ap (λ (p : Planned). hop_result p a.hz replies outcomes a.tuner a.driver a.room.now) by,
      told.1 ∙ ap (λ (p : Planned). hop_lock_tries p a.hz replies outcomes a.tuner a.driver a.room.now) by,
    )
