-- `Driver::set_sample_rate` meets its contract: the plan by the table, then the rate by the plan. Assumes nothing.
use mathlib.Core.Path.{ap, ◌∙◌}
use Rattle.bands.specs.declared.Planned.{Planned}
use Rattle.driver.specs.Calls.{rate_result}
use Rattle.driver.proofs.Driver.set_sample_rate.Goals as goal

pub returns : goal.returns
returns c =
    let args = c.args in
    c.rate_planned.ensures
    ∙ ap (λ (p : Planned). rate_result args.rate p args.outcomes.now args.tuner args.self args.room.now)
    c.plan_by_table-planned.ensures
