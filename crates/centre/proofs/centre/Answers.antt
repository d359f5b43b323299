-- `centre::centre` meets its contract: the oscillator by the tuner's record, the plan by the driver's frequency. Assumes nothing.
use mathlib.Core.Path.{◌∙◌}
use Rattle.centre.specs.Centre.{centre_by, centre_of}
use Rattle.centre.proofs.centre.Goals as goal

pub returns : goal.returns
unfolding centre_of
returns c =
    let a = c.args in
    c.by_plan.ensures
    ∙ (λ i. centre_by (c.oscillator-told.ensures i) (c.plan_by_table-planned.ensures i) a.tuner.ifreq a.driver.frequency)
