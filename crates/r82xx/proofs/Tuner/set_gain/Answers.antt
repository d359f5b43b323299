-- `r82xx::Tuner::set_gain` meets its contract: the chosen step is an index that no clamping changes. Assumes nothing.
use Rattle.r82xx.proofs.Tuned.{at_step, chosen_step}
use Rattle.gain.specs.Steps.{chosen_of}
use Rattle.r82xx.specs.Orders.{result_of}
use Rattle.r82xx.proofs.Tuner.set_gain.Goals as goal

pub returns : goal.returns
unfolding result_of
returns c =
    let a = c.args in
    at_step a.outcomes.now _ (chosen_of a.db) a.self a.room.now _ (chosen_step _ _ c.choose.ensures)
    c.set_gain_by_index.ensures
