-- `r82xx::Tuner::set_bandwidth` meets its contract. Each return is one law of the definition, with what the calls before it ensure. Assumes nothing.
use mathlib.Core.Path.{refl, ap, ◌∙◌}
use native.Mathlib.Omega.{arith}
use lib.ListN.{length}
use Rattle.chip.specs.Steps.{all_in}
use Rattle.writes.specs.Lists.{bandwidth_updates}
use Rattle.writes.proofs.Lists.{bandwidth_in}
use Rattle.r82xx.proofs.Whole.{bracket_by}
use Rattle.r82xx.specs.Orders.{result_of}
use Rattle.refusals.specs.declared.Answer.TheVariants.{Done}
use Rattle.r82xx.proofs.Tuner.set_bandwidth.Goals as goal

pub operate-requires : goal.operate-requires
operate-requires c =
    let us = c.bandwidth_updates-us.ensures in
    (omega (arith, ap length us), ap all_in us ∙ bandwidth_in c.args.hz)

pub returns : goal.returns
unfolding result_of
returns c =
    let a = c.args in
    bracket_by a.self a.self (Done 0) _ (bandwidth_updates a.hz) 1 a.outcomes.now a.self a.room.now _
    c.bandwidth_updates-us.ensures refl c.operate.ensures
