-- `r82xx::Tuner::set_if_freq` meets its contract. Each return is one law of the definition, with what the calls before it ensure. Assumes nothing.
use mathlib.Core.Path.{refl, ap, ◌∙◌}
use native.Mathlib.Omega.{arith}
use lib.ListN.{length}
use Rattle.chip.specs.Steps.{all_in}
use Rattle.writes.specs.Lists.{if_updates}
use Rattle.writes.proofs.Lists.{if_in}
use Rattle.r82xx.proofs.Whole.{bracket_by}
use Rattle.r82xx.specs.Orders.{result_of}
use Rattle.refusals.specs.declared.Answer.TheVariants.{Done}
use Rattle.r82xx.specs.Record.{with_if}
use Rattle.r82xx.proofs.Tuner.set_if_freq.Goals as goal

pub operate-requires : goal.operate-requires
operate-requires c =
    let us = c.if_updates-us.ensures in
    (omega (arith, ap length us), ap all_in us ∙ if_in c.args.hz)

pub returns : goal.returns
unfolding result_of
returns c =
    let a = c.args in
    bracket_by (with_if a.self a.hz) (with_if a.self a.hz) (Done 0) _ (if_updates a.hz) 2 a.outcomes.now a.self a.room.now _
    c.if_updates-us.ensures refl c.operate.ensures
