-- `r82xx::Tuner::set_input_path` meets its contract. Each return is one law of the definition, with what the calls before it ensure. Assumes nothing.
use mathlib.Core.Path.{sym, ap, ◌∙◌}
use native.Mathlib.Omega.{arith}
use lib.ListN.{length}
use Rattle.chip.specs.Steps.{all_in}
use Rattle.writes.proofs.Lists.{path_in, path_two}
use Rattle.r82xx.proofs.Tuned.{path_by, path_none, path_still}
use Rattle.r82xx.specs.Orders.{result_of}
use Rattle.r82xx.proofs.Tuner.set_input_path.Goals as goal

pub returns-in_default : goal.returns-in_default
unfolding result_of
returns-in_default c =
    c.refused.ensures _ ∙ path_none _ _ _ _ _ (sym c.path_of.ensures ∙ c.in_default.is)

pub operate-requires : goal.operate-requires
operate-requires c =
    let us = c.path_updates.ensures in
    (omega (arith, ap length us ∙ path_two c.in-Some.by), ap all_in us ∙ path_in c.in-Some.by)

pub returns-in-R820T : goal.returns-in-R820T
unfolding result_of
returns-in-R820T c =
    path_still _ _ _ _ _ _ _ (sym c.path_of.ensures ∙ c.in-Some.is) c.in-R820T.is c.sound_answer.ensures

pub returns-in-R828D : goal.returns-in-R828D
unfolding result_of
returns-in-R828D c =
    let a = c.args in
    path_by _ _ _ _ a.outcomes.now a.self a.room.now _ (sym c.path_of.ensures ∙ c.in-Some.is)
    c.in-R828D.is c.path_updates.ensures c.operate.ensures
