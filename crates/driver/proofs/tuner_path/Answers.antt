-- `driver::tuner_path` meets its contract: nothing on R820T, a bracket on R828D. Assumes nothing.
use native.Mathlib.Omega.{arith}
use Rattle.chip.specs.InCode.{in_room}
use Rattle.driver.proofs.Paths.{own_path, still}
use Rattle.chip.proofs.Laws.{by_program}
use mathlib.Core.Path.{ap, ◌∙◌}
use lib.ListN.{length}
use Rattle.chip.specs.Steps.{all_in}
use Rattle.writes.proofs.Lists.{path_in, path_two}
use Rattle.driver.proofs.tuner_path.Goals as goal

pub with_repeater-requires : goal.with_repeater-requires
with_repeater-requires c =
    let path = c.args.path in
    let us = c.path_updates.ensures in
    let two = ap length us ∙ path_two path in
    (omega (arith, two), ap all_in us ∙ path_in path, omega (arith, two), omega (arith, two))

pub returns-in-R820T : goal.returns-in-R820T
returns-in-R820T c =
    record { room_after = still in_room _ _ c.args.path _ c.in-R820T.is; bounds = omega arith }

pub returns-in-R828D : goal.returns-in-R828D
returns-in-R828D c =
    let path = c.args.path in
    let us = c.path_updates.ensures in record {
      room_after = by_program in_room _ _ _ _ _ (own_path _ path _ c.in-R828D.is us) c.with_repeater.ensures.room_after;
      bounds = omega (arith, ap length us ∙ path_two path, c.with_repeater.ensures.bounds);
    }
