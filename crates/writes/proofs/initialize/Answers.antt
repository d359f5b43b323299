-- `writes::initialize` meets its contract. Each return is one law of the definition, with what the calls before it ensure. Assumes nothing.
use mathlib.Core.Path.{ap, ◌∙◌}
use native.Mathlib.Omega.{arith}
use lib.ListN.{length}
use Rattle.chip.specs.InCode.{in_room}
use Rattle.chip.specs.Steps.{all_in, while_open, updates}
use mathlib.Core.List.{List, ◌++◌}
use Rattle.chip.specs.declared.Update.{Update}
use Rattle.writes.specs.Lists.{if_updates, init_array, init_updates}
use Rattle.writes.specs.Programs.{send_all}
use Rattle.chip.proofs.Laws.{by_program, then}
use Rattle.writes.proofs.Lists.{if_in, init_in}
use Rattle.writes.proofs.initialize.Goals as goal

pub with_repeater-set-requires : goal.with_repeater-set-requires
with_repeater-set-requires c =
    let us = c.init_updates.ensures in
    (omega (arith, ap length us), ap all_in us ∙ init_in, omega (arith, ap length us, c.send_all-sent.ensures.bounds), omega (arith, ap length us, c.send_all-sent.ensures.bounds))

pub with_repeater-requires : goal.with_repeater-requires
with_repeater-requires c =
    let us = c.init_updates.ensures in
    let vs = c.if_updates.ensures in
    (omega (arith, ap length vs), ap all_in vs ∙ if_in 2_300_000, omega (arith, ap length us, ap length vs), omega (arith, ap length us, ap length vs))

pub returns-clause-room_after : goal.returns-clause-room_after
returns-clause-room_after c =
    let opened = λ (us : List Update). while_open (updates us) in
    then in_room _ (send_all init_array) (opened init_updates ++ opened (if_updates 2_300_000)) _ _ _ c.send_all-sent.ensures.room_after
    (then in_room _ (opened init_updates) (opened (if_updates 2_300_000)) _ _ _
    (by_program in_room _ _ _ _ _ (ap opened c.init_updates.ensures) c.with_repeater-set.ensures.room_after)
    (by_program in_room _ _ _ _ _ (ap opened c.if_updates.ensures) c.with_repeater.ensures.room_after))
