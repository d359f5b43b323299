-- `commands::run_over` meets its contract. Assumes nothing.
use Rattle.std.proofs.Common.{ap, sym, ◌∙◌}
use Rattle.std.specs.Option.{is_none}
use Rattle.commands.proofs.Overs.{driver_size, no_records, tuner_size, unknown_run}
use Rattle.commands.proofs.run_over.Goals as goal

pub returns-in_default : goal.returns-in_default
returns-in_default c =
    let a = c.args in
    unknown_run a.command a.table.now a.replies.now a.outcomes.now a.driver.now a.tuner.now a.room.now
    (ap is_none c.in_default.is) _ c.refuse.ensures

pub returns-then-is_none : goal.returns-then-is_none
returns-then-is_none c =
    let a = c.args in
    no_records a.command a.table.now a.replies.now a.outcomes.now a.driver.now a.tuner.now a.room.now _ c.read_both.ensures
    (ap is_none c.in-Some.is) c.if-is_none.ensures _ c.refuse-then-is_none.ensures

pub unwrap-before-requires : goal.unwrap-before-requires
unwrap-before-requires c =
    let a = c.args in
    c.try_from.ensures.0
    (driver_size a.command a.table.now a.replies.now a.outcomes.now a.driver.now a.tuner.now a.room.now _ c.read_both.ensures c.if-is_none.ensures)

pub unwrap-given-requires : goal.unwrap-given-requires
unwrap-given-requires c =
    let a = c.args in
    c.try_from-2.ensures.0
    (tuner_size a.command a.table.now a.replies.now a.outcomes.now a.driver.now a.tuner.now a.room.now _ c.read_both.ensures c.if-is_none.ensures)
