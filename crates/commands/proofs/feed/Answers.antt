use mathlib.Core.Path.{◌≡◌}
use native.Mathlib.Omega.{arith}
use lib.ListN.{length}
use borrow.Author.Tests.{not-false, not-true}
use Rattle.commands.proofs.Overs.{completes, nine, not_fed, waits}
use borrow.Author.Rules.{rules}
use Rattle.commands.proofs.feed.Goals as goal

-- src/lib.rt:252:9
pub returns-in_default : goal.returns-in_default
returns-in_default c =
    let a = c.args in
    not_fed a.table.now a.chunk.now a.replies.now a.outcomes.now a.stream.now a.driver.now a.tuner.now a.room.now
    c.in_default.ensures _ c.refuse.ensures _ c.fed.ensures

-- src/lib.rt:255:5
pub copy-requires : goal.copy-requires
copy-requires c =
    let a = c.args in
    let stream = a.stream.now in
    let n : length stream ≡ 9 =
    nine a.table.now a.chunk.now a.replies.now a.outcomes.now stream a.driver.now a.tuner.now a.room.now _
    c.in-Some.ensures in
    let m : length c.image-image.result ≡ 9 = search rules in omega arith

-- src/lib.rt:258:9
pub returns-then-count-lt-COMMAND : goal.returns-then-count-lt-COMMAND
returns-then-count-lt-COMMAND c =
    let a = c.args in
    rw c.copy.ensures
    (waits a.table.now a.chunk.now a.replies.now a.outcomes.now a.stream.now a.driver.now a.tuner.now a.room.now _
    c.in-Some.ensures c.if-count-lt-COMMAND.true _ c.image-image.ensures _ c.none.ensures _
    c.fed-then-count-lt-COMMAND.ensures)

-- src/lib.rt:237:1
pub returns : goal.returns
returns c =
    let a = c.args in
    rw c.copy.ensures
    (completes a.table.now a.chunk.now a.replies.now a.outcomes.now a.stream.now a.driver.now a.tuner.now a.room.now _
    c.in-Some.ensures c.if-count-lt-COMMAND.false _ c.image-image.ensures _ c.command_of-command.ensures _ _ _
    _ c.run_over-plain.ensures _ c.fed-2.ensures)
