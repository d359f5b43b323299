-- `packets::became` meets its contract: a repeater entry is turned, any other stays.
-- Assumes nothing.
use lib.ListN.{get_or}
use borrow.Author.Tests.{eq-eqb, ne_eqb}
use Rattle.packets.specs.Packets.{became}
use Rattle.packets.proofs.Written.{stays}
use Rattle.packets.proofs.became.Goals as goal

pub returns-then-e-ne-REPEATER : goal.returns-then-e-ne-REPEATER
returns-then-e-ne-REPEATER c = stays c.args.e c.if-e-ne-REPEATER.true

pub returns-then-e-eq0 : goal.returns-then-e-eq0
unfolding became
returns-then-e-eq0 c =
    let e = c.args.e in
    rw (eq-eqb e.kind 1 c.if-e-ne-REPEATER.false, eq-eqb (get_or e.bytes 0 0) 0 c.if-e-eq0.true)

pub returns-else-e-eq0 : goal.returns-else-e-eq0
unfolding became
returns-else-e-eq0 c =
    let e = c.args.e in
    rw (eq-eqb e.kind 1 c.if-e-ne-REPEATER.false, ne_eqb (get_or e.bytes 0 0) 0 c.if-e-eq0.false)
