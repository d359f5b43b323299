-- `layout::cut` meets its contract. Assumes nothing.
use Rattle.replay.proofs.Parts.{cut_back, cut_past, cut_in}
use Rattle.replay.proofs.layout.cut.Goals as goal

pub returns-then-to-from : goal.returns-then-to-from
returns-then-to-from c = cut_back c.args.c.now _ _ c.if-to-from.true

pub returns-then-c-to : goal.returns-then-c-to
returns-then-c-to c =
    cut_past c.args.c.now _ _ c.if-to-from.false c.if-c-to.true

pub returns : goal.returns
returns c =
    cut_in c.args.c.now _ _ c.if-to-from.false c.if-c-to.false
