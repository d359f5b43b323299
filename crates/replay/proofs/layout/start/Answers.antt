-- `layout::start` meets its contract. The loop's invariant: `at` is where part i starts, at most 2 MiB a part. Assumes nothing.
use Rattle.std.proofs.Common.{ap, ◌∙◌, arith, rules}
use Rattle.replay.specs.Agreement.{start_at}
use Rattle.replay.proofs.Parts.{start_none, start_more}
use Rattle.replay.proofs.layout.start.Goals as goal

pub loop-i-init : goal.loop-i-init
loop-i-init c = (search rules, (start_none c.args.c.now, search rules))

pub loop-i-preserved : goal.loop-i-preserved
loop-i-preserved c =
    let loop = c.loop-i in
    (search rules, (start_more c.args.c.now loop.i loop.at c.size-at.result loop.invariant.1.0 c.size-at.ensures.0, omega arith))

pub returns : goal.returns
returns c =
    c.loop-i.invariant.1.0 ∙ ap (start_at c.args.c.now) (omega arith)
