-- `layout::flag` meets its contract. Assumes nothing.
use Rattle.replay.proofs.Parts.{flag_on, flag_off}
use Rattle.std.proofs.Common.{rules}
use Rattle.replay.proofs.layout.flag.Goals as goal

pub returns-then-one-bit-eq1 : goal.returns-then-one-bit-eq1
returns-then-one-bit-eq1 c =
    let one = c.one in
    let args = c.args in
    (flag_on args.c.now args.bit args.n one.result one.ensures.0 c.if-one-bit-eq1.true, search rules)

pub returns : goal.returns
returns c =
    let one = c.one in
    let args = c.args in
    (flag_off args.c.now args.bit args.n one.result one.ensures.0 c.if-one-bit-eq1.false, search rules)
