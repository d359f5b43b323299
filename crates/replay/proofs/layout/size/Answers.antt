-- `layout::size` meets its contract, part by part. Assumes nothing.
use Rattle.replay.proofs.Parts.{size_5, size_6, size_7, size_8, size_else}
use Rattle.std.proofs.Common.{rules}
use Rattle.replay.proofs.layout.size.Goals as goal

pub returns-then-k-eq-SECTION : goal.returns-then-k-eq-SECTION
returns-then-k-eq-SECTION c =
    let two = c.two in
    (size_5 c.args.c.now _ two.result _ c.if-k-eq-SECTION.true two.ensures.0 c.flag.ensures.0, search rules)

pub returns-then-k-eq-NEXT_TUNER : goal.returns-then-k-eq-NEXT_TUNER
returns-then-k-eq-NEXT_TUNER c =
    (size_6 c.args.c.now _ _ c.if-k-eq-NEXT_TUNER.true c.flag-then-k-eq-NEXT_TUNER.ensures.0, search rules)

pub returns-then-k-eq-NEXT_DRIVER : goal.returns-then-k-eq-NEXT_DRIVER
returns-then-k-eq-NEXT_DRIVER c =
    (size_7 c.args.c.now _ _ c.if-k-eq-NEXT_DRIVER.true c.flag-then-k-eq-NEXT_DRIVER.ensures.0, search rules)

pub returns-then-k-eq-ANSWERED : goal.returns-then-k-eq-ANSWERED
returns-then-k-eq-ANSWERED c =
    (size_8 c.args.c.now _ _ c.if-k-eq-ANSWERED.true c.two-then-k-eq-ANSWERED.ensures.0, search rules)

pub returns : goal.returns
returns c =
    (size_else c.args.c.now _ _ c.if-k-eq-SECTION.false c.if-k-eq-NEXT_TUNER.false c.if-k-eq-NEXT_DRIVER.false c.if-k-eq-ANSWERED.false c.two-2.ensures.0, search rules)
