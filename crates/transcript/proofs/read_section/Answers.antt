-- `transcript::read_section` meets its contract: at each `return` the tests that led there say which case of `section_of` holds.
-- Assumes nothing.
use Rattle.transcript.proofs.Reading.{too_short, too_many, too_far, no_room, unfit, settled}
use Rattle.transcript.proofs.read_section.Goals as goal

pub returns-then-n-lt8 : goal.returns-then-n-lt8
returns-then-n-lt8 c = too_short c.args.s.now c.if-n-lt8.true

pub returns-then-count-gt4096 : goal.returns-then-count-gt4096
returns-then-count-gt4096 c =
    let s = c.args.s.now in
    let k = c.four-count in
    let d = c.four-distance in
    too_many s k.result d.result c.if-n-lt8.false k.ensures d.ensures c.if-count-gt4096.true

pub returns-then-distance-count : goal.returns-then-distance-count
returns-then-distance-count c =
    let s = c.args.s.now in
    let k = c.four-count in
    let d = c.four-distance in
    too_far s k.result d.result c.if-n-lt8.false k.ensures d.ensures c.if-count-gt4096.false c.if-distance-count.true

pub returns-then-trailer-distance : goal.returns-then-trailer-distance
returns-then-trailer-distance c =
    let s = c.args.s.now in
    let k = c.four-count in
    let d = c.four-distance in
    no_room s k.result d.result c.if-n-lt8.false k.ensures d.ensures c.if-count-gt4096.false c.if-distance-count.false c.if-trailer-distance.true

pub returns-then-all_fit : goal.returns-then-all_fit
returns-then-all_fit c =
    let s = c.args.s.now in
    let k = c.four-count in
    let d = c.four-distance in
    let a = c.all_fit in
    settled s k.result d.result c.if-n-lt8.false k.ensures d.ensures
    a.result a.ensures c.if-distance-count.false c.if-count-gt4096.false c.if-trailer-distance.false c.if-all_fit.true

pub returns-else-all_fit : goal.returns-else-all_fit
returns-else-all_fit c =
    let s = c.args.s.now in
    let k = c.four-count in
    let d = c.four-distance in
    let a = c.all_fit in
    unfit s k.result d.result c.if-n-lt8.false k.ensures d.ensures
    a.result a.ensures c.if-distance-count.false c.if-all_fit.false
