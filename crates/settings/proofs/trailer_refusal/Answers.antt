-- `settings::trailer_refusal` meets its contract: at each `return` the tests that led there say what the trailer is.
-- Assumes nothing.
use mathlib.Core.Bool.{true, false}
use Rattle.settings.proofs.Laws.{by_trailer, other_edition, too_short}
use Rattle.settings.proofs.trailer_refusal.Goals as goal

pub returns-then-n-lt4 : goal.returns-then-n-lt4
returns-then-n-lt4 c =
    let args = c.args in
    too_short args.edition args.size args.s.now c.if-n-lt4.true

pub returns-then-s-n : goal.returns-then-s-n
returns-then-s-n c =
    let args = c.args in
    other_edition args.edition args.size args.s.now c.if-n-lt4.false c.if-s-n.true

pub returns-then-s-n-2 : goal.returns-then-s-n-2
returns-then-s-n-2 c =
    let get = c.get-distance in
    let a = c.args in
    by_trailer a.edition a.size a.s.now get.result true c.if-n-lt4.false c.if-s-n.false get.ensures.0 c.if-s-n-2.true

pub returns : goal.returns
returns c =
    let get = c.get-distance in
    let a = c.args in
    by_trailer a.edition a.size a.s.now get.result false c.if-n-lt4.false c.if-s-n.false get.ensures.0 c.if-s-n-2.false
