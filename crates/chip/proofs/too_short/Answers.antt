-- `chip::too_short` meets its contract. Each return is one law of the definition, with what the calls before it ensure. Assumes nothing.
use Rattle.std.proofs.Common.{le-ltb, lt-ltb}
use Rattle.chip.specs.Calls.{too_short}
use Rattle.chip.proofs.too_short.Goals as goal

pub returns-then-room-n : goal.returns-then-room-n
unfolding too_short
returns-then-room-n c = simp (lt-ltb _ _ c.if-room-n.true)

pub returns-then-outcomes-n : goal.returns-then-outcomes-n
unfolding too_short
returns-then-outcomes-n c = simp (le-ltb _ _ c.if-room-n.false, lt-ltb _ _ c.if-outcomes-n.true)

pub returns-then-replies-m : goal.returns-then-replies-m
unfolding too_short
returns-then-replies-m c = simp (le-ltb _ _ c.if-room-n.false, le-ltb _ _ c.if-outcomes-n.false, lt-ltb _ _ c.if-replies-m.true)

pub returns : goal.returns
unfolding too_short
returns c = simp (le-ltb _ _ c.if-room-n.false, le-ltb _ _ c.if-outcomes-n.false, le-ltb _ _ c.if-replies-m.false)
