-- `packets::expands` meets its contract: each return is one case of the definition.
-- Assumes nothing.
use Rattle.packets.specs.Packets.{expands}
use Rattle.packets.proofs.expands.Goals as goal

pub returns-then-is_demod : goal.returns-then-is_demod
unfolding expands
returns-then-is_demod c =
    rw (← c.is_demod.ensures, c.if-is_demod.true)

pub returns-then-e : goal.returns-then-e
unfolding expands
returns-then-e c =
    rw (← c.is_demod.ensures, c.if-is_demod.false, c.if-e.true)

pub returns : goal.returns
unfolding expands
returns c =
    rw (← c.is_demod.ensures, c.if-is_demod.false, c.if-e.false)
