-- `packets::value_of` meets its contract: each return is one case of the value.
-- Assumes nothing.
use mathlib.Core.Path.{sym, ◌∙◌}
use Rattle.packets.proofs.Written.{value_demod, value_i2c, value_block}
use borrow.Author.Rules.{rules}
use Rattle.packets.proofs.value_of.Goals as goal

pub returns-then-is_demod : goal.returns-then-is_demod
returns-then-is_demod c =
    (value_demod c.args.e (sym c.is_demod.ensures ∙ c.if-is_demod.true), search rules)

pub returns-then-e : goal.returns-then-e
returns-then-e c = (
  value_i2c c.args.e (sym c.is_demod.ensures ∙ c.if-is_demod.false) c.if-e.true,
  search rules,
)

pub returns : goal.returns
returns c =
    (value_block c.args.e (sym c.is_demod.ensures ∙ c.if-is_demod.false) c.if-e.false, search rules)
