-- `packets::index_of` meets its contract: each return is one case of the index.
-- Assumes nothing.
use mathlib.Core.Path.{sym, ◌∙◌}
use native.Mathlib.Omega.{arith}
use Rattle.packets.proofs.Written.{index_demod, index_i2c, index_block}
use Rattle.packets.proofs.index_of.Goals as goal

pub returns-then-is_demod : goal.returns-then-is_demod
returns-then-is_demod c =
    let write-bit = c.write_bit-write in
    let e = c.args.e in (
      rw write-bit.ensures.0 (index_demod e (sym c.is_demod.ensures ∙ c.if-is_demod.true)),
      omega (arith, write-bit.ensures.1),
    )

pub returns-then-e : goal.returns-then-e
returns-then-e c =
    let write-bit = c.write_bit-write in
    let e = c.args.e in
    (rw write-bit.ensures.0 (index_i2c e (sym c.is_demod.ensures ∙ c.if-is_demod.false) c.if-e.true), omega (arith, write-bit.ensures.1))

pub returns : goal.returns
returns c =
    let write-bit = c.write_bit-write in
    let e = c.args.e in (
      rw write-bit.ensures.0 (index_block e (sym c.is_demod.ensures ∙ c.if-is_demod.false) c.if-e.false),
      omega (arith, write-bit.ensures.1),
    )
