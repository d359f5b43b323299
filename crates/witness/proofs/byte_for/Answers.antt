-- `witness::byte_for` meets its contract.
-- Assumes nothing.
use mathlib.Core.Path.{sym, ◌∙◌}
use native.Mathlib.Omega.{arith}
use Rattle.witness.proofs.Slots.{reached}
use Rattle.witness.proofs.byte_for.Goals as goal

pub overflow_sub-result : goal.overflow_sub-result
overflow_sub-result c =
    let there = reached c.args.e c.args.register (sym c.requires.1 ∙ c.if-named.true) in
    omega (arith, there.0)

pub bounds-bytes-register : goal.bounds-bytes-register
bounds-bytes-register c =
    let there = reached c.args.e c.args.register (sym c.requires.1 ∙ c.if-named.true) in
    omega (arith, there.0, there.1, c.requires.0)
