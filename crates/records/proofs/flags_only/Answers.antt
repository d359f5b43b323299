-- `records::flags_only` meets its contract. The loop's invariant: `ok`, and whether the bytes from i on are flags, say it for all.
-- Assumes nothing.
use mathlib.Core.Path.{refl, ap, ◌∙◌}
use native.Mathlib.Omega.{arith}
use borrow.Author.Rules.{rules}
use Rattle.records.specs.Fields.{flags_only}
use Rattle.records.proofs.Turns.{flags_turn, flags_end}
use Rattle.records.proofs.flags_only.Goals as goal

pub loop-i-init : goal.loop-i-init
loop-i-init c = (search rules, refl)

pub loop-i-preserved : goal.loop-i-preserved
loop-i-preserved c =
    let loop = c.loop-i in
    (loop.invariant.0, flags_turn loop.ok c.bytes_at-image.result loop.i (omega arith) ∙ loop.invariant.1)

pub returns : goal.returns
returns c =
    let loop = c.loop-i in
    let bytes-at = c.bytes_at-image in
    flags_end loop.ok bytes-at.result loop.i (omega arith) ∙ loop.invariant.1 ∙ ap flags_only bytes-at.ensures
