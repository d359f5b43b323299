-- `records::flags_at` meets its contract. The loop's invariant: storing the flags that are left gives all of them.
-- Assumes nothing.
use mathlib.Core.Path.{refl, ap, ◌∙◌}
use native.Mathlib.Omega.{arith}
use mathlib.Core.Bool.{false}
use lib.ListN.{replicate}
use borrow.Author.Rules.{rules}
use mathlib.Core.List.{map}
use Rattle.records.specs.Fields.{flag_read}
use Rattle.records.proofs.Turns.{store_turn, store_start, store_end}
use Rattle.records.proofs.flags_at.Goals as goal

pub loop-i-init : goal.loop-i-init
loop-i-init c =
    (search rules, (refl, store_start flag_read (replicate 27 false) c.bytes_at-image.result (search rules)))

pub loop-i-preserved : goal.loop-i-preserved
loop-i-preserved c =
    let loop = c.loop-i in
    (loop.invariant.0, (search rules, store_turn flag_read loop.flags loop.i c.bytes_at-image.result 0 (omega arith) ∙ loop.invariant.1.1))

pub returns : goal.returns
returns c =
    let loop = c.loop-i in
    let bytes-at = c.bytes_at-image in
    store_end flag_read loop.flags loop.i bytes-at.result (omega arith) ∙ loop.invariant.1.1 ∙ ap (map flag_read) bytes-at.ensures
