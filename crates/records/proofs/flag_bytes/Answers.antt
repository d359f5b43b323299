-- `records::flag_bytes` meets its contract. The loop's invariant: storing the bytes that are left gives all of them.
-- Assumes nothing.
use Prim.Native.Nat.{◌+◌}
use mathlib.Core.Path.{refl, ap, ◌∙◌}
use native.Mathlib.Omega.{arith}
use mathlib.Core.Bool.{false}
use lib.ListN.{drop, replicate, set}
use borrow.Author.Rules.{rules}
use mathlib.Core.List.{map}
use lib.Seq.{sets}
use Rattle.records.specs.Fields.{flag_byte}
use Rattle.records.proofs.Turns.{store_turn, store_start, store_end}
use Rattle.records.proofs.flag_bytes.Goals as goal

pub loop-i-init : goal.loop-i-init
loop-i-init c =
    (search rules, (refl, store_start flag_byte (replicate 27 0) c.args.flags (search rules)))

pub loop-i-preserved : goal.loop-i-preserved
loop-i-preserved c =
    let loop = c.loop-i in
    (loop.invariant.0, (search rules, store_turn flag_byte loop.image loop.i c.args.flags false (omega arith) ∙ loop.invariant.1.1))

pub returns : goal.returns
returns c =
    let loop = c.loop-i in
    store_end flag_byte loop.image loop.i c.args.flags (omega arith) ∙ loop.invariant.1.1
