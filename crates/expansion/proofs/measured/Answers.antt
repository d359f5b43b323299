-- `expansion::measured` meets its contract. The loop's invariant: the size so far and that of the entries left make the whole, and all expand if those left do.
-- Assumes nothing.
use Prim.Native.Nat.{◌+◌}
use mathlib.Core.Path.{ap, ◌∙◌}
use mathlib.Core.List.{List}
use native.Mathlib.Omega.{arith}
use lib.ListN.{length}
use Rattle.transcript.specs.declared.Entry.{Entry}
use Rattle.expansion.specs.Expansion.{all_expand, expanded}
use Rattle.expansion.proofs.Turns.{left_all, few, stops, goes, grows, within, refused, ended}
use borrow.Author.Rules.{rules}
use Rattle.expansion.proofs.measured.Goals as goal

pub returns-then-not-expands : goal.returns-then-not-expands
returns-then-not-expands c =
    let expands = c.expands in
    let get = c.get-e in
    let l = c.loop-i in
    let args = c.args in
    refused args.s.now args.start args.count l.i l.invariant.1
    (stops args.s.now args.start args.count l.i (omega arith) get.result get.ensures expands.result expands.ensures
    (c.if-not-expands.true))

pub size-size-requires : goal.size-size-requires
size-size-requires c =
    let get = c.get-e in
    let args = c.args in
    few args.s.now args.start args.count c.loop-i.i (omega arith) get.result get.ensures (search rules)

pub overflow_add-size : goal.overflow_add-size
overflow_add-size c =
    let expands = c.expands in
    let get = c.get-e in
    let loop = c.loop-i in
    let args = c.args in
    let w =
    within args.s.now args.start args.count loop.i (omega arith) get.result get.ensures expands.result c.size-size.result (search rules)
    expands.ensures (c.if-not-expands.false) c.size-size.ensures in
    record { fits = omega (arith, w, loop.invariant.0) }

pub loop-i-preserved : goal.loop-i-preserved
loop-i-preserved c =
    let expands = c.expands in
    let e = c.get-e in
    let l = c.loop-i in
    let args = c.args in
    let yes = c.if-not-expands.false in
    let w =
    within args.s.now args.start args.count l.i (omega arith) e.result e.ensures expands.result c.size-size.result (search rules)
    expands.ensures yes c.size-size.ensures in
    let g = grows args.s.now args.start args.count l.i (omega arith) e.result e.ensures c.size-size.result c.size-size.ensures in (
      omega (arith, w, l.invariant.0),
      goes args.s.now args.start args.count l.i (omega arith) e.result e.ensures expands.result expands.ensures yes ∙ l.invariant.1,
      omega (arith, g, l.invariant.2),
    )

pub returns : goal.returns
returns c =
    let l = c.loop-i in
    let args = c.args in
    ended args.s.now args.start args.count l.i l.size (omega arith) l.invariant.1 l.invariant.2
