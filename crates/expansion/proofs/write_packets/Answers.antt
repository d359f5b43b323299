-- `expansion::write_packets` meets its contract. The loop's invariant: the packets of the entries left, stored after what was stored, leave what all packets leave.
-- Assumes nothing.
use Prim.Native.Nat.{◌+◌}
use mathlib.Core.Path.{refl, ap, ◌∙◌}
use mathlib.Core.List.{List}
use native.Mathlib.Omega.{arith}
use lib.ListN.{length}
use lib.Seq.{sets, length-sets}
use Rattle.transcript.specs.declared.Entry.{Entry}
use Rattle.packets.specs.Packets.{packets_of}
use Rattle.expansion.specs.Expansion.{expanded}
use Rattle.expansion.proofs.Turns.{left_all, few, grows, stores, stored}
use borrow.Author.Rules.{rules}
use Rattle.expansion.proofs.write_packets.Goals as goal

pub put-requires : goal.put-requires
put-requires c =
    let e = c.get-e in
    let l = c.loop-i in
    let args = c.args in (
      few args.s.now args.start args.count l.i (omega arith) e.result e.ensures (search rules),
      omega (
        arith,
        grows args.s.now args.start args.count l.i (omega arith) e.result e.ensures (length (packets_of e.result)) refl,
        l.invariant.0,
        l.invariant.1,
      ),
    )

pub size-at-requires : goal.size-at-requires
size-at-requires c =
    let get = c.get-e in
    let args = c.args in
    few args.s.now args.start args.count c.loop-i.i (omega arith) get.result get.ensures (search rules)

pub overflow_add-at : goal.overflow_add-at
overflow_add-at c =
    let e = c.get-e in
    let l = c.loop-i in
    let args = c.args in
    record {
      fits = omega (
        arith,
        grows args.s.now args.start args.count l.i (omega arith) e.result e.ensures c.size-at.result c.size-at.ensures,
        l.invariant.0,
        l.invariant.1,
      );
    }

pub loop-i-preserved : goal.loop-i-preserved
loop-i-preserved c =
    let put = c.put in
    let e = c.get-e in
    let l = c.loop-i in
    let args = c.args in (
      ap length put.ensures ∙ length-sets l.out l.at (packets_of e.result) ∙ l.invariant.0,
      omega (
        arith,
        grows args.s.now args.start args.count l.i (omega arith) e.result e.ensures c.size-at.result c.size-at.ensures,
        l.invariant.1,
      ),
      stores args.s.now args.start args.count l.i (omega arith) e.result e.ensures l.out _ l.at c.size-at.result put.ensures
          c.size-at.ensures
          ∙ l.invariant.2,
    )

pub returns : goal.returns
returns c =
    let l = c.loop-i in
    let args = c.args in
    stored args.s.now args.start args.count l.i l.at l.out (omega arith) ∙ l.invariant.2
