-- `expansion::write_section` meets its contract. The loop's invariant: the entries of the bytes left, stored after what was stored, leave what all entries leave; then the trailer.
-- Assumes nothing.
use Prim.Native.Nat.{◌*◌}
use mathlib.Core.Path.{sym, ap, ◌∙◌}
use native.Mathlib.Omega.{arith}
use lib.ListN.{length, drop}
use lib.Seq.{length-sets}
use Rattle.transcript.specs.Entries.{entry_bytes}
use Rattle.packets.specs.declared.Heard.{Heard}
use Rattle.expansion.proofs.Hearing.{entry_stored, none_left, sealed, turn_of_all, unheard}
use Rattle.expansion.proofs.write_section.Goals as goal

pub put-requires : goal.put-requires
put-requires c =
    let l = c.loop-h in
    let t = turn_of_all c.args.b.now l.at l.i c.in-Some.h (sym c.in-Some.is ∙ c.hear.ensures) (omega arith) l.invariant.3 in
    omega (arith, t.count, l.invariant.2, l.invariant.4)

pub overflow_add-at : goal.overflow_add-at
overflow_add-at c =
    let l = c.loop-h in
    let t = turn_of_all c.args.b.now l.at l.i c.in-Some.h (sym c.in-Some.is ∙ c.hear.ensures) (omega arith) l.invariant.3 in
    record { fits = omega (arith, t.within) }

pub loop-h-smaller : goal.loop-h-smaller
loop-h-smaller c =
    let l = c.loop-h in
    let t = turn_of_all c.args.b.now l.at l.i c.in-Some.h (sym c.in-Some.is ∙ c.hear.ensures) (omega arith) l.invariant.3 in
    omega (arith, t.eight, t.within)

pub loop-h-preserved : goal.loop-h-preserved
loop-h-preserved c =
    let l = c.loop-h in
    let h = c.in-Some.h in
    let b = c.args.b.now in
    let t = turn_of_all b l.at l.i h (sym c.in-Some.is ∙ c.hear.ensures) (omega arith) l.invariant.3 in (
      omega (arith, t.less),
      t.within,
      ap length c.put.ensures ∙ length-sets l.out (16 * l.i) (entry_bytes h.entry) ∙ l.invariant.2,
      t.all ∙ l.invariant.3,
      t.count ∙ l.invariant.4,
      entry_stored b l.at l.i t.here t.less t.stands h.size (ap (λ (u : Heard). u.size) t.entry) l.out _ h.entry (ap (λ (u : Heard). u.entry) t.entry) c.put.ensures
          ∙ l.invariant.5,
    )

pub returns : goal.returns
returns c =
    let l = c.loop-h in
    let b = c.args.b.now in
    let end = none_left b l.at l.i (omega arith) l.invariant.3 (unheard (drop l.at b) (sym c.in_default.is ∙ c.hear.ensures)) in
    sealed b l.at l.i c.args.out.now l.out _ end l.invariant.4 l.invariant.5 c.seal.ensures
