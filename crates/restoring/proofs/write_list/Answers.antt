-- `restoring::write_list` meets its contract. The loop's invariant: the writes of the runs that are left, stored after those that are stored, leave what all of them leave; then the trailer.
-- Assumes nothing.
use Prim.Native.Nat.{◌+◌, ◌-◌, ◌*◌, ◌≤◌, ◌<◌, ℕ}
use mathlib.Core.Path.{◌≡◌, sym, ap, ◌∙◌}
use mathlib.Core.List.{List, map, ◌∷◌}
use native.Mathlib.Omega.{arith}
use borrow.Author.Rules.{rules}
use lib.ListN.{length}
use lib.Seq.{sets}
use Rattle.transcript.specs.Sections.{entries_bytes}
use Rattle.restore.specs.Restore.{Run, run_len, run_of, runs, write_of}
use Rattle.restoring.specs.Standing.{Known, held_of, next_sure, sure_of}
use Rattle.restoring.proofs.Laying.{few_runs, found, laid_all, laid_on, left, no_more, none_above, one_run, run_size}
use Rattle.std.specs.Prelude.{Some}
use Rattle.restoring.proofs.write_list.Goals as goal

-- the run that begins at the next sure register: where it is, how long, and what is left after it
record Turn (known : List Known) (i first m : ℕ) : Type 0 where
  low : i ≤ first
  high : first < 32
  size : (0 < m) × (m ≤ 7)
  split : left (sure_of known) i ≡ run_of first m ∷ left (sure_of known) (first + m)

turn : (known : List Known) (i first m : ℕ) → length known ≡ 32 → Some first ≡ next_sure (sure_of known) (32 - i) i → m ≡ run_len (sure_of known) 7 first → Turn known i first m
turn known i first m long next is =
    let sure = sure_of known in
    let f = found sure i first next in
    let above = none_above known long in
    record {
      low = f.from;
      high = f.below;
      size = run_size sure above first m f.sure_there is;
      split = sym f.same ∙ one_run sure above first m f.below f.sure_there is;
    }

pub run_len-m-requires : goal.run_len-m-requires
run_len-m-requires c =
    let f = found (sure_of c.args.known.now) c.loop-first.i c.in-Some.first (sym c.in-Some.is ∙ c.next_sure.ensures) in
    f.below

pub write_of-requires : goal.write_of-requires
write_of-requires c =
    let t = turn c.args.known.now c.loop-first.i c.in-Some.first c.run_len-m.result (omega arith) (sym c.in-Some.is ∙ c.next_sure.ensures) c.run_len-m.ensures in
    (t.high, t.size.1)

pub put-requires : goal.put-requires
put-requires c =
    let t = turn c.args.known.now c.loop-first.i c.in-Some.first c.run_len-m.result (omega arith) (sym c.in-Some.is ∙ c.next_sure.ensures) c.run_len-m.ensures in
    omega (arith, ap length t.split)

pub overflow_add-i : goal.overflow_add-i
overflow_add-i c =
    let t = turn c.args.known.now c.loop-first.i c.in-Some.first c.run_len-m.result (omega arith) (sym c.in-Some.is ∙ c.next_sure.ensures) c.run_len-m.ensures in
    record { fits = omega arith }

pub loop-first-smaller : goal.loop-first-smaller
loop-first-smaller c =
    let t = turn c.args.known.now c.loop-first.i c.in-Some.first c.run_len-m.result (omega arith) (sym c.in-Some.is ∙ c.next_sure.ensures) c.run_len-m.ensures in
    omega arith

pub loop-first-preserved : goal.loop-first-preserved
loop-first-preserved c =
    let l = c.loop-first in
    let a = c.args in
    let known = a.known.now in
    let first = c.in-Some.first in
    let m = c.run_len-m.result in
    let held = held_of known in
    let t = turn known l.i first m (omega arith) (sym c.in-Some.is ∙ c.next_sure.ensures) c.run_len-m.ensures in (
      search rules,
      (
        omega (arith, ap length t.split),
        laid_on a.address held l.room _ l.k (run_of first m) (left (sure_of known) (first + m)) (left (sure_of known) l.i) c.write_of.result t.split
            c.write_of.ensures
            c.put.ensures
            ∙ l.invariant.1.1,
      ),
    )

pub seal-requires : goal.seal-requires
seal-requires c =
    let l = c.loop-first in
    let sure = sure_of c.args.known.now in
    let most = few_runs sure 32 0 in
    let end = ap length (no_more sure l.i (sym c.in_default.is ∙ c.next_sure.ensures)) in
    (omega arith, omega arith)

pub returns : goal.returns
unfolding entries_bytes
returns c =
    let l = c.loop-first in
    let a = c.args in
    let known = a.known.now in
    let sure = sure_of known in
    let held = held_of known in
    let none = no_more sure l.i (sym c.in_default.is ∙ c.next_sure.ensures) in
    let count : l.k ≡ length (runs sure 32 0) = omega (arith, ap length none) in
    let stored = sym (ap (λ (ws : List Run). sets l.room (16 * l.k) (entries_bytes (map (write_of a.address held) ws))) none) ∙ l.invariant.1.1 in
    (omega (arith, count), laid_all a.address held a.room.now l.room _ l.k (runs sure 32 0) stored count c.seal.ensures)
