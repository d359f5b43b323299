-- `tuning::after_try` meets its contract: the write after the first try and the wait, or the wait alone. Assumes nothing.
use mathlib.Core.Path.{◌≡◌, refl, ap}
use native.Mathlib.Omega.{arith}
use mathlib.Core.List.{[], ◌∷◌}
use borrow.Author.Tests.{ne_eqb}
use Rattle.chip.specs.Entries.{wait}
use Rattle.chip.specs.InCode.{in_room}
use Rattle.chip.specs.Steps.{every, in_range, updates}
use Rattle.chip.specs.Steps.Step.{Plain}
use Rattle.chip.proofs.Laws.{parts, swap}
use Rattle.tuning.specs.Tries.{again}
use Rattle.tuning.proofs.Turns.{first_write, wait_alone}
use Rattle.tuning.proofs.after_try.Goals as goal

pub write_one-written-requires : goal.write_one-written-requires
write_one-written-requires c =
    let pre = c.requires in
    let first : c.args.i ≡ 0 = c.if-i-eq0.true in (ap in_range c.masked-u.ensures, omega (arith, pre.0), omega (arith, pre.1))

pub wait_one-requires : goal.wait_one-requires
wait_one-requires c =
    let write-one = c.write_one-written in
    let first : c.args.i ≡ 0 = c.if-i-eq0.true in omega (arith, c.requires, write-one.ensures.bounds, write-one.auto)

pub returns-then-i-eq0 : goal.returns-then-i-eq0
unfolding every
returns-then-i-eq0 c =
    let wait-one = c.wait_one in
    let write-one = c.write_one-written in
    let args = c.args in
    let first : args.i ≡ 0 = c.if-i-eq0.true in record {
      room_after = parts in_room _ (updates (again args.i)) (Plain (wait 1) ∷ []) _ _ _ refl
          (swap in_room _ _ _ _ _ (first_write _ _ first c.masked-u.ensures) write-one.ensures.room_after) (wait-one.ensures.room_after _);
      bounds = omega (arith, write-one.ensures.bounds, wait-one.ensures.bounds);
    }

pub returns : goal.returns
returns c =
    let wait-one2 = c.wait_one-2 in
    record { room_after = swap in_room _ _ _ _ _ (wait_alone c.args.i (ne_eqb _ _ c.if-i-eq0.false)) (wait-one2.ensures.room_after _); bounds = omega (arith, wait-one2.ensures.bounds) }
