-- `tuning::wait_pll_lock_raw` meets its contract. The loop's invariant: what is left, from here, gives what all of it gives from the start. Assumes nothing.
use mathlib.Core.Path.{refl, sym, ap, ◌∙◌}
use native.Mathlib.Omega.{arith}
use Rattle.chip.specs.InCode.{in_room}
use Rattle.chip.specs.Steps.{goes}
use Rattle.chip.proofs.Laws.{stop}
use Rattle.tuning.specs.Tries.{tries_from}
use Rattle.tuning.proofs.Programs.{inner_tries}
use Rattle.tuning.proofs.Turns.{cut_try, end_try, lock_try, next_try}
use Rattle.tuning.proofs.wait_pll_lock_raw.Goals as goal

pub returns-in_default-clause-room_after : goal.returns-in_default-clause-room_after
returns-in_default-clause-room_after c =
    let address = c.args.address in
    let replies = c.args.replies.now in
    c.log_close.ensures.room_after _
    ∙ stop in_room _ (tries_from address replies 10 0) _ _ (ap goes c.in_default.is) (inner_tries address replies 10 0) refl

pub returns-in_default-progress-clause-room_after : goal.returns-in_default-progress-clause-room_after
returns-in_default-progress-clause-room_after c =
    let turn = c.loop-i in
    c.log_close-in_default-progress.ensures.room_after _
    ∙ cut_try in_room _ c.args.address c.args.replies.now turn.i (omega arith) _ _ (c.read_try-l.ensures.room_after _) (ap goes c.in_default-progress.is)
    ∙ turn.invariant.left

pub returns-then-locked-clause-room_after : goal.returns-then-locked-clause-room_after
returns-then-locked-clause-room_after c =
    let turn = c.loop-i in
    lock_try in_room _ c.args.address c.args.replies.now turn.i (omega arith) _ _ (c.read_try-l.ensures.room_after _) _
    (sym c.locks-locked.ensures ∙ c.if-locked.true) c.after_lock.ensures.room_after
    ∙ turn.invariant.left

pub loop-i-preserved : goal.loop-i-preserved
loop-i-preserved c =
    let turn = c.loop-i in record {
      count = omega (arith, c.after_try-l.ensures.bounds, c.read_try-l.ensures.bounds, turn.invariant.count);
      left = next_try in_room _ c.args.address c.args.replies.now turn.i (omega arith) _ _ (c.read_try-l.ensures.room_after _) _
          (sym c.locks-locked.ensures ∙ c.if-locked.false) c.after_try-l.ensures.room_after
          ∙ turn.invariant.left;
    }

pub returns-clause-room_after : goal.returns-clause-room_after
returns-clause-room_after c =
    let turn = c.loop-i in
    c.log_end.ensures.room_after _ ∙ end_try in_room _ c.args.address c.args.replies.now turn.i _ (omega arith) ∙ turn.invariant.left
