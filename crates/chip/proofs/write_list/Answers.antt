-- `chip::write_list` meets its contract. The loop's invariant: what is left, from here, gives what all of it gives from the start. Assumes nothing.
use Rattle.std.proofs.Common.{◌+◌, drop, refl, ap, ◌∙◌, arith, rules}
use Rattle.chip.specs.InCode.{closing, in_room}
use Rattle.chip.specs.Steps.{goes, in_range, run, updates, update_step}
use Rattle.chip.proofs.Laws.{stop}
use Rattle.chip.proofs.Lists.{every_at, every_inner, inner_update, last, next}
use Rattle.chip.proofs.write_list.Goals as goal

pub write_reg_mask_raw-l-requires : goal.write_reg_mask_raw-l-requires
write_reg_mask_raw-l-requires c =
    (every_at in_range c.args.us.now c.loop-u.u-index _ (search rules) c.requires.1, omega arith, omega arith)

pub returns-in_default-clause-room_after : goal.returns-in_default-clause-room_after
returns-in_default-clause-room_after c =
    let us = c.args.us.now in
    c.log_close.ensures.room_after _
    ∙ stop in_room _ (updates us) _ _ (ap goes c.in_default.is) (every_inner update_step inner_update us) refl

pub returns-in_default-progress-clause-room_after : goal.returns-in_default-progress-clause-room_after
returns-in_default-progress-clause-room_after c =
    let loop = c.loop-u in
    let us = c.args.us.now in
    let rest = drop (loop.u-index + 1) us in
    c.log_close-in_default-progress.ensures.room_after _
    ∙ stop in_room _ (updates rest) _ _ (ap goes c.in_default-progress.is) (every_inner update_step inner_update rest)
    (ap (run in_room _ (updates rest)) c.write_reg_mask_raw-l.ensures.room_after
    ∙ next in_room _ update_step us loop.u-index _ _ (search rules)
    ∙ loop.invariant.left)

pub loop-u-preserved : goal.loop-u-preserved
loop-u-preserved c =
    let loop = c.loop-u in
    let us = c.args.us.now in record {
      count = omega (arith, loop.invariant.count, c.write_reg_mask_raw-l.ensures.bounds);
      left = ap (run in_room _ (updates (drop (loop.u-index + 1) us))) c.write_reg_mask_raw-l.ensures.room_after
          ∙ next in_room _ update_step us loop.u-index _ _ (search rules)
          ∙ loop.invariant.left;
    }

pub returns-clause-room_after : goal.returns-clause-room_after
returns-clause-room_after c =
    let loop = c.loop-u in
    c.log_end.ensures.room_after _
    ∙ ap (closing in_room _) (last in_room _ update_step c.args.us.now loop.u-index _ (search rules) ∙ loop.invariant.left)
