-- `chip::write_reg_mask_raw` meets its contract. Each return is one law of the definition, with what the calls before it ensure. Assumes nothing.
use Rattle.chip.proofs.Laws.{idle, made_mask}
use Rattle.chip.proofs.Lists.{low, high}
use Rattle.std.proofs.Common.{◌≤◌, refl, ap, ◌∙◌, arith, rules}
use Rattle.chip.specs.InCode.{in_room}
use Rattle.chip.specs.Steps.{goes}
use Rattle.chip.specs.Steps.Step.{Mask}
use Rattle.chip.proofs.write_reg_mask_raw.Goals as goal

pub returns-in_default : goal.returns-in_default
returns-in_default c = record { room_after = idle in_room _ (Mask _ _ _) _ (ap goes c.in_default.is); bounds = search rules }

pub overflow_sub-index : goal.overflow_sub-index
overflow_sub-index c =
    let args = c.args in
    let pre = c.requires in
    let l : 5 ≤ args.u.register = low args.u pre.0 in let h : args.u.register ≤ 31 = high args.u pre.0 in omega arith

pub bounds-shadow-index : goal.bounds-shadow-index
bounds-shadow-index c =
    let args = c.args in
    let pre = c.requires in
    let l : 5 ≤ args.u.register = low args.u pre.0 in let h : args.u.register ≤ 31 = high args.u pre.0 in omega arith

pub bounds-shadow-index-2 : goal.bounds-shadow-index-2
bounds-shadow-index-2 c =
    let args = c.args in
    let pre = c.requires in
    let l : 5 ≤ args.u.register = low args.u pre.0 in let h : args.u.register ≤ 31 = high args.u pre.0 in omega arith

pub bounds-doubtful-index : goal.bounds-doubtful-index
bounds-doubtful-index c =
    let args = c.args in
    let pre = c.requires in
    let l : 5 ≤ args.u.register = low args.u pre.0 in let h : args.u.register ≤ 31 = high args.u pre.0 in omega arith

pub returns : goal.returns
returns c =
    record {
      room_after = c.log_entry.ensures.room_after _
          ∙ made_mask in_room _ _ _ _ _ _ _ _ c.mask_into-byte.ensures refl c.progress_after.ensures
          (ap goes c.in-Going.is);
      bounds = search rules;
    }
