-- `tuning::set_pll_raw` meets its contract: three parts one after the other. Assumes nothing.
use native.Mathlib.Omega.{arith}
use mathlib.Core.List.{◌++◌}
use Rattle.chip.specs.InCode.{in_room}
use Rattle.chip.specs.Steps.{inner, updates}
use Rattle.chip.proofs.Laws.{parts}
use Rattle.tuning.specs.InCode.{fix_updates}
use Rattle.tuning.specs.Tries.{status_steps, tries_from}
use Rattle.tuning.proofs.Programs.{every_app, inner_tries, inner_updates}
use Rattle.tuning.proofs.set_pll_raw.Goals as goal

-- antt refused `returns` as it was built: the module's report says why
pub returns : goal.returns
returns c =
    let wait-pll-lock-raw = c.wait_pll_lock_raw in
    let write-repair = c.write_repair-repaired in
    let read-status-raw = c.read_status_raw-probed in
    let args = c.args in
    let rs = args.replies.now in
    let fixing = updates (fix_updates args.fix) in
    let trying = tries_from args.address rs 10 0 in
    let open-tries = inner_tries args.address rs 10 0 in record {
      room_after = parts in_room _ (status_steps args.address rs) (fixing ++ trying) _ _ _
          (every_app inner fixing trying (inner_updates (fix_updates args.fix)) open-tries) (read-status-raw.ensures.room_after _)
          (parts in_room _ fixing trying _ _ _ open-tries write-repair.ensures.room_after wait-pll-lock-raw.ensures.room_after);
      bounds = omega (arith, read-status-raw.ensures.bounds, write-repair.ensures.bounds, wait-pll-lock-raw.ensures.bounds);
    }
