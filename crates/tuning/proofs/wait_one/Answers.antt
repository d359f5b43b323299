-- `tuning::wait_one` meets its contract: the wait over the log, at any chip, and its end. Assumes nothing.
use native.Mathlib.Omega.{arith}
use Rattle.chip.specs.InCode.{in_room}
use Rattle.chip.proofs.Laws.{by_entry, ended_here}
use Rattle.tuning.proofs.wait_one.Goals as goal

pub returns : goal.returns
returns c =
    let log-end = c.log_end in
    let log-plain = c.log_plain-waited in
    record { room_after = λ chip. ended_here in_room _ _ _ _ _ (by_entry in_room _ _ _ _ _ c.wait.ensures (log-plain.ensures.room_after chip)) (log-end.ensures.room_after chip); bounds = omega (arith, log-end.ensures.bounds, log-plain.ensures.bounds) }
