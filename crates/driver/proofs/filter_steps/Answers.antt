-- `driver::filter_steps` meets its contract: two brackets, over the chip's lists. Assumes nothing.
use native.Mathlib.Omega.{arith}
use Rattle.chip.specs.InCode.{in_room}
use Rattle.chip.specs.Steps.{while_open, updates}
use Rattle.writes.specs.Lists.{bandwidth_updates, if_updates}
use Rattle.chip.proofs.Laws.{then}
use Rattle.driver.proofs.filter_steps.Goals as goal

pub set_bandwidth-log-requires : goal.set_bandwidth-log-requires
set_bandwidth-log-requires c =
    let set-if-bandwidth = c.set_if_bandwidth-set in
    omega (arith, c.requires, set-if-bandwidth.ensures.bounds, set-if-bandwidth.auto)

-- antt refused `returns` as it was built: the module's report says why
pub returns : goal.returns
returns c =
    let set-bandwidth = c.set_bandwidth-log in
    let set-if-bandwidth = c.set_if_bandwidth-set in
    let args = c.args in record {
      room_after = then in_room _ (while_open (updates (if_updates args.hz))) (while_open (updates (bandwidth_updates args.rate))) _ _ _ set-if-bandwidth.ensures.room_after
          set-bandwidth.ensures.room_after;
      bounds = omega (arith, set-if-bandwidth.ensures.bounds, set-bandwidth.ensures.bounds);
    }
