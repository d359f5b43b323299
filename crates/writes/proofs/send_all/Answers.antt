-- `writes::send_all` meets its contract. Each return is one law of the definition, with what the calls before it ensure. Assumes nothing.
use native.Mathlib.Omega.{arith}
use Rattle.chip.specs.InCode.{in_room}
use Rattle.chip.specs.Steps.{tuner_write}
use Rattle.chip.proofs.Laws.{then}
use Rattle.writes.proofs.send_all.Goals as goal

pub returns : goal.returns
returns c =
    let i2c-write-last = c.i2c_write_last in
    let i2c-write-first = c.i2c_write_first-first in
    let args = c.args in record { room_after = then in_room _ (tuner_write args.bs 0 3) (tuner_write args.bs 3 5) _ _ _ i2c-write-first.ensures.room_after i2c-write-last.ensures.room_after; bounds = omega (arith, i2c-write-first.ensures.bounds, i2c-write-last.ensures.bounds) }
