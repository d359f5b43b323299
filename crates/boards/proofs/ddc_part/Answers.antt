-- `boards::ddc_part` meets its contract. Assumes nothing.
use Rattle.chip.specs.InCode.{in_room}
use Rattle.chip.proofs.Laws.{by_program}
use Rattle.boards.proofs.Hops.{no_ddc, planned_ddc}
use native.Mathlib.Omega.{arith}
use Rattle.boards.proofs.ddc_part.Goals as goal

pub returns-in-None : goal.returns-in-None
returns-in-None c =
    record { room_after = no_ddc in_room _ _ c.args.inverted _ c.in-None.is; bounds = omega arith }

pub returns-in-Some : goal.returns-in-Some
returns-in-Some c =
    let ddc = c.ddc in
    record { room_after = by_program in_room _ _ _ _ _ (planned_ddc _ _ c.args.inverted c.in-Some.is) ddc.ensures.room_after; bounds = omega (arith, ddc.ensures.bounds) }
