-- `device::perform` meets its contract: refused by a slice that is too short, or performed. Assumes nothing.
use mathlib.Core.Path.{sym, ◌∙◌}
use native.Mathlib.Omega.{arith}
use Rattle.device.proofs.Free.{accesses_eight, performs, refuses, suffices}
use Rattle.device.proofs.perform.Goals as goal

pub returns-then-number-ne0 : goal.returns-then-number-ne0
returns-then-number-ne0 c = c.refused.ensures _ ∙ refuses _ _ _ _ _ c.too_short-number.ensures c.if-number-ne0.true

pub access_all-f-requires : goal.access_all-f-requires
access_all-f-requires c =
    let if1 = c.if-number-ne0 in
    let too_short = c.too_short-number in
    (omega (arith, suffices _ _ _ _ _ _ too_short.ensures if1.false), omega (arith, suffices _ _ _ _ _ _ too_short.ensures if1.false))

pub finish-requires : goal.finish-requires
finish-requires c =
    (omega (arith, c.access_all-f.ensures.bounds), omega (arith, c.access_all-f.ensures.bounds, suffices _ _ _ _ _ _ c.too_short-number.ensures c.if-number-ne0.false))

pub returns : goal.returns
returns c =
    let finish = c.finish in
    let access-all = c.access_all-f in
    performs _ _ _ _ access-all.result _ _ _ (sym c.too_short-number.ensures ∙ c.if-number-ne0.false) (accesses_eight c.args.rows.now)
    access-all.ensures.room_after finish.ensures.0 finish.ensures.1
