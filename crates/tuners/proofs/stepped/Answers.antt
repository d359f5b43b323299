-- `tuners::stepped` meets its contract: refused before its steps, or made and handed back.
-- Assumes nothing.
use Rattle.std.proofs.Common.{true, sym, ◌∙◌, arith}
use Rattle.records.specs.Tuners.{tuner_read}
use Rattle.tuners.proofs.Passed.{fits, handed_back, no_record_over, not_argued, refused_by_lem}
use Rattle.tuners.proofs.stepped.Goals as goal

pub returns-in_default : goal.returns-in_default
returns-in_default g c row os asked made =
    let a = c.args in
    no_record_over row os a.tuner.now a.room.now a.next.now c.in_default.ensures _ c.refuse.ensures

pub returns-then-number-ne0 : goal.returns-then-number-ne0
returns-then-number-ne0 g c row os asked made =
    let a = c.args in
    refused_by_lem row os a.tuner.now a.room.now a.next.now (tuner_read true c.in-Some.t) a.argument _ c.in-Some.ensures (asked _) c.ready-number.ensures _
    (λ z. omega arith) c.refuse-then-number-ne0.ensures

pub call-told-requires : goal.call-told-requires
call-told-requires g c = c.requires (not_argued _ _ _ _ (sym c.ready-number.ensures ∙ omega arith)) _ _

pub hand-requires : goal.hand-requires
hand-requires g c = fits _ _ _ _ (sym c.ready-number.ensures ∙ omega arith)

pub returns : goal.returns
returns g c row os asked made =
    let a = c.args in
    handed_back row os a.tuner.now a.room.now a.next.now (tuner_read true c.in-Some.t) a.argument _ c.in-Some.ensures (asked _) c.ready-number.ensures
    (omega arith) _ _ _ _ (made (not_argued _ _ _ _ (sym c.ready-number.ensures ∙ omega arith)) _ _ _ _ c.call-told.ensures) _ _ c.hand.ensures
