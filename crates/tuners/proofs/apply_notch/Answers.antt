-- `tuners::apply_notch` meets its contract: bytes that are no record, or the call on the one that they are.
-- Assumes nothing.
use Rattle.std.proofs.Common.{refl}
use Rattle.records.specs.Tuners.{TunerRead, tuner_bytes}
use Rattle.tuners.proofs.Record.{changed, no_record}
use Rattle.r82xx.specs.Orders.{quietly}
use Rattle.r82xx.specs.Orders.Order.{Notch}
use Rattle.tuners.proofs.apply_notch.Goals as goal

pub returns-in_default : goal.returns-in_default
returns-in_default c = no_record (λ (x : TunerRead). x.ok) (λ (x : TunerRead). x.tuner) _ _ c.in_default.ensures _ _ refl

pub returns : goal.returns
returns c =
    let a = c.args in
    changed (λ (x : TunerRead). x.ok) (λ (x : TunerRead). x.tuner) _ _ c.in-Some.ensures tuner_bytes (quietly (Notch a.on))
    a.tuner.now refl _ _ _ c.with_notch-told.ensures _ c.lend.ensures
