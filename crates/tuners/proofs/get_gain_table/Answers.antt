-- `tuners::get_gain_table` meets its contract: bytes that are no record, or the table behind the one that they are.
-- Assumes nothing.
use Rattle.std.proofs.Common.{refl}
use Rattle.records.specs.Tuners.{TunerRead}
use Rattle.tuners.proofs.Record.{no_record, of_record_lem}
use Rattle.tuners.proofs.get_gain_table.Goals as goal

pub returns-in_default : goal.returns-in_default
returns-in_default c = no_record (λ (x : TunerRead). x.ok) (λ (x : TunerRead). x.tuner) _ _ c.in_default.ensures _ _ refl

pub returns : goal.returns
returns c = of_record_lem (λ (x : TunerRead). x.ok) (λ (x : TunerRead). x.tuner) _ _ c.in-Some.ensures _ _ refl _ c.gain_table.ensures
