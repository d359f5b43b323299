-- What entries tell after a sample rate: the true rate of #104, and the DDC byte by the table's plan. Assumes nothing.
use Rattle.std.specs.Prelude.{ℕ, ◌%◌, ◌^◌, ◌≡◌, Bool, List}
use Rattle.transcript.specs.declared.Entry.{Entry}
use Rattle.demod.specs.Programs.{ddc_byte}
use Rattle.registers.specs.Rates.{true_of}
use Rattle.evidence.specs.Evidence.{ddc_mark, demod_byte, if_mark, rate_in, rate_mark}

pub record RateTold (rate xtal : ℕ) (inverted : Bool) (es : List Entry) : Type 0 where
  pub rate_mark_lem : rate_mark es ≡ 2
  pub told : rate_in xtal (demod_byte es) ≡ true_of rate xtal
  pub if_mark_lem : if_mark es ≡ 2
  pub ddc_mark_lem : ddc_mark es ≡ 2
  pub ddc : demod_byte es 0x15 ≡ ddc_byte inverted % 2 ^ 8
