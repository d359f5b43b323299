-- The centre of what is recorded, against the frequency asked. The oscillator is the VCO divided by m (crate oscillator), the demodulator's IF
-- v·xtal / 2^22; the centre is their difference. Assumes nothing.
use Rattle.std.specs.Prelude.{ℕ, ◌+◌, ◌*◌, ◌^◌, ◌≤◌, ◌<◌, ◌≡◌, List}
use Rattle.transcript.specs.declared.Entry.{Entry}
use Rattle.evidence.specs.Evidence.{centre_in, centre_mark, chip_byte, if_mark, lo_mark}
use Rattle.oscillator.specs.Registers.{Bytes, divider_in, vco_in}

-- centre ≥ hz - 24,999 / m, and centre ≤ hz + 17,998 / m + xtal / 2^22: both times 2^22·65,536·m, so that they are of whole numbers
pub record Centred (hz r xtal v : ℕ) (reg : Bytes) : Type 0 where
  pub below : 2 ^ 22 * (65_536 * (hz * divider_in reg)) + 65_536 * (divider_in reg * (v * xtal)) ≤ 2 ^ 22 * vco_in r reg + 2 ^ 22 * (65_536 * 24_999)
  pub above : 2 ^ 22 * vco_in r reg
      ≤ 2 ^ 22 * (65_536 * (hz * divider_in reg)) + 65_536 * (divider_in reg * (v * xtal)) + 2 ^ 22 * (65_536 * 17_998) + 65_536 * (divider_in reg * xtal)

-- The same of the centre that entries tell, by the two references: it is sure, as the two numbers are that it is made of, and in whole Hz, cut, so that one Hz
-- more is lost below. m is read off the entries too
pub record Filed (hz address r xtal : ℕ) (es : List Entry) : Type 0 where
  pub lo : lo_mark address es ≡ 2
  pub offset : if_mark es ≡ 2
  pub mark : centre_mark address r xtal es ≡ 2
  pub below : hz * divider_in (chip_byte address es) < (centre_in address r xtal es + 1) * divider_in (chip_byte address es) + 24_999
  pub above : 2 ^ 22 * (centre_in address r xtal es * divider_in (chip_byte address es))
      ≤ 2 ^ 22 * (hz * divider_in (chip_byte address es)) + 2 ^ 22 * 17_998 + divider_in (chip_byte address es) * xtal
