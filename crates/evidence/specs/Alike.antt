-- When two lists of entries tell the same of a station: all that is told but lock and tries, by the last attempts at thirteen places. Assumes nothing.
use Rattle.std.specs.Prelude.{ℕ, ◌≡◌, List, [], ◌∷◌}
use Rattle.transcript.specs.declared.Entry.{Entry}
use Rattle.attempts.specs.Attempts.{last_in}
use Rattle.evidence.specs.Demodulator.{last_at}
use Rattle.evidence.specs.Evidence.{centre_in, centre_mark, chip_byte, ddc_mark, demod_byte, if_mark, if_units, if_word, lo_mark, lo_units, oscillator, rate_in, rate_mark, ratio_in}

-- the demodulator's eight: DDC, IF and rate
abbrev pub demod_places : List ℕ
demod_places = 0x15 ∷ 0x19 ∷ 0x1a ∷ 0x1b ∷ 0x9f ∷ 0xa0 ∷ 0xa1 ∷ 0xa2 ∷ []

-- two readings of some registers are the same
abbrev pub Agree : {A : Type 0} → (ℕ → A) → (ℕ → A) → List ℕ → Type 0
Agree g h [] = Unit {0}
Agree g h (r ∷ rs) = (g r ≡ h r) × Agree g h rs

-- the last attempts at the chip's five and the demodulator's eight
pub record SameLasts (address : ℕ) (es fs : List Entry) : Type 0 where
  pub chip : Agree (last_in address es) (last_in address fs) oscillator
  pub demod : Agree (last_at es) (last_at fs) demod_places

-- every mark and every number, by the two references
pub record Alike (address r xtal : ℕ) (es fs : List Entry) : Type 0 where
  pub lo_mark_lem : lo_mark address es ≡ lo_mark address fs
  pub if_mark_lem : if_mark es ≡ if_mark fs
  pub rate_mark_lem : rate_mark es ≡ rate_mark fs
  pub ddc_mark_lem : ddc_mark es ≡ ddc_mark fs
  pub centre_mark_lem : centre_mark address r xtal es ≡ centre_mark address r xtal fs
  pub ddc : demod_byte es 0x15 ≡ demod_byte fs 0x15
  pub word : if_word (demod_byte es) ≡ if_word (demod_byte fs)
  pub ratio : ratio_in (demod_byte es) ≡ ratio_in (demod_byte fs)
  pub rate : rate_in xtal (demod_byte es) ≡ rate_in xtal (demod_byte fs)
  pub lo : lo_units r (chip_byte address es) ≡ lo_units r (chip_byte address fs)
  pub offset : if_units xtal (demod_byte es) ≡ if_units xtal (demod_byte fs)
  pub centre : centre_in address r xtal es ≡ centre_in address r xtal fs
