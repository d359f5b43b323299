-- What marks say after a call that was cut: of each group of registers that the failing entry names one of; and after a rate, wherever it was cut.
-- Assumes nothing.
use Rattle.std.specs.Prelude.{ℕ, ◌≡◌, Bool, true, false, ◌||◌, List, [], ◌∷◌, ◌⊎◌, eqb, leb}
use Rattle.transcript.specs.declared.Entry.{Entry}
use Rattle.attempts.specs.Attempts.{names}
use Rattle.registers.specs.Rates.{if_value_of}
use Rattle.evidence.specs.Demodulator.{demod_names, place}
use Rattle.evidence.specs.Evidence.{centre_mark, ddc_mark, demod_byte, if_mark, if_places, if_word, lo_mark, lock_mark, oscillator, rate_mark, rate_places}

abbrev pub among : ℕ → List ℕ → Bool
among r [] = false
among r (q ∷ qs) = eqb q r || among r qs

-- the failing entry names a register r, and the number that it belongs to is not sure: 1, the lock 0. The centre hangs on oscillator and IF, by any references
pub record Marked (address : ℕ) (last : Entry) (es : List Entry) : Type 0 where
  pub lo : (r : ℕ) → among r oscillator ≡ true → names address last r ≡ true → lo_mark address es ≡ 1
  pub lock : (r : ℕ) → among r oscillator ≡ true → names address last r ≡ true → lock_mark address es ≡ 0
  pub offset : (r : ℕ) → among r if_places ≡ true → demod_names last (place 1 r) ≡ true → if_mark es ≡ 1
  pub rate : (r : ℕ) → among r rate_places ≡ true → demod_names last (place 1 r) ≡ true → rate_mark es ≡ 1
  pub ddc : demod_names last (place 1 0x15) ≡ true → ddc_mark es ≡ 1
  pub lo_centre : (r : ℕ) → among r oscillator ≡ true → names address last r ≡ true → (ref xtal : ℕ) → centre_mark address ref xtal es ≡ 1
  pub if_centre : (r : ℕ) → among r if_places ≡ true → demod_names last (place 1 r) ≡ true → (ref xtal : ℕ) → centre_mark address ref xtal es ≡ 1

-- the repeater's and the tuner's: no write of the demodulator
abbrev pub tuners : Entry → Bool
tuners e = leb e.kind 2

-- after a rate that was cut in the demodulator's part: the DDC byte is doubtful, and the IF is doubtful too, or the new one whole
pub record CutRate (hz xtal : ℕ) (es : List Entry) : Type 0 where
  pub ddc : ddc_mark es ≡ 1
  pub offset : (if_mark es ≡ 1) ⊎ ((if_mark es ≡ 2) × (if_word (demod_byte es) ≡ if_value_of hz xtal))
