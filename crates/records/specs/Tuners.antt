-- The tuner's record as 78 bytes. Document 01, "The record": "It holds kind, address, 27 shadow bytes for 0x05..0x1f, nominal and corrected
-- reference, lock, gain, IF .., notch, and our attempt record"; #106: the shadow is the bytes last attempted, "and only the doubtful marks are kept beside it".
-- Assumes nothing.
use Rattle.std.specs.Prelude.{ℕ, Bool, true, false, ◌&&◌, List, [], ◌∷◌, map, eqb, leb, length, Option, Some, None}
use Rattle.std.specs.Float.{binary32}
use Rattle.std.specs.Float.Ieee.{of_bits, to_bits}
use Rattle.wire.specs.Bytes.{le_bytes}
use Rattle.chip.specs.declared.Chip.{Chip}
use Rattle.pll.specs.declared.Kind.TheVariants.{R820T}
use Rattle.r82xx.specs.declared.Tuner.{Tuner}
use Rattle.r82xx.specs.Record.{fresh_tuner}
use Rattle.pll.specs.Plan.{kind_number}
use Rattle.records.specs.Fields.{flag_byte, flag_read, flags_only, kind_of, proper_gain}
use Rattle.wire.specs.Parts.{joined, num, part, parts_from}

-- kind, address, shadow, nominal, corrected, lock, gain, IF, notch, doubtful
abbrev pub tuner_widths : List ℕ
tuner_widths = 1 ∷ 1 ∷ 27 ∷ 4 ∷ 4 ∷ 1 ∷ 4 ∷ 8 ∷ 1 ∷ 27 ∷ []

abbrev pub tuner_parts : Tuner → List (List ℕ)
tuner_parts t =
    le_bytes 1 (kind_number t.kind)
    ∷ le_bytes 1 t.chip.address
    ∷ t.chip.shadow
    ∷ le_bytes 4 t.nominal
    ∷ le_bytes 4 t.corrected
    ∷ le_bytes 1 (flag_byte t.lock)
    ∷ le_bytes 4 (to_bits binary32 t.gain)
    ∷ le_bytes 8 t.ifreq
    ∷ le_bytes 1 (flag_byte t.notch)
    ∷ map flag_byte t.chip.doubtful
    ∷ []

unfoldable pub tuner_bytes : Tuner → List ℕ
tuner_bytes t = joined (tuner_parts t)

abbrev pub chip_from : List (List ℕ) → Chip
chip_from ps =
    record { address = num ps 1; shadow = part ps 2; doubtful = map flag_read (part ps 9) }

abbrev pub tuner_from : List (List ℕ) → Tuner
tuner_from ps =
    record {
      kind = kind_of (num ps 0);
      chip = chip_from ps;
      nominal = num ps 3;
      corrected = num ps 4;
      lock = flag_read (num ps 5);
      gain = of_bits binary32 (num ps 6);
      ifreq = num ps 7;
      notch = flag_read (num ps 8);
    }

-- the ranges that document 01 names, "kind, .., nominal and corrected reference", and flags and a gain that are written so
unfoldable pub tuner_fits : List (List ℕ) → Bool
tuner_fits ps =
    leb (num ps 0) 1
    && leb 1 (num ps 3)
    && leb 1 (num ps 4)
    && leb (num ps 5) 1
    && proper_gain (num ps 6)
    && leb (num ps 8) 1
    && flags_only (part ps 9)

unfoldable pub is_tuner : List ℕ → Bool
is_tuner b = eqb (length b) 78 && tuner_fits (parts_from 0 tuner_widths b)

-- a record that bytes are read as; where they are not valid, `tuner` is a fresh one and counts for nothing
pub record TunerRead : Type 0 where
  pub ok : Bool
  pub tuner : Tuner

abbrev pub tuner_read : Bool → Tuner → TunerRead
tuner_read ok tuner = record { ok = ok; tuner = tuner }

abbrev pub pick_tuner : Bool → Tuner → TunerRead
pick_tuner true t = tuner_read true t
pick_tuner false t = tuner_read false (fresh_tuner R820T 0 1)

-- "A given record out of its ranges .., or bytes that no record is written to, is refused"
unfoldable pub tuner_of : List ℕ → TunerRead
tuner_of b = pick_tuner (is_tuner b) (tuner_from (parts_from 0 tuner_widths b))

-- what the code's answer means
abbrev pub tuner_meant : Option Tuner → TunerRead
tuner_meant (Some t) = tuner_read true t
tuner_meant None = tuner_read false (fresh_tuner R820T 0 1)
