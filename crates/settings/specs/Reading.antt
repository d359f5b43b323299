-- Settings read from the end of a slice, and written into one that is lent. Document 02, #108: "The edition is tested before any field, so a later
-- edition is never half read. Refusals: new 16 edition, then 17 settings (short slice, wrong distance, nonzero filler, kind, board or gain out of range); a
-- slice under 4 bytes is 17. Writing refuses 17, then 8."
-- Assumes nothing.
use Rattle.std.specs.Prelude.{ℕ, ◌-◌, cond, ◌&&◌, List, map, eqb, leb, ltb, ℤ, pos, length, get_or, take, drop}
use Rattle.std.specs.Int.{w32}
use Rattle.std.proofs.Common.{to_z}
use Rattle.wire.specs.Bytes.{le_value}
use Rattle.wire.specs.Parts.{parts_from, sum}
use Rattle.refusals.specs.Lent.{Given, lent_to}
use Rattle.refusals.specs.Table.{EDITION, SETTINGS, NOT_EXPRESSIBLE}
use Rattle.settings.specs.declared.Settings.{Settings}
use Rattle.settings.specs.declared.Settings2.{Settings2}
use Rattle.settings.specs.declared.Read.{Read}
use Rattle.settings.specs.declared.Read2.{Read2}
use Rattle.settings.specs.declared.Reply2.{Reply2}
use Rattle.settings.specs.declared.Reply1.{Reply1}
use Rattle.settings.specs.Image.{fits_of, image1, image2, usual_if, wider, widths1, widths2}

-- ---- the end of a slice: the trailer's numbers, and those of these widths before it

abbrev pub edition_of : List ℕ → ℕ
edition_of s = get_or s (length s - 4) 0

abbrev pub filler_of : List ℕ → ℕ
filler_of s = get_or s (length s - 3) 0

abbrev pub distance_of : List ℕ → ℕ
distance_of s = le_value (take 2 (drop (length s - 2) s))

abbrev pub values_in : List ℕ → List ℕ → List ℕ
values_in ks s = map le_value (parts_from (length s - 4 - sum ks) ks s)

-- by the trailer alone: 0, 16 or 17
unfoldable pub trailer_refusal : ℕ → ℕ → List ℕ → ℕ
trailer_refusal edition size s =
    cond (ltb (length s) 4) SETTINGS
    (cond (eqb (edition_of s) edition) (cond (eqb (filler_of s) 0 && eqb (distance_of s) size && leb size (length s - 4)) 0 SETTINGS) EDITION)

-- ---- edition 1

abbrev pub settings : ℕ → ℕ → ℤ → ℕ → ℕ → ℕ → Settings
settings kind board ppm rate frequency gain =
    record { kind = kind; board = board; ppm = ppm; rate = rate; frequency = frequency; gain = gain }

abbrev pub settings_from : List ℕ → Settings
settings_from ns = settings (get_or ns 0 0) (get_or ns 1 0) (to_z w32 (get_or ns 2 0)) (get_or ns 3 0) (get_or ns 4 0) (get_or ns 5 0)

abbrev pub read : ℕ → Settings → Read
read refusal s = record { refusal = refusal; settings = s }

-- refused: nothing of what was read
abbrev pub refused : ℕ → Read
refused number = read number (settings 0 0 (pos 0) 0 0 0)

abbrev pub field_refusal : Settings → ℕ
field_refusal s = cond (fits_of s) 0 SETTINGS

-- the trailer's refusal, then a field's, of a record of any edition
abbrev pub unless : {R : Type 0} → (ℕ → R) → ℕ → R → R
unless none refusal r = cond (eqb refusal 0) r (none refusal)

unfoldable pub judged : {R : Type 0} → (ℕ → R) → ℕ → ℕ → R → R
judged none trailer field r = unless none trailer (unless none field r)

abbrev pub found1 : List ℕ → Settings
found1 s = settings_from (values_in widths1 s)

unfoldable pub read_of1 : List ℕ → Read
read_of1 s = judged refused (trailer_refusal 1 19 s) (field_refusal (found1 s)) (read 0 (found1 s))

-- as a C host is told it
abbrev pub told_of1 : Read → Reply1
told_of1 r =
    record {
      frequency = r.settings.frequency;
      kind = r.settings.kind;
      board = r.settings.board;
      gain = r.settings.gain;
      rate = r.settings.rate;
      correction = r.settings.ppm;
      refusal = r.refusal;
      zero = 0;
    }

-- "Writing refuses 17, then 8"; the value is how many bytes were written
abbrev pub written_to : Settings → List ℕ → List ℕ → Given
written_to s image out = lent_to (field_refusal s) (length image) image out

abbrev pub written_to1 : Settings → List ℕ → Given
written_to1 s out = written_to s (image1 s) out

-- ---- edition 2. Document 02, #112: "Refusals: 16, 17, then new 18 not expressible, then 8."

abbrev pub read2 : ℕ → Settings2 → Read2
read2 refusal w = record { refusal = refusal; settings = w }

abbrev pub refused2 : ℕ → Read2
refused2 number = read2 number (wider (settings 0 0 (pos 0) 0 0 0) 0)

abbrev pub found2 : List ℕ → Settings2
found2 s = wider (settings_from (values_in widths2 s)) (get_or (values_in widths2 s) 6 0)

-- what ends in edition 2, and nothing else
unfoldable pub only_of2 : List ℕ → Read2
only_of2 s = judged refused2 (trailer_refusal 2 23 s) (field_refusal (found2 s).settings) (read2 0 (found2 s))

-- a reading of edition 1, with the IF that it stands for
unfoldable pub widened : Read → Read2
widened r = unless refused2 r.refusal (read2 0 (wider r.settings usual_if))

-- "the new reader takes both": what is not edition 2 is read as edition 1, whose 16 is for neither
unfoldable pub read_of2 : List ℕ → Read2
read_of2 s = cond (eqb (only_of2 s).refusal EDITION) (widened (read_of1 s)) (only_of2 s)

abbrev pub told_of2 : Read2 → Reply2
told_of2 r =
    record {
      frequency = r.settings.settings.frequency;
      kind = r.settings.settings.kind;
      board = r.settings.settings.board;
      gain = r.settings.settings.gain;
      rate = r.settings.settings.rate;
      correction = r.settings.settings.ppm;
      ifreq = r.settings.ifreq;
      refusal = r.refusal;
    }

abbrev pub written_to2 : Settings2 → List ℕ → Given
written_to2 w out = written_to w.settings (image2 w) out

-- "Move edition 1 to 2 with IF 2,300,000"; the output is the image alone, and its length the value
abbrev pub moved_to2 : List ℕ → List ℕ → Given
moved_to2 s out = lent_to (read_of1 s).refusal 27 (image2 (wider (read_of1 s).settings usual_if)) out

-- "Move 2 back to 1 only if IF is 2,300,000": else 18
unfoldable pub narrow_refusal : Read2 → ℕ
narrow_refusal r = cond (eqb r.refusal 0) (cond (eqb r.settings.ifreq usual_if) 0 NOT_EXPRESSIBLE) r.refusal

abbrev pub moved_to1 : List ℕ → List ℕ → Given
moved_to1 s out = lent_to (narrow_refusal (only_of2 s)) 23 (image1 (only_of2 s).settings.settings) out
