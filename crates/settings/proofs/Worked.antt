-- A settings record and its images, worked out by hand: R828D on a V4, -25 ppm, 2,048,000 samples a second, 102,300,000 Hz, gain index 14. Document 02, #108 and #112.
-- Assumes nothing.
use mathlib.Core.Path.{◌≡◌, refl}
use mathlib.Core.List.{List, [], ◌∷◌, ◌++◌}
use Prim.Native.Nat.{ℕ}
use lib.IntN.{negsuc}
use Rattle.wire.specs.Bytes.{le_bytes, le_value}
use Rattle.wire.specs.Parts.{joined}
use Rattle.refusals.specs.Table.{EDITION, SETTINGS, NOT_EXPRESSIBLE}
use Rattle.settings.specs.declared.Settings.{Settings}
use Rattle.settings.specs.Image.{fits_of, image1, image2, image_of, parts_of, trailer, wider}
use Rattle.settings.specs.Reading.{judged, narrow_refusal, only_of2, read, read2, read_of1, read_of2, refused, refused2, settings, trailer_refusal, widened}

abbrev site : Settings
site = settings 1 1 (negsuc 24) 2_048_000 102_300_000 14

-- kind, board, correction, rate, frequency, gain
abbrev fields : List ℕ
fields =
    0x01 ∷ 0x01 ∷ 0xe7 ∷ 0xff ∷ 0xff ∷ 0xff ∷ 0x00 ∷ 0x40 ∷ 0x1f ∷ 0x00 ∷ 0x60 ∷ 0xf9 ∷ 0x18 ∷ 0x06 ∷ 0x00 ∷ 0x00 ∷ 0x00 ∷ 0x00 ∷ 0x0e ∷ []

-- 2,300,000 is 0x00231860, 3,570,000 is 0x00367950
abbrev usual : List ℕ
usual = 0x60 ∷ 0x18 ∷ 0x23 ∷ 0x00 ∷ []

abbrev other : List ℕ
other = 0x50 ∷ 0x79 ∷ 0x36 ∷ 0x00 ∷ []

-- edition, a zero, the distance back
abbrev end1 : List ℕ
end1 = 0x01 ∷ 0x00 ∷ 0x13 ∷ 0x00 ∷ []

abbrev end2 : List ℕ
end2 = 0x02 ∷ 0x00 ∷ 0x17 ∷ 0x00 ∷ []

pub written_1 : image1 site ≡ fields ++ end1
unfolding image_of parts_of trailer joined le_bytes
written_1 = refl

pub written_2 : image2 (wider site 3_570_000) ≡ fields ++ (other ++ end2)
unfolding image_of parts_of trailer joined le_bytes
written_2 = refl

-- after any bytes, here two
pub read_1 : read_of1 (0xaa ∷ 0xbb ∷ (fields ++ end1)) ≡ read 0 site
unfolding read_of1 judged trailer_refusal fits_of le_value
read_1 = refl

-- "The edition 1 reader still answers 16 to edition 2, and the new reader takes both"
pub old_reader : read_of1 (fields ++ (other ++ end2)) ≡ refused EDITION
unfolding read_of1 judged trailer_refusal
old_reader = refl

pub new_reader_1 : read_of2 (fields ++ end1) ≡ read2 0 (wider site 2_300_000)
unfolding read_of2 only_of2 read_of1 widened judged trailer_refusal fits_of le_value
new_reader_1 = refl

pub new_reader_2 : read_of2 (fields ++ (other ++ end2)) ≡ read2 0 (wider site 3_570_000)
unfolding read_of2 only_of2 judged trailer_refusal fits_of le_value
new_reader_2 = refl

pub edition_3 : read_of2 (fields ++ (other ++ (0x03 ∷ 0x00 ∷ 0x17 ∷ 0x00 ∷ []))) ≡ refused2 EDITION
unfolding read_of2 only_of2 read_of1 widened judged trailer_refusal
edition_3 = refl

-- "17 settings (short slice, wrong distance, nonzero filler, kind, board or gain out of range); a slice under 4 bytes is 17"
pub short_slice : read_of1 (0x00 ∷ (0x01 ∷ 0x00 ∷ 0x13 ∷ 0x00 ∷ [])) ≡ refused SETTINGS
unfolding read_of1 judged trailer_refusal le_value
short_slice = refl

pub three_bytes : read_of1 (0x01 ∷ 0x00 ∷ 0x13 ∷ []) ≡ refused SETTINGS
unfolding read_of1 judged trailer_refusal
three_bytes = refl

pub wrong_distance : read_of1 (fields ++ (0x01 ∷ 0x00 ∷ 0x12 ∷ 0x00 ∷ [])) ≡ refused SETTINGS
unfolding read_of1 judged trailer_refusal le_value
wrong_distance = refl

pub nonzero_filler : read_of1 (fields ++ (0x01 ∷ 0x01 ∷ 0x13 ∷ 0x00 ∷ [])) ≡ refused SETTINGS
unfolding read_of1 judged trailer_refusal
nonzero_filler = refl

pub gain_of_29 : read_of1 (image1 (settings 1 1 (negsuc 24) 2_048_000 102_300_000 29)) ≡ refused SETTINGS
unfolding read_of1 judged trailer_refusal fits_of image_of parts_of trailer joined le_bytes le_value
gain_of_29 = refl

-- "Move 2 back to 1 only if IF is 2,300,000": else "18 not expressible"
pub not_expressible : narrow_refusal (only_of2 (fields ++ (other ++ end2))) ≡ NOT_EXPRESSIBLE
unfolding narrow_refusal only_of2 judged trailer_refusal fits_of le_value
not_expressible = refl

pub expressible : narrow_refusal (only_of2 (fields ++ (usual ++ end2))) ≡ 0
unfolding narrow_refusal only_of2 judged trailer_refusal fits_of le_value
expressible = refl
