-- What the code reads and stores, part by part, is what the definitions say: a chip, a tuner, the tests, the image; and the ways in which `decode_tuner` ends.
-- Assumes nothing.
use Prim.Native.Nat.{ℕ}
use mathlib.Core.Path.{◌≡◌, ◌∙◌}
use mathlib.Core.Bool.{Bool, true, false, ◌&&◌}
use mathlib.Core.List.{List, map}
use native.Mathlib.Omega.{arith}
use borrow.Author.Tests.{eq-eqb, ne_eqb}
use lib.Dec.{eqb, leb}
use lib.Ieee.{Float, binary32, of_bits, to_bits}
use lib.ListN.{length, take, drop, length-map}
use Rattle.wire.specs.Bytes.{le_value}
use Rattle.wire.proofs.Widths.{length-le_bytes}
use Rattle.chip.specs.declared.Chip.{Chip}
use Rattle.pll.specs.declared.Kind.{Kind}
use Rattle.r82xx.specs.declared.Tuner.{Tuner}
use Rattle.std.specs.Prelude.{None}
use Rattle.pll.specs.Plan.{kind_number}
use Rattle.records.specs.Fields.{flag_byte, flag_read, flags_only, kind_of, proper_gain}
use Rattle.wire.specs.Parts.{parts_from, laid, Sized}
use Rattle.records.specs.Tuners.{chip_from, is_tuner, tuner_bytes, tuner_fits, tuner_from, tuner_meant, tuner_of, tuner_parts, tuner_read, tuner_widths}
use Rattle.records.proofs.Turns.{sets_whole}
use Rattle.wire.proofs.Joins.{laid_joined, length_joined}

module _ (b : List ℕ) where
  pub chip_made : (a : ℕ) (s : List ℕ) (d : List Bool) → a ≡ le_value (take 1 (drop 1 b)) → s ≡ take 27 (drop 2 b)
      → d ≡ map flag_read (take 27 (drop 51 b))
      → ◌≡◌ {A = Chip} (record { address = a; shadow = s; doubtful = d }) (chip_from (parts_from 0 tuner_widths b))
  chip_made a s d ea es ed i = record { address = ea i; shadow = es i; doubtful = ed i }

  pub tuner_made : (k : Kind) (chip : Chip) (kn n c l g h o : ℕ) (f : Float) → kn ≡ le_value (take 1 b) → k ≡ kind_of kn
      → chip ≡ chip_from (parts_from 0 tuner_widths b) → n ≡ le_value (take 4 (drop 29 b)) → c ≡ le_value (take 4 (drop 33 b))
      → l ≡ le_value (take 1 (drop 37 b)) → g ≡ le_value (take 4 (drop 38 b)) → f ≡ of_bits binary32 g → h ≡ le_value (take 8 (drop 42 b))
      → o ≡ le_value (take 1 (drop 50 b))
      → ◌≡◌ {A = Tuner}
      (record { kind = k; chip = chip; nominal = n; corrected = c; lock = eqb l 1; gain = f; ifreq = h; notch = eqb o 1 })
      (tuner_from (parts_from 0 tuner_widths b))
  tuner_made k chip kn n c l g h o f ekn ek ech en ec el eg ef eh eo =
      rw (ef, eg, ek, ekn, ech, en, ec, el, eh, eo)

  pub fits_made : (k n c l g o : ℕ) (p f : Bool) → k ≡ le_value (take 1 b) → n ≡ le_value (take 4 (drop 29 b)) → c ≡ le_value (take 4 (drop 33 b))
      → l ≡ le_value (take 1 (drop 37 b)) → g ≡ le_value (take 4 (drop 38 b)) → p ≡ proper_gain g → o ≡ le_value (take 1 (drop 50 b))
      → f ≡ flags_only (take 27 (drop 51 b))
      → leb k 1 && leb 1 n && leb 1 c && leb l 1 && p && leb o 1 && f ≡ tuner_fits (parts_from 0 tuner_widths b)
  unfolding tuner_fits
  fits_made k n c l g o p f ek en ec el eg ep eo ef = rw (ep, eg, ek, en, ec, el, eo, ef)

  -- another length; a part out of its range; a record
  pub no_length : (length b ≡ 78 → ⊥) → tuner_meant None ≡ tuner_of b
  unfolding tuner_of is_tuner
  no_length h = rw (ne_eqb (length b) 78 h)

  pub no_fit : (f : Bool) → length b ≡ 78 → f ≡ tuner_fits (parts_from 0 tuner_widths b) → f ≡ false → tuner_meant None ≡ tuner_of b
  unfolding tuner_of is_tuner
  no_fit f h e never = rw (eq-eqb (length b) 78 h, ← e, never)

  pub whole : (f : Bool) (t : Tuner) → length b ≡ 78 → f ≡ tuner_fits (parts_from 0 tuner_widths b) → f ≡ true → t ≡ tuner_from (parts_from 0 tuner_widths b)
      → tuner_read true t ≡ tuner_of b
  unfolding tuner_of is_tuner
  whole f t h e fine same = rw (same, eq-eqb (length b) 78 h, ← e, fine)

-- a record's lists have their lengths
pub record Lists (t : Tuner) : Type 0 where
  pub shadow : length t.chip.shadow ≡ 27
  pub doubtful : length t.chip.doubtful ≡ 27

pub sized : (t : Tuner) → Lists t → Sized tuner_widths (tuner_parts t)
sized t h = (
  length-le_bytes 1 (kind_number t.kind),
  (
    length-le_bytes 1 t.chip.address,
    (
      h.shadow,
      (
        length-le_bytes 4 t.nominal,
        (
          length-le_bytes 4 t.corrected,
          (
            length-le_bytes 1 (flag_byte t.lock),
            (
              length-le_bytes 4 (to_bits binary32 t.gain),
              (
                length-le_bytes 8 t.ifreq,
                (length-le_bytes 1 (flag_byte t.notch), (length-map t.chip.doubtful flag_byte ∙ h.doubtful, tt)),
              ),
            ),
          ),
        ),
      ),
    ),
  ),
)

-- the parts stored one after the other over 78 bytes
pub image_whole : (t : Tuner) (l : List ℕ) → Lists t → length l ≡ 78 → laid l 0 tuner_widths (tuner_parts t) ≡ tuner_bytes t
unfolding tuner_bytes
image_whole t l h e =
    let long : length (tuner_bytes t) ≡ 78 = length_joined tuner_widths (tuner_parts t) (sized t h) in
    laid_joined l 0 tuner_widths (tuner_parts t) (sized t h) ∙ sets_whole l (tuner_bytes t) (omega arith)
