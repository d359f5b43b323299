-- Edition 2, both ways, and the moves between the editions, for any bytes before an image. Assumes nothing.
use Prim.Native.Nat.{ℕ, ◌+◌, ◌-◌, ◌≤◌}
use mathlib.Core.Path.{◌≡◌, refl, sym, ap, subst, ◌∙◌}
use mathlib.Core.List.{List, [], ◌∷◌, ◌++◌}
use native.Mathlib.Omega.{arith}
use lib.ListN.{length, get_or, take, drop}
use lib.Seq.{sets, sets-eq, take_at}
use mir.Facts.{of_z-to_z}
use Rattle.wire.specs.Bytes.{Bytes}
use Rattle.refusals.specs.declared.Answer.TheVariants.{Done, Refused}
use Rattle.refusals.specs.Lent.{Given, given, lent_to}
use Rattle.refusals.proofs.Giving.{laid, refused}
use Rattle.refusals.specs.Table.{EDITION, NOT_EXPRESSIBLE}
use Rattle.settings.specs.declared.Settings.{Settings}
use Rattle.settings.specs.declared.Settings2.{Settings2}
use Rattle.settings.specs.declared.Read.{Read}
use Rattle.settings.specs.declared.Read2.{Read2}
use Rattle.settings.specs.Image.{Proper, Proper2, Within, fits_of, image1, image2, image_of, numbers1, numbers2, usual_if, wider, widths1, widths2}
use Rattle.settings.specs.Reading.{field_refusal, found2, judged, moved_to1, moved_to2, narrow_refusal, only_of2, read, read2, read_of1, read_of2, refused2, settings_from, trailer_refusal, values_in, widened}
use Rattle.settings.specs.Reading as reading
use Rattle.settings.proofs.Images.{length_image, numbers_read, whole, within_read}
use Rattle.settings.proofs.Laws.{Sealed, sealed}
use Rattle.settings.proofs.Editions.{narrow_other, narrow_refused, narrow_usual}
use Rattle.settings.proofs.Exact.{accepted, both_passed, fields_back, fields_within, fits_by, other, proper_of, word_fits, written_then_read}

pub fields2_within : (w : Settings2) → Proper2 w → Within widths2 (numbers2 w)
fields2_within w h =
    let a = fields_within w.settings h.first in
    (a.0, (a.1.0, (a.1.1.0, (a.1.1.1.0, (a.1.1.1.1.0, (a.1.1.1.1.1.0, (h.ifreq, tt)))))))

-- ---- written, then read

-- edition 1's reader answers 16 to every image of edition 2, whatever its fields are
pub later_is_16 : (p ns : List ℕ) → Within widths2 ns → read_of1 (p ++ image_of 2 widths2 ns) ≡ reading.refused EDITION
unfolding read_of1 judged
later_is_16 p ns within = rw (other p 2 widths2 ns within 1 19 (λ e. omega (arith, e)))

module _ (p : List ℕ) (w : Settings2) (h : Proper2 w) where
  pub only_read : only_of2 (p ++ image2 w) ≡ read2 0 w
  unfolding only_of2 judged
  only_read =
      let in-widths = fields2_within w h in
      let v : found2 (p ++ image2 w) ≡ w =
      ap (λ (ns : List ℕ). wider (settings_from ns) (get_or ns 6 0)) (numbers_read p 2 widths2 (numbers2 w) in-widths)
      ∙ ap (λ (s : Settings). wider s w.ifreq) (fields_back w.settings h.first) in
      ap (λ (x : Settings2). judged refused2 (trailer_refusal 2 23 (p ++ image2 w)) (field_refusal x.settings) (read2 0 x)) v
      ∙ rw (accepted p 2 widths2 (numbers2 w) in-widths 23 refl (omega arith), h.first.fits)

  pub written_then_read2 : read_of2 (p ++ image2 w) ≡ read2 0 w
  unfolding read_of2
  written_then_read2 = rw only_read

module _ (p : List ℕ) (s : Settings) (h : Proper s) where
  -- of edition 1 the strict reader of edition 2 reads nothing
  pub old_is_16 : only_of2 (p ++ image1 s) ≡ refused2 EDITION
  unfolding only_of2 judged
  old_is_16 = rw (other p 1 widths1 (numbers1 s) (fields_within s h) 2 23 (λ e. omega (arith, e)))

  -- and the new reader takes it with the IF that it stands for
  pub old_then_read2 : read_of2 (p ++ image1 s) ≡ read2 0 (wider s usual_if)
  unfolding read_of2 widened
  old_then_read2 = rw (old_is_16, written_then_read p s h)

-- ---- read, then written

pub record Taken2 (b : List ℕ) (w : Settings2) : Type 0 where
  pub proper : Proper2 w
  pub whole : take (length b - 27) b ++ image2 w ≡ b

module _ (b : List ℕ) (bytes : Bytes b) (h : (only_of2 b).refusal ≡ 0) where
  passed : (trailer_refusal 2 23 b ≡ 0) × ((field_refusal (found2 b).settings ≡ 0) × (only_of2 b ≡ read2 0 (found2 b)))
  unfolding only_of2
  passed = both_passed refused2 (λ (r : Read2). r.refusal) (λ n. refl) (trailer_refusal 2 23 b) (field_refusal (found2 b).settings) (read2 0 (found2 b)) h

  end : Sealed 2 23 b
  end = sealed 2 23 b passed.0

  each : Within widths2 (values_in widths2 b)
  each = within_read b bytes 2 widths2 end.long end.room end.edition_is end.filler end.distance

  numbers_back : numbers2 (found2 b) ≡ values_in widths2 b
  numbers_back =
      let n = values_in widths2 b in
      ap (λ (x : ℕ). get_or n 0 0 ∷ get_or n 1 0 ∷ x ∷ get_or n 3 0 ∷ get_or n 4 0 ∷ get_or n 5 0 ∷ get_or n 6 0 ∷ []) (of_z-to_z (word_fits (get_or n 2 0) each.1.1.0))

  pub read_then_written2 : Taken2 b (only_of2 b).settings
  read_then_written2 =
      let n = values_in widths2 b in
      let here : length b - 4 - 23 ≡ length b - 27 = omega arith in
      subst (λ (r : Read2). Taken2 b r.settings) (sym passed.1.1)
      (record {
        proper =
            record {
              first =
                  proper_of (get_or n 0 0) (get_or n 1 0) (get_or n 2 0) (get_or n 3 0) (get_or n 4 0) (get_or n 5 0) each.1.1.0 each.1.1.1.0
                  each.1.1.1.1.0 (fits_by (fits_of (found2 b).settings) passed.1.0);
              ifreq = each.1.1.1.1.1.1.0;
            };
        whole =
            ap (λ (i : ℕ). take i b ++ image2 (found2 b)) (sym here)
            ∙ ap (λ (l : List ℕ). take (length b - 4 - 23) b ++ image_of 2 widths2 l) numbers_back
            ∙ whole b bytes 2 widths2 end.long end.room end.edition_is end.filler end.distance;
      })

-- ---- the moves

-- the bytes that a lent slice begins with
first : (out image : List ℕ) (n : ℕ) → length image ≡ n → n ≤ length out → take n (sets out 0 image) ≡ image
first out image n e h =
    ap (take n) (sets-eq image out 0 (omega arith)) ∙ take_at image (drop (0 + length image) out) n e

long1 : (s : Settings) → length (image1 s) ≡ 23
long1 s = length_image 1 widths1 (numbers1 s) refl

long2 : (w : Settings2) → length (image2 w) ≡ 27
long2 w = length_image 2 widths2 (numbers2 w) refl

module _ (s : Settings) (h : Proper s) where
  usual_proper : Proper2 (wider s usual_if)
  usual_proper = record { first = h; ifreq = omega arith }

  module _ (p out : List ℕ) (room : 27 ≤ length out) where
    pub forth : moved_to2 (p ++ image1 s) out ≡ given (Done 27) (sets out 0 (image2 (wider s usual_if)))
    forth =
        ap (λ (r : Read). lent_to r.refusal 27 (image2 (wider r.settings usual_if)) out) (written_then_read p s h)
        ∙ sym (laid 0 27 (image2 (wider s usual_if)) out refl (omega (arith, room, long2 (wider s usual_if))))

  module _ (p out : List ℕ) (room : 23 ≤ length out) where
    pub back : moved_to1 (p ++ image2 (wider s usual_if)) out ≡ given (Done 23) (sets out 0 (image1 s))
    back =
        ap (λ (r : Read2). lent_to (narrow_refusal r) 23 (image1 r.settings.settings) out) (only_read p (wider s usual_if) usual_proper)
        ∙ sym (laid (narrow_refusal (read2 0 (wider s usual_if))) 23 (image1 s) out (sym (narrow_usual (read2 0 (wider s usual_if)) refl refl)) (omega (arith, room, long1 s)))

  -- "There and back gives the same bytes": of edition 1, and of edition 2 where it can be moved
  pub there_and_back : (p q out last : List ℕ) → 27 ≤ length out → 23 ≤ length last
      → take 23 (moved_to1 (q ++ take 27 (moved_to2 (p ++ image1 s) out).out) last).out ≡ image1 s
  there_and_back p q out last room rest =
      let sent : take 27 (moved_to2 (p ++ image1 s) out).out ≡ image2 (wider s usual_if) =
      ap (λ (g : Given). take 27 g.out) (forth p out room) ∙ first out (image2 (wider s usual_if)) 27 (long2 (wider s usual_if)) room in
      ap (λ (l : List ℕ). take 23 (moved_to1 (q ++ l) last).out) sent
      ∙ ap (λ (g : Given). take 23 g.out) (back q last rest)
      ∙ first last (image1 s) 23 (long1 s) rest

  pub back_and_there : (p q out last : List ℕ) → 23 ≤ length out → 27 ≤ length last
      → take 27 (moved_to2 (q ++ take 23 (moved_to1 (p ++ image2 (wider s usual_if)) out).out) last).out ≡ image2 (wider s usual_if)
  back_and_there p q out last room rest =
      let sent : take 23 (moved_to1 (p ++ image2 (wider s usual_if)) out).out ≡ image1 s =
      ap (λ (g : Given). take 23 g.out) (back p out room) ∙ first out (image1 s) 23 (long1 s) room in
      ap (λ (l : List ℕ). take 27 (moved_to2 (q ++ l) last).out) sent
      ∙ ap (λ (g : Given). take 27 g.out) (forth q last rest)
      ∙ first last (image2 (wider s usual_if)) 27 (long2 (wider s usual_if)) rest

  -- a move that is given the other edition
  pub already_1 : (p out : List ℕ) → moved_to1 (p ++ image1 s) out ≡ given (Refused EDITION) out
  already_1 p out =
      ap (λ (r : Read2). lent_to (narrow_refusal r) 23 (image1 r.settings.settings) out) (old_is_16 p s h)
      ∙ ap (λ (n : ℕ). lent_to n 23 (image1 (refused2 EDITION).settings.settings) out) (sym (narrow_refused (refused2 EDITION) (λ e. omega (arith, e))))
      ∙ sym (refused EDITION 23 (image1 (refused2 EDITION).settings.settings) out (omega arith))

pub already_2 : (p out ns : List ℕ) → Within widths2 ns → moved_to2 (p ++ image_of 2 widths2 ns) out ≡ given (Refused EDITION) out
already_2 p out ns within =
    ap (λ (r : Read). lent_to r.refusal 27 (image2 (wider r.settings usual_if)) out) (later_is_16 p ns within)
    ∙ sym (refused EDITION 27 (image2 (wider (reading.refused EDITION).settings usual_if)) out (omega arith))

-- "Move 2 back to 1 only if IF is 2,300,000": another IF is 18, and the output stays
pub not_expressible : (p out : List ℕ) (w : Settings2) → Proper2 w → (w.ifreq ≡ usual_if → ⊥) → moved_to1 (p ++ image2 w) out ≡ given (Refused NOT_EXPRESSIBLE) out
not_expressible p out w h other-if =
    ap (λ (r : Read2). lent_to (narrow_refusal r) 23 (image1 r.settings.settings) out) (only_read p w h)
    ∙ ap (λ (n : ℕ). lent_to n 23 (image1 w.settings) out) (sym (narrow_other (read2 0 w) refl other-if))
    ∙ sym (refused NOT_EXPRESSIBLE 23 (image1 w.settings) out (omega arith))
