-- Edition 1, both ways: every settings record is read back from its image, whatever stands before it, and every slice that is taken is what stood before it
-- and the image of the record that was read. So a record has one image and an image one record. Assumes nothing.
use Prim.Native.Nat.{ℕ, ◌-◌, ◌^◌, ◌<◌, ◌≤◌}
use mathlib.Core.Path.{◌≡◌, refl, sym, ap, subst, ◌∙◌}
use mathlib.Core.Bool.{Bool, true, false, cond, ◌&&◌}
use mathlib.Core.List.{List, [], ◌∷◌, ◌++◌}
use native.Mathlib.Omega.{arith}
use borrow.Author.Tests.{eq-eqb, eqb-false, eqb-true, le-leb, le-ltb, leb-true, ne_eqb}
use lib.Dec.{eqb, leb}
use lib.ListN.{length, get_or, take}
use mir.Syntax.{w32}
use mir.Val.{Fits, of_z, to_z}
use mir.Facts.{Fits-of_z, of_z-to_z, sfits_to_z, to_z-of_z}
use Rattle.wire.specs.Bytes.{Bytes}
use Rattle.wire.specs.Parts.{sum}
use Rattle.refusals.specs.Table.{EDITION}
use Rattle.gain.specs.Steps.{clamped}
use Rattle.settings.specs.declared.Settings.{Settings}
use Rattle.settings.specs.declared.Read.{Read}
use Rattle.settings.specs.Image.{Proper, Within, fits_of, image1, image_of, numbers1, widths1}
use Rattle.settings.specs.Reading.{distance_of, edition_of, field_refusal, filler_of, found1, judged, read, read_of1, refused, settings, settings_from, trailer_refusal, unless, values_in}
use Rattle.settings.proofs.Images.{distance_read, edition_read, filler_read, long, numbers_read, whole, within_read}
use Rattle.settings.proofs.Laws.{Sealed, both, sealed}

-- ---- any edition

module _ (p : List ℕ) (edition : ℕ) (ks ns : List ℕ) (within : Within ks ns) where
  -- its own trailer is not refused
  pub accepted : (size : ℕ) → sum ks ≡ size → size < 65536 → trailer_refusal edition size (p ++ image_of edition ks ns) ≡ 0
  unfolding trailer_refusal
  accepted size e small =
      let b = p ++ image_of edition ks ns in
      let n = long p edition ks ns within in
      let d : distance_of b ≡ size = distance_read p edition ks ns within (omega arith) ∙ e in
      rw (
        le-ltb (length b) 4 (omega arith),
        eq-eqb (edition_of b) edition (edition_read p edition ks ns within),
        eq-eqb (filler_of b) 0 (filler_read p edition ks ns within),
        eq-eqb (distance_of b) size d,
        le-leb size (length b - 4) (omega arith),
      )

  -- and a reader of another edition answers 16, whatever its fields are
  pub other : (asked size : ℕ) → (edition ≡ asked → ⊥) → trailer_refusal asked size (p ++ image_of edition ks ns) ≡ EDITION
  unfolding trailer_refusal
  other asked size h =
      let b = p ++ image_of edition ks ns in
      let n = long p edition ks ns within in
      rw (le-ltb (length b) 4 (omega arith), ne_eqb (edition_of b) asked (λ e. h (sym (edition_read p edition ks ns within) ∙ e)))

-- ---- the fields

-- what is known of numbers that fit
pub record Small (s : Settings) : Type 0 where
  pub kind : s.kind ≤ 1
  pub board : s.board ≤ 1
  pub gain : s.gain ≤ 28

pub small : (s : Settings) → fits_of s ≡ true → Small s
unfolding fits_of
small s h =
    let k = leb s.kind 1 in
    let b = leb s.board 1 in
    let p = both (k && b) (eqb (clamped s.gain) s.gain) h in
    let q = both k b p.0 in
    let same : clamped s.gain ≡ s.gain = eqb-true (clamped s.gain) s.gain p.1 in
    record { kind = leb-true s.kind 1 q.0; board = leb-true s.board 1 q.1; gain = omega arith }

pub fields_within : (s : Settings) → Proper s → Within widths1 (numbers1 s)
fields_within s h =
    let f = small s h.fits in
    let p : of_z w32 s.ppm < 256 ^ 4 = (Fits-of_z h.ppm).fits in
    (omega (arith, f.kind), (omega (arith, f.board), (p, (h.rate, (h.frequency, (omega (arith, f.gain), tt))))))

-- a record from its own numbers
pub fields_back : (s : Settings) → Proper s → settings_from (numbers1 s) ≡ s
fields_back s h i =
    record { kind = s.kind; board = s.board; ppm = to_z-of_z h.ppm i; rate = s.rate; frequency = s.frequency; gain = s.gain }

-- ---- written, then read

pub written_then_read : (p : List ℕ) (s : Settings) → Proper s → read_of1 (p ++ image1 s) ≡ read 0 s
unfolding read_of1 judged
written_then_read p s h =
    let w = fields_within s h in
    let v : settings_from (values_in widths1 (p ++ image1 s)) ≡ s = ap settings_from (numbers_read p 1 widths1 (numbers1 s) w) ∙ fields_back s h in
    rw (accepted p 1 widths1 (numbers1 s) w 19 refl (omega arith), v, h.fits)

-- so two records have not the same image
pub one_image : (s t : Settings) → Proper s → Proper t → image1 s ≡ image1 t → s ≡ t
one_image s t h k e =
    ap (λ (r : Read). r.settings) (sym (written_then_read [] s h) ∙ ap read_of1 e ∙ written_then_read [] t k)

-- ---- read, then written

-- none tells its number, so a record that tells 0 was not refused
module _ {R : Type 0} (none : ℕ → R) (number : R → ℕ) (tells : (n : ℕ) → number (none n) ≡ n) where
  unrefused : (refusal : ℕ) (r : R) → number (unless none refusal r) ≡ 0 → (refusal ≡ 0) × (unless none refusal r ≡ r)
  unrefused refusal r h = go (eqb refusal 0) refl
    where
      go : (t : Bool) → eqb refusal 0 ≡ t → (refusal ≡ 0) × (unless none refusal r ≡ r)
      go true e = (eqb-true refusal 0 e, rw e)
      go false e =
          let z : refusal ≡ 0 = sym (tells refusal) ∙ rw e at h in
          absurd (eqb-false refusal 0 e z)

  pub both_passed : (trailer field : ℕ) (r : R) → number (judged none trailer field r) ≡ 0 → (trailer ≡ 0) × ((field ≡ 0) × (judged none trailer field r ≡ r))
  unfolding judged
  both_passed trailer field r h =
      let one = unrefused trailer (unless none field r) h in
      let two = unrefused field r (sym (ap number one.1) ∙ h) in
      (one.0, (two.0, one.1 ∙ two.1))

pub fits_by : (t : Bool) → ◌≡◌ {A = ℕ} (cond t 0 17) 0 → t ≡ true
fits_by true h = refl
fits_by false h = absurd (omega (arith, h))

-- a slice that is taken: what stands before, and the image of the record that is read, which is one
pub record Taken (b : List ℕ) (s : Settings) : Type 0 where
  pub proper : Proper s
  pub whole : take (length b - 23) b ++ image1 s ≡ b

pub word_fits : (n : ℕ) → n < 256 ^ 4 → Fits w32 n
word_fits n h = record { fits = h }

-- numbers of their widths that fit are a settings record's
pub proper_of : (k b p r f g : ℕ) → p < 256 ^ 4 → r < 256 ^ 4 → f < 256 ^ 8 → fits_of (settings k b (to_z w32 p) r f g) ≡ true → Proper (settings k b (to_z w32 p) r f g)
proper_of k b p r f g hp hr hf fits = record { fits = fits; ppm = sfits_to_z (word_fits p hp); rate = hr; frequency = hf }

module _ (b : List ℕ) (bytes : Bytes b) (h : (read_of1 b).refusal ≡ 0) where
  passed : (trailer_refusal 1 19 b ≡ 0) × ((field_refusal (found1 b) ≡ 0) × (read_of1 b ≡ read 0 (found1 b)))
  unfolding read_of1
  passed = both_passed refused (λ (r : Read). r.refusal) (λ n. refl) (trailer_refusal 1 19 b) (field_refusal (found1 b)) (read 0 (found1 b)) h

  end : Sealed 1 19 b
  end = sealed 1 19 b passed.0

  each : Within widths1 (values_in widths1 b)
  each = within_read b bytes 1 widths1 end.long end.room end.edition_is end.filler end.distance

  -- the correction's bits come back
  numbers_back : numbers1 (found1 b) ≡ values_in widths1 b
  numbers_back =
      let n = values_in widths1 b in
      ap (λ (x : ℕ). get_or n 0 0 ∷ get_or n 1 0 ∷ x ∷ get_or n 3 0 ∷ get_or n 4 0 ∷ get_or n 5 0 ∷ []) (of_z-to_z (word_fits (get_or n 2 0) each.1.1.0))

  proper_found : Proper (found1 b)
  proper_found =
      let n = values_in widths1 b in
      proper_of (get_or n 0 0) (get_or n 1 0) (get_or n 2 0) (get_or n 3 0) (get_or n 4 0) (get_or n 5 0) each.1.1.0 each.1.1.1.0 each.1.1.1.1.0
      (fits_by (fits_of (found1 b)) passed.1.0)

  pub read_then_written : Taken b (read_of1 b).settings
  read_then_written =
      let here : length b - 4 - 19 ≡ length b - 23 = omega arith in
      subst (λ (r : Read). Taken b r.settings) (sym passed.1.1)
      (record {
        proper = proper_found;
        whole =
            ap (λ (i : ℕ). take i b ++ image1 (found1 b)) (sym here)
            ∙ ap (λ (l : List ℕ). take (length b - 4 - 19) b ++ image_of 1 widths1 l) numbers_back
            ∙ whole b bytes 1 widths1 end.long end.room end.edition_is end.filler end.distance;
      })
