-- One law for each way in which a test of the code goes, and what the stores of an image make. Assumes nothing.
use Prim.Native.Nat.{ℕ, ◌+◌, ◌-◌, ◌*◌, ◌/◌, ◌%◌, ◌<◌, ◌≤◌}
use mathlib.Core.Path.{◌≡◌, refl, sym, ap, ap₂, ◌∙◌}
use mathlib.Core.Bool.{Bool, true, false, cond, ◌&&◌}
use mathlib.Core.List.{List, map}
use native.Mathlib.Omega.{arith}
use borrow.Author.Tests.{eq-eqb, eqb-true, leb-false, leb-true, le-ltb, lt-ltb, ltb-false, ne_eqb}
use lib.Dec.{eqb, leb, ltb}
use lib.IntN.{ℤ}
use lib.ListN.{length, take, drop}
use lib.Seq.{sets}
use mir.Syntax.{w32}
use mir.Val.{Fits, of_z, to_z}
use mir.Facts.{of_z-to_z}
use Rattle.wire.specs.Bytes.{le_bytes, le_value}
use Rattle.wire.specs.Parts.{joined, parts_from}
use Rattle.wire.proofs.Joins.{laid_joined}
use Rattle.refusals.specs.Lent.{Given, lent_to}
use Rattle.gain.specs.Steps.{clamped}
use Rattle.settings.specs.declared.Settings.{Settings}
use Rattle.settings.specs.Image.{fits_of, numbers1, parts_of, trailer, widths1}
use Rattle.settings.specs.Reading.{distance_of, edition_of, field_refusal, filler_of, found1, judged, read, read_of1, refused, settings, settings_from, trailer_refusal, written_to}
use Rattle.settings.proofs.Images.{sized}

-- ---- fields

-- an index that is not clamped is one up to 28
pub gain_test : (g : ℕ) → leb g 28 ≡ eqb (clamped g) g
gain_test g = go (leb g 28) refl
  where
    go : (t : Bool) → leb g 28 ≡ t → leb g 28 ≡ eqb (clamped g) g
    go true e =
        let most : g ≤ 28 = leb-true g 28 e in
        let same : clamped g ≡ g = omega arith in
        rw (e, eq-eqb (clamped g) g same)
    go false e =
        let over : 28 < g = leb-false g 28 e in
        rw (e, ne_eqb (clamped g) g (λ h. omega arith))

module _ (s : Settings) where
  pub fit : (leb s.kind 1 && leb s.board 1 && leb s.gain 28) ≡ true → 0 ≡ field_refusal s
  unfolding fits_of
  fit h = rw (← gain_test s.gain, h)

  pub unfit : (leb s.kind 1 && leb s.board 1 && leb s.gain 28) ≡ false → 17 ≡ field_refusal s
  unfolding fits_of
  unfit h = rw (← gain_test s.gain, h)

-- ---- the trailer

module _ (edition size : ℕ) (s : List ℕ) where
  pub too_short : length s < 4 → 17 ≡ trailer_refusal edition size s
  unfolding trailer_refusal
  too_short h = rw (lt-ltb (length s) 4 h)

  pub other_edition : 4 ≤ length s → (edition_of s ≡ edition → ⊥) → 16 ≡ trailer_refusal edition size s
  unfolding trailer_refusal
  other_edition h e = rw (le-ltb (length s) 4 h, ne_eqb (edition_of s) edition e)

  pub by_trailer : (d : ℕ) (t : Bool) → 4 ≤ length s → edition_of s ≡ edition → d ≡ distance_of s
      → (eqb (filler_of s) 0 && eqb d size && leb size (length s - 4)) ≡ t → cond t 0 17 ≡ trailer_refusal edition size s
  unfolding trailer_refusal
  by_trailer d t h e ed et = rw (le-ltb (length s) 4 h, eq-eqb (edition_of s) edition e, ← ed, et)

-- what is known of a trailer that is not refused
pub record Sealed (edition size : ℕ) (s : List ℕ) : Type 0 where
  pub long : 4 ≤ length s
  pub edition_is : edition_of s ≡ edition
  pub filler : filler_of s ≡ 0
  pub distance : distance_of s ≡ size
  pub room : size ≤ length s - 4

pub both : (a b : Bool) → a && b ≡ true → (a ≡ true) × (b ≡ true)
both true b h = (refl, h)
both false b h =
    let z : ◌≡◌ {A = ℕ} 0 1 = cc in
    absurd (omega arith)

no_number : (t : Bool) (x y : ℕ) → 0 < x → cond t x y ≡ 0 → (t ≡ false) × (y ≡ 0)
no_number true x y h e = absurd (omega (arith, h, e))
no_number false x y h e = (refl, e)

a_number : (t : Bool) (x y : ℕ) → 0 < y → cond t x y ≡ 0 → (t ≡ true) × (x ≡ 0)
a_number true x y h e = (refl, e)
a_number false x y h e = absurd (omega (arith, h, e))

pub sealed : (edition size : ℕ) (s : List ℕ) → trailer_refusal edition size s ≡ 0 → Sealed edition size s
unfolding trailer_refusal
sealed edition size s h =
    let f = eqb (filler_of s) 0 in
    let d = eqb (distance_of s) size in
    let r = leb size (length s - 4) in
    let p = no_number (ltb (length s) 4) 17 (cond (eqb (edition_of s) edition) (cond (f && d && r) 0 17) 16) (omega arith) h in
    let q = a_number (eqb (edition_of s) edition) (cond (f && d && r) 0 17) 16 (omega arith) p.1 in
    let t = a_number (f && d && r) 0 17 (omega arith) q.1 in
    let u = both (f && d) r t.0 in
    let v = both f d u.0 in
    record {
      long = ltb-false (length s) 4 p.0;
      edition_is = eqb-true (edition_of s) edition q.0;
      filler = eqb-true (filler_of s) 0 v.0;
      distance = eqb-true (distance_of s) size v.1;
      room = leb-true size (length s - 4) u.1;
    }

-- edition, zero and distance as one number
pub trailer_number : (e d : ℕ) → e < 256 → le_bytes 4 (e + 65536 * d) ≡ trailer e d
unfolding le_bytes trailer
trailer_number e d h =
    let one : (e + 65536 * d) % 256 ≡ e = omega arith in
    let rest : (e + 65536 * d) / 256 ≡ 256 * d = omega arith in
    let two : 256 * d % 256 ≡ 0 = omega arith in
    let last : 256 * d / 256 ≡ d = omega arith in
    rw (one, rest, two, last)

-- ---- reading

word_fits : (n : ℕ) → n < 4_294_967_296 → Fits w32 n
word_fits n h = record { fits = h }

module _ {R : Type 0} (none : ℕ → R) (trailer field : ℕ) (r : R) where
  pub by_trailers : (trailer ≡ 0 → ⊥) → none trailer ≡ judged none trailer field r
  unfolding judged
  by_trailers h = rw (ne_eqb trailer 0 h)

  pub by_fields : trailer ≡ 0 → (field ≡ 0 → ⊥) → none field ≡ judged none trailer field r
  unfolding judged
  by_fields z h = rw (z, ne_eqb field 0 h)

  pub neither : trailer ≡ 0 → field ≡ 0 → r ≡ judged none trailer field r
  unfolding judged
  neither z h = rw (z, h)

module _ (s : List ℕ) (refusal : ℕ) (e : refusal ≡ trailer_refusal 1 19 s) where
  pub by_refusal : (refusal ≡ 0 → ⊥) → refused refusal ≡ read_of1 s
  unfolding read_of1
  by_refusal h = rw (← e) (by_trailers refused refusal (field_refusal (found1 s)) (read 0 (found1 s)) h)

  module _ (v : Settings) (field : ℕ) (z : refusal ≡ 0) (ev : v ≡ found1 s) (ef : field ≡ field_refusal v) where
    pub by_field : (field ≡ 0 → ⊥) → refused field ≡ read_of1 s
    unfolding read_of1
    by_field h = rw (← e, ← ev, ← ef) (by_fields refused refusal field (read 0 v) z h)

    pub taken : field ≡ 0 → read 0 v ≡ read_of1 s
    unfolding read_of1
    taken h = rw (← e, ← ev, ← ef) (neither refused refusal field (read 0 v) z h)

-- where the fields stand
pub there : (s : List ℕ) (v : Settings) → 23 ≤ length s → v ≡ settings_from (map le_value (parts_from (length s - 23) widths1 s)) → v ≡ found1 s
there s v h e =
    let here : length s - 4 - 19 ≡ length s - 23 = omega arith in
    e ∙ rw here

-- ---- writing

pub fields_laid : (l : List ℕ) (s : Settings)
    → sets
    (sets (sets (sets (sets (sets l 0 (le_bytes 1 s.kind)) 1 (le_bytes 1 s.board)) 2 (le_bytes 4 (of_z w32 s.ppm))) 6 (le_bytes 4 s.rate)) 10
    (le_bytes 8 s.frequency)) 18 (le_bytes 1 s.gain)
    ≡ sets l 0 (joined (parts_of widths1 (numbers1 s)))
unfolding parts_of
fields_laid l s = laid_joined l 0 widths1 (parts_of widths1 (numbers1 s)) (sized widths1 (numbers1 s) refl)

-- an image of any edition, lent
pub written_made : (s : Settings) (target image out : List ℕ) (size refusal : ℕ) (g : Given) → g ≡ lent_to refusal size image out → refusal ≡ field_refusal s
    → image ≡ target → length target ≡ size → g ≡ written_to s target out
written_made s target image out size refusal g e er ei long =
    e ∙ ap₂ (λ (n : ℕ) (l : List ℕ). lent_to n size l out) er ei ∙ ap (λ (n : ℕ). lent_to (field_refusal s) n target out) (sym long)
