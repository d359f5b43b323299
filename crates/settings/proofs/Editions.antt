-- Edition 2 beside edition 1: one law for each way in which a test of the code goes. Assumes nothing.
use Prim.Native.Nat.{ℕ, ◌+◌, ◌-◌, ◌≤◌}
use mathlib.Core.Path.{◌≡◌, refl, sym, ap, ap₂, ◌∙◌}
use mathlib.Core.List.{List, map}
use native.Mathlib.Omega.{arith}
use borrow.Author.Tests.{eq-eqb, ne_eqb}
use lib.ListN.{length, take, drop}
use lib.Seq.{sets}
use Rattle.wire.specs.Bytes.{le_bytes, le_value}
use Rattle.wire.specs.Parts.{joined, parts_from}
use Rattle.wire.proofs.Joins.{laid_joined}
use Rattle.refusals.specs.Lent.{Given, lent_to}
use Rattle.refusals.specs.Table.{EDITION}
use Rattle.settings.specs.declared.Settings.{Settings}
use Rattle.settings.specs.declared.Settings2.{Settings2}
use Rattle.settings.specs.declared.Read.{Read}
use Rattle.settings.specs.declared.Read2.{Read2}
use Rattle.settings.specs.Image.{image1, image2, numbers1, numbers2, parts_of, usual_if, wider, widths1, widths2}
use Rattle.settings.specs.Reading.{field_refusal, found2, moved_to1, moved_to2, narrow_refusal, only_of2, read2, read_of1, read_of2, refused2, settings_from, trailer_refusal, widened}
use Rattle.settings.proofs.Images.{sized}
use Rattle.settings.proofs.Laws.{by_fields, by_trailers, fields_laid, neither}

-- ---- reading

module _ (s : List ℕ) (refusal : ℕ) (e : refusal ≡ trailer_refusal 2 23 s) where
  pub by_refusal2 : (refusal ≡ 0 → ⊥) → refused2 refusal ≡ only_of2 s
  unfolding only_of2
  by_refusal2 h = rw (← e) (by_trailers refused2 refusal (field_refusal (found2 s).settings) (read2 0 (found2 s)) h)

  module _ (v : Settings) (field : ℕ) (z : refusal ≡ 0) (ev : v ≡ (found2 s).settings) (ef : field ≡ field_refusal v) where
    pub by_field2 : (field ≡ 0 → ⊥) → refused2 field ≡ only_of2 s
    unfolding only_of2
    by_field2 h = rw (← e, ← ev, ← ef) (by_fields refused2 refusal field (read2 0 (wider v (found2 s).ifreq)) z h)

    pub taken2 : (n : ℕ) → n ≡ (found2 s).ifreq → field ≡ 0 → read2 0 (wider v n) ≡ only_of2 s
    unfolding only_of2
    taken2 n en h = rw (← e, ← ev, ← ef, ← en) (neither refused2 refusal field (read2 0 (wider v n)) z h)

-- where the fields and the IF stand
pub there2 : (s : List ℕ) (v : Settings) → v ≡ settings_from (map le_value (parts_from (length s - 27) widths1 s)) → v ≡ (found2 s).settings
there2 s v e =
    let here : length s - 4 - 23 ≡ length s - 27 = omega arith in
    e ∙ rw here

pub if_there : (s : List ℕ) (n : ℕ) → 27 ≤ length s → n ≡ le_value (take 4 (drop (length s - 27 + 19) s)) → n ≡ (found2 s).ifreq
if_there s n h e =
    let here : length s - 4 - 23 + 1 + 1 + 4 + 4 + 8 + 1 ≡ length s - 27 + 19 = omega arith in
    e ∙ ap (λ (i : ℕ). le_value (take 4 (drop i s))) (sym here)

-- both editions
module _ (s : List ℕ) (r : Read2) where
  pub by_old : (x : Read) → r ≡ only_of2 s → x ≡ read_of1 s → r.refusal ≡ EDITION → widened x ≡ read_of2 s
  unfolding read_of2
  by_old x e f h = rw (← e, eq-eqb r.refusal EDITION h, f)

  pub by_own : r ≡ only_of2 s → (r.refusal ≡ EDITION → ⊥) → r ≡ read_of2 s
  unfolding read_of2
  by_own e h = rw (← e, ne_eqb r.refusal EDITION h)

module _ (r : Read) where
  pub widened_refused : (r.refusal ≡ 0 → ⊥) → refused2 r.refusal ≡ widened r
  unfolding widened
  widened_refused h = rw (ne_eqb r.refusal 0 h)

  pub widened_read : r.refusal ≡ 0 → read2 0 (wider r.settings usual_if) ≡ widened r
  unfolding widened
  widened_read h = rw (eq-eqb r.refusal 0 h)

module _ (r : Read2) where
  pub narrow_refused : (r.refusal ≡ 0 → ⊥) → r.refusal ≡ narrow_refusal r
  unfolding narrow_refusal
  narrow_refused h = rw (ne_eqb r.refusal 0 h)

  pub narrow_other : r.refusal ≡ 0 → (r.settings.ifreq ≡ 2300000 → ⊥) → 18 ≡ narrow_refusal r
  unfolding narrow_refusal
  narrow_other z h = rw (eq-eqb r.refusal 0 z, ne_eqb r.settings.ifreq 2300000 h)

  pub narrow_usual : r.refusal ≡ 0 → r.settings.ifreq ≡ 2300000 → 0 ≡ narrow_refusal r
  unfolding narrow_refusal
  narrow_usual z h = rw (eq-eqb r.refusal 0 z, eq-eqb r.settings.ifreq 2300000 h)

-- ---- writing

-- the IF behind the fields of edition 1
pub if_laid : (l : List ℕ) (w : Settings2)
    → sets (sets l 0 (joined (parts_of widths1 (numbers1 w.settings)))) 19 (le_bytes 4 w.ifreq) ≡ sets l 0 (joined (parts_of widths2 (numbers2 w)))
unfolding parts_of
if_laid l w =
    ap (λ (k : List ℕ). sets k 19 (le_bytes 4 w.ifreq)) (sym (fields_laid l w.settings))
    ∙ laid_joined l 0 widths2 (parts_of widths2 (numbers2 w)) (sized widths2 (numbers2 w) refl)

pub moved_2 : (s out image : List ℕ) (r : Read) (g : Given) → g ≡ lent_to r.refusal 27 image out → image ≡ image2 (wider r.settings 2300000)
    → r ≡ read_of1 s → g ≡ moved_to2 s out
moved_2 s out image r g e ei er =
    e
    ∙ ap (λ (l : List ℕ). lent_to r.refusal 27 l out) ei
    ∙ ap (λ (x : Read). lent_to x.refusal 27 (image2 (wider x.settings usual_if)) out) er

pub moved_1 : (s out image : List ℕ) (r : Read2) (refusal : ℕ) (g : Given) → g ≡ lent_to refusal 23 image out → refusal ≡ narrow_refusal r
    → image ≡ image1 r.settings.settings → r ≡ only_of2 s → g ≡ moved_to1 s out
moved_1 s out image r refusal g e en ei er =
    e
    ∙ ap₂ (λ (n : ℕ) (l : List ℕ). lent_to n 23 l out) en ei
    ∙ ap (λ (x : Read2). lent_to (narrow_refusal x) 23 (image1 x.settings.settings) out) er
