-- The one correction: what its functions on numbers answer, case by case, that what they store and answer is what the row leaves, and the request's sentence.
-- Assumes nothing.
use Prim.Native.Nat.{ℕ}
use mathlib.Core.Path.{◌≡◌, refl, sym, ap, ◌∙◌}
use mathlib.Core.Bool.{Bool, true, false, ◌&&◌, cond}
use mathlib.Core.List.{[]}
use native.Mathlib.Omega.{arith}
use borrow.Author.Tests.{eq-eqb, ne_eqb}
use lib.Dec.{eqb, leb}
use lib.IntN.{ℤ}
use Rattle.refusals.specs.declared.Answer.{Answer}
use Rattle.refusals.specs.declared.Answer.TheVariants.{Done, Refused}
use Rattle.refusals.specs.Table.{SETUP, CORRECTION}
use Rattle.chip.specs.Calls.{Called, called}
use Rattle.chip.specs.Courses.{left_by}
use Rattle.chip.specs.Courses.Course.{Still}
use Rattle.chip.proofs.Laws.{and_left, and_right}
use Rattle.std.specs.Prelude.{Some}
use Rattle.reference.specs.Correct.{corrected_of}
use Rattle.r82xx.specs.declared.Tuner.{Tuner}
use Rattle.r82xx.specs.Record.{sound, sound_by, with_corrected}
use Rattle.driver.specs.declared.Driver.{Driver}
use Rattle.driver.specs.Record.{sound_driver, with_ppm, xtal_by, xtal_of}
use Rattle.driver.specs.InCode.{correction_answer, correction_refusal, kept_ppm, kept_reference}
use Rattle.driver.specs.Calls.{Both, both, correction_call, correction_result}
use Rattle.driver.proofs.Xtals.{xtal_is}

module _ (nominal corrected other : ℕ) (had ppm : ℤ) where
  abbrev refusal : ℕ
  refusal = correction_refusal nominal corrected other had ppm

  -- what was found of the records, and of the references that they would have
  module _ (s : Bool) (x : ℕ) (by_tuner : s ≡ sound_by nominal corrected) (by-driver : x ≡ xtal_by other had) where
    pub not_whole : (s && leb 1 x) ≡ false → 1 ≡ refusal
    unfolding correction_refusal
    not_whole h = rw (← by_tuner, ← by-driver, h)

    module _ (whole : (s && leb 1 x) ≡ true) (y z : ℕ) (by_one : y ≡ xtal_by nominal ppm) (by-other : z ≡ xtal_by other ppm) where
      pub not_taken : (leb 1 y && leb 1 z) ≡ false → 4 ≡ refusal
      unfolding correction_refusal
      not_taken h = rw (← by_tuner, ← by-driver, whole, ← by_one, ← by-other, h)

      pub taken : (leb 1 y && leb 1 z) ≡ true → 0 ≡ refusal
      unfolding correction_refusal
      taken h = rw (← by_tuner, ← by-driver, whole, ← by_one, ← by-other, h)

  -- what is stored and answered, by the number that was found
  module _ (n : ℕ) (is : n ≡ refusal) where
    module _ (no : n ≡ 0 → ⊥) where
      pub reference_stays : corrected ≡ kept_reference nominal corrected other had ppm
      unfolding kept_reference
      reference_stays = rw (← is, ne_eqb n 0 no)

      pub ppm_stays : had ≡ kept_ppm nominal corrected other had ppm
      unfolding kept_ppm
      ppm_stays = rw (← is, ne_eqb n 0 no)

      pub answers_no : Refused n ≡ correction_answer nominal corrected other had ppm
      unfolding correction_answer
      answers_no = rw (← is, ne_eqb n 0 no)

    module _ (yes : n ≡ 0) where
      pub reference_changes : (v : ℕ) → v ≡ xtal_by nominal ppm → v ≡ kept_reference nominal corrected other had ppm
      unfolding kept_reference
      reference_changes v e = e ∙ rw (← is, eq-eqb n 0 yes)

      pub ppm_changes : ppm ≡ kept_ppm nominal corrected other had ppm
      unfolding kept_ppm
      ppm_changes = rw (← is, eq-eqb n 0 yes)

      pub answers_yes : Done 0 ≡ correction_answer nominal corrected other had ppm
      unfolding correction_answer
      answers_yes = rw (← is, eq-eqb n 0 yes)

-- its number, by whether the records are whole and the references taken
abbrev number : Bool → Bool → ℕ
number whole taken = cond whole (cond taken 0 4) 1

-- both records where they lie, behind the call
pub correction_left : (t : Tuner) (d : Driver) (ppm : ℤ) (v : ℕ) (z : ℤ) (r : Answer)
    → v ≡ kept_reference t.nominal t.corrected d.nominal d.ppm ppm → z ≡ kept_ppm t.nominal t.corrected d.nominal d.ppm ppm
    → r ≡ correction_answer t.nominal t.corrected d.nominal d.ppm ppm
    → called (both (with_corrected t v) (with_ppm d z)) [] 0 r ≡ correction_call ppm t d
unfolding correction_result left_by correction_refusal kept_reference kept_ppm correction_answer
correction_left t d ppm v z r e f g =
    (λ i. called (both (with_corrected t (e i)) (with_ppm d (f i))) [] 0 (g i))
    ∙ go (sound t && sound_driver d) (leb 1 (xtal_by t.nominal ppm) && leb 1 (xtal_by d.nominal ppm))
  where
    go : (whole taken : Bool)
        → called (both (with_corrected t (cond (eqb (number whole taken) 0) (xtal_by t.nominal ppm) t.corrected)) (with_ppm d (cond (eqb (number whole taken) 0) ppm d.ppm))) [] 0
        (cond (eqb (number whole taken) 0) (Done 0) (Refused (number whole taken)))
        ≡ left_by whole (cond taken (Still (both (with_corrected t (xtal_by t.nominal ppm)) (with_ppm d ppm)) (Done 0)) (Still (both t d) (Refused CORRECTION))) [] t.chip (both t d) []
    go true true = refl
    go true false = refl
    go false true = refl
    go false false = refl

-- what the call leaves of each record, and its answer, which are all of it: it makes no entry, and leaves no room
pub correction_alone : (t : Tuner) (d : Driver) (ppm : ℤ) (u : Tuner) (e : Driver) (r : Answer) → called (both u e) [] 0 r ≡ correction_call ppm t d
    → (u ≡ (correction_call ppm t d).next.tuner) × (e ≡ (correction_call ppm t d).next.driver) × (r ≡ (correction_call ppm t d).answer)
correction_alone t d ppm u e r h = (ap (λ (x : Called Both). x.next.tuner) h, ap (λ (x : Called Both). x.next.driver) h, ap (λ (x : Called Both). x.answer) h)

pub correction_quiet : (t : Tuner) (d : Driver) (ppm : ℤ)
    → called (both (correction_call ppm t d).next.tuner (correction_call ppm t d).next.driver) [] 0 (correction_call ppm t d).answer ≡ correction_call ppm t d
correction_quiet t d ppm =
    let same = correction_left t d ppm _ _ _ refl refl refl in
    ap (λ (x : Called Both). called (both x.next.tuner x.next.driver) [] 0 x.answer) (sym same) ∙ same

-- ---- the request's sentence, over the call

-- it is one of three: 1, 4, or both set
module _ (ppm : ℤ) (t : Tuner) (d : Driver) where
  abbrev Taken : Bool
  Taken = leb 1 (xtal_by t.nominal ppm) && leb 1 (xtal_by d.nominal ppm)

  not_sound : (sound t && sound_driver d) ≡ false → correction_call ppm t d ≡ called (both t d) [] 0 (Refused SETUP)
  unfolding correction_result left_by
  not_sound h = go Taken
    where
      go : (b : Bool)
          → left_by (sound t && sound_driver d)
          (cond b (Still (both (with_corrected t (xtal_by t.nominal ppm)) (with_ppm d ppm)) (Done 0)) (Still (both t d) (Refused CORRECTION))) [] t.chip (both t d) []
          ≡ called (both t d) [] 0 (Refused SETUP)
      go true = rw h
      go false = rw h

  pub out_of_range : (sound t && sound_driver d) ≡ true → Taken ≡ false → correction_call ppm t d ≡ called (both t d) [] 0 (Refused CORRECTION)
  unfolding correction_result left_by
  out_of_range h k = rw (h, k)

  in_range_lem : (sound t && sound_driver d) ≡ true → Taken ≡ true → correction_call ppm t d ≡ called (both (with_corrected t (xtal_by t.nominal ppm)) (with_ppm d ppm)) [] 0 (Done 0)
  unfolding correction_result left_by
  in_range_lem h k = rw (h, k)

  -- "works out both corrected references from their own nominals and sets both": done, the tuner holds its own, and the driver's is what its ppm gives
  pub both_set : (correction_call ppm t d).answer ≡ Done 0
      → (corrected_of t.nominal ppm ≡ Some (correction_call ppm t d).next.tuner.corrected)
      × (corrected_of d.nominal ppm ≡ Some (xtal_of (correction_call ppm t d).next.driver))
  both_set done = go (sound t && sound_driver d) Taken refl refl
    where
      go : (w b : Bool) → (sound t && sound_driver d) ≡ w → Taken ≡ b
          → (corrected_of t.nominal ppm ≡ Some (correction_call ppm t d).next.tuner.corrected)
          × (corrected_of d.nominal ppm ≡ Some (xtal_of (correction_call ppm t d).next.driver))
      go true true h k =
          let is = in_range_lem h k in (
            xtal_is t.nominal ppm (and_left (leb 1 (xtal_by t.nominal ppm)) (leb 1 (xtal_by d.nominal ppm)) k)
                ∙ ap (λ (x : Called Both). Some x.next.tuner.corrected) (sym is),
            xtal_is d.nominal ppm (and_right (leb 1 (xtal_by t.nominal ppm)) (leb 1 (xtal_by d.nominal ppm)) k)
                ∙ ap (λ (x : Called Both). Some (xtal_of x.next.driver)) (sym is),
          )
      go true false h k = let other : Refused CORRECTION ≡ Done 0 = sym (ap (λ (x : Called Both). x.answer) (out_of_range h k)) ∙ done in let never : ◌≡◌ {A = ℕ} 0 1 = cc in absurd (omega arith)
      go false b h k = let other : Refused SETUP ≡ Done 0 = sym (ap (λ (x : Called Both). x.answer) (not_sound h)) ∙ done in let never : ◌≡◌ {A = ℕ} 0 1 = cc in absurd (omega arith)

  -- "or refuses and sets neither"
  pub neither_set : ((correction_call ppm t d).answer ≡ Done 0 → ⊥) → (correction_call ppm t d).next ≡ both t d
  neither_set undone = go (sound t && sound_driver d) Taken refl refl
    where
      go : (w b : Bool) → (sound t && sound_driver d) ≡ w → Taken ≡ b → (correction_call ppm t d).next ≡ both t d
      go true true h k = absurd (undone (ap (λ (x : Called Both). x.answer) (in_range_lem h k)))
      go true false h k = ap (λ (x : Called Both). x.next) (out_of_range h k)
      go false b h k = ap (λ (x : Called Both). x.next) (not_sound h)
