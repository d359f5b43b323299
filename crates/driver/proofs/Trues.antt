-- Document 02, #104: what a rate's call leaves in the driver's record. Done, it holds the rate asked and the true one, which is at least that; not done, it is the
-- record that was given. Assumes nothing.
use Prim.Native.Nat.{ℕ, ◌≤◌}
use mathlib.Core.Path.{◌≡◌, refl, sym, ap, subst, ◌∙◌}
use mathlib.Core.Bool.{Bool, true, false, ◌&&◌}
use mathlib.Core.List.{List}
use native.Mathlib.Omega.{arith}
use borrow.Author.Tests.{eqb-true}
use lib.Dec.{eqb}
use lib.ListN.{length}
use Rattle.bands.specs.declared.Planned.{Planned}
use Rattle.refusals.specs.declared.Answer.TheVariants.{Done, Refused}
use Rattle.chip.specs.declared.Progress.{Progress}
use Rattle.chip.specs.declared.Progress.TheVariants.{Going, Refused11}
use Rattle.chip.specs.Calls.{Called, answer_of, call_of, refusal_with}
use Rattle.chip.specs.Courses.{left_by}
use Rattle.chip.specs.Steps.{Trace, trace}
use Rattle.chip.proofs.Refusals.{taken_by}
use Rattle.registers.specs.Rates.{true_of}
use Rattle.registers.proofs.Ratios.{true_least}
use Rattle.r82xx.specs.declared.Tuner.{Tuner}
use Rattle.r82xx.specs.Record.{sound}
use Rattle.driver.proofs.Rates.{under}
use Rattle.driver.specs.declared.Driver.{Driver}
use Rattle.driver.specs.Record.{sound_driver, with_rate, xtal_of}
use Rattle.driver.specs.Programs.{if_for, sample_rate_steps}
use Rattle.driver.specs.Calls.{Both, rate_argument, rate_refusal, rate_result, rated_by}

-- by how the steps went
rated : (d : Driver) (rate xtal : ℕ) (progress : Progress) → answer_of (Done 0) progress ≡ Done 0 → rated_by d rate xtal progress ≡ with_rate d rate (true_of rate xtal)
rated d rate xtal Going e = refl
rated d rate xtal (Refused11 k) e = let never : ◌≡◌ {A = ℕ} 0 1 = cc in absurd (omega arith)

unrated : (d : Driver) (rate xtal : ℕ) (progress : Progress) → (answer_of (Done 0) progress ≡ Done 0 → ⊥) → rated_by d rate xtal progress ≡ d
unrated d rate xtal Going h = absurd (h refl)
unrated d rate xtal (Refused11 k) h = refl

module _ (rate : ℕ) (p : Planned) (os : List ℕ) (t : Tuner) (d : Driver) (room : List ℕ) where
  abbrev number : ℕ
  number = refusal_with (sound t && sound_driver d) (rate_argument rate p d) 17 0 (length room) (length os) 0

  abbrev ran : Trace
  ran = trace os (sample_rate_steps (if_for t.ifreq rate) rate (xtal_of d) p.plan.inverted) t.chip

  abbrev result : Called Both
  result = rate_result rate p os t d room

  -- refused before any step, or performed
  refused_so : eqb number 0 ≡ false → (result.answer ≡ Refused number) × (result.next.driver ≡ d)
  unfolding rate_result left_by call_of
  refused_so e = rw e (refl, refl)

  performed_so : eqb number 0 ≡ true → (result.answer ≡ answer_of (Done 0) ran.progress) × (result.next.driver ≡ rated_by d rate (xtal_of d) ran.progress)
  unfolding rate_result left_by call_of
  performed_so e = rw e (refl, refl)

  -- "Record both: the rate asked, and the true rate"
  pub recorded : result.answer ≡ Done 0 → (result.next.driver ≡ with_rate d rate (true_of rate (xtal_of d))) × (rate_refusal rate d ≡ 0)
  recorded done = go (eqb number 0) refl
    where
      go : (b : Bool) → eqb number 0 ≡ b → (result.next.driver ≡ with_rate d rate (true_of rate (xtal_of d))) × (rate_refusal rate d ≡ 0)
      go true e =
          let z = taken_by (sound t && sound_driver d) (rate_argument rate p d) 17 0 (length room) (length os) 0 (eqb-true number 0 e) in
          ((performed_so e).1 ∙ rated d rate (xtal_of d) ran.progress (sym (performed_so e).0 ∙ done), under p.refusal (rate_refusal rate d) z.taken)
      go false e = let other : Refused number ≡ Done 0 = sym (refused_so e).0 ∙ done in let never : ◌≡◌ {A = ℕ} 0 1 = cc in absurd (omega arith)

  -- "The true rate must be shown to be at least the rate asked wherever #103 accepts"
  pub true_at_least : result.answer ≡ Done 0 → (result.next.driver.rate ≡ rate) × (rate ≤ result.next.driver.actual)
  true_at_least done =
      let is = recorded done in (
        ap (λ (x : Driver). x.rate) is.0,
        subst (λ (n : ℕ). rate ≤ n) (sym (ap (λ (x : Driver). x.actual) is.0)) (true_least rate (xtal_of d) is.1),
      )

  -- not done: neither rate has changed, nor anything else of the record
  pub kept : (result.answer ≡ Done 0 → ⊥) → result.next.driver ≡ d
  kept undone = go (eqb number 0) refl
    where
      go : (b : Bool) → eqb number 0 ≡ b → result.next.driver ≡ d
      go true e = (performed_so e).1 ∙ unrated d rate (xtal_of d) ran.progress (λ h. undone ((performed_so e).0 ∙ h))
      go false e = (refused_so e).1
