-- The calls without steps: bytes that are no record, or the call on the one that they are. Said for any record and any reader of one, a flag and the
-- record behind it, so that crate drivers cites the same laws for its own.
-- Assumes nothing.
use Prim.Native.Nat.{ℕ}
use Rattle.std.specs.Prelude.{Option, None, Some, MatchOption}
use Rattle.r82xx.specs.declared.Tuner.{Tuner}
use Rattle.records.specs.Tuners.{TunerRead, tuner_meant, tuner_of}
use mathlib.Core.Path.{◌≡◌, refl, sym, ap, ◌∙◌}
use mathlib.Core.Bool.{Bool, true, false}
use mathlib.Core.List.{List, []}
use Rattle.refusals.specs.Lent.{Given, answered_to, given}
use Rattle.refusals.specs.declared.Answer.{Answer}
use Rattle.refusals.specs.declared.Answer.TheVariants.{Refused}
use Rattle.refusals.specs.Table.{SETUP}
use Rattle.chip.specs.Calls.{Called, called}
use Rattle.tuners.specs.Still.{changed_to, of_record}

-- what was read, and what the bytes are read as
module _ {Read R : Type 0} (ok : Read → Bool) (value : Read → R) (read meant : Read) (is : read ≡ meant) where
  ok_is : (b : Bool) → ok read ≡ b → ok meant ≡ b
  ok_is b h = sym (ap ok is) ∙ h

  module _ {A : Type 0} (make : R → A) (none : A) where
    pub no_record : ok read ≡ false → none ≡ of_record (ok meant) (value meant) make none
    unfolding of_record
    no_record h = rw (ok_is false h)

    there : ok read ≡ true → make (value meant) ≡ of_record (ok meant) (value meant) make none
    unfolding of_record
    there h = rw (ok_is true h)

    pub of_record_lem : ok read ≡ true → (a : A) → a ≡ make (value read) → a ≡ of_record (ok meant) (value meant) make none
    of_record_lem h a e = e ∙ ap (λ (x : Read). make (value x)) is ∙ there h

  -- the call's record and answer, and what was lent of them
  pub changed : (bytes : R → List ℕ) (call : R → Called R) (out : List ℕ) → ok read ≡ true
      → (r : R) (count : ℕ) (a : Answer) → called r [] count a ≡ call (value read)
      → (g : Given) → g ≡ answered_to a (bytes r) out
      → g ≡ of_record (ok meant) (value meant) (changed_to bytes call out) (given (Refused SETUP) out)
  changed bytes call out h r count a e g w =
      of_record_lem (changed_to bytes call out) (given (Refused SETUP) out) h g
      (w ∙ ap (λ (x : Called R). answered_to x.answer (bytes x.next) out) e)

-- an answer that is told of a tuner's record
pub told : (b : List ℕ) (make : Tuner → Answer) (o : Option Tuner) → tuner_meant o ≡ tuner_of b → (P : Tuner → Type 0) (a : Answer) → MatchOption o (a ≡ Refused SETUP) P
    → ((t : Tuner) → P t → a ≡ make t) → a ≡ of_record (tuner_of b).ok (tuner_of b).tuner make (Refused SETUP)
told b make None is P a m each = m ∙ no_record (λ (x : TunerRead). x.ok) (λ (x : TunerRead). x.tuner) _ _ is make (Refused SETUP) refl
told b make (Some t) is P a m each = of_record_lem (λ (x : TunerRead). x.ok) (λ (x : TunerRead). x.tuner) _ _ is make (Refused SETUP) refl a (each t m)
