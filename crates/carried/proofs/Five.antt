-- #106, "refusal 5 goes with it": of the calls that take no record none is refused 5 either. Assumes nothing.
use Prim.Native.Nat.{ℕ}
use mathlib.Core.Path.{◌≡◌, refl}
use mathlib.Core.Bool.{Bool, true, false, cond}
use mathlib.Core.List.{List}
use lib.Dec.{eqb, ltb}
use lib.ListN.{length}
use Rattle.refusals.specs.declared.Answer.TheVariants.{Done, Refused}
use Rattle.chip.specs.declared.Progress.{Progress}
use Rattle.chip.specs.declared.Progress.TheVariants.{Going, Refused11}
use Rattle.refusals.specs.Answers.{number_of}
use Rattle.refusals.specs.Table.{CORRECTION, PIN}
use Rattle.chip.specs.Calls.{Called, answer_of, call_of, called, performed, refusal_with, too_short}
use Rattle.chip.specs.Courses.{left_by}
use Rattle.chip.specs.Steps.{Step, trace}
use Rattle.device.specs.Calls.{free, free_result, no_chip}
use Rattle.device.specs.Gpio.{pin_refusal}
use Rattle.device.specs.Gpio.Order.{Output, Bit}
use Rattle.demod.specs.Calls.Order.{Baseband, LowIf, ZeroIf, Reset, Direct, Start, Stop, IfXtal, RateXtal}
use Rattle.registers.specs.Rates.{rate_number, xtal_number}
use Rattle.sequences.specs.Asides.{Aside, Other, aside_result, aside_row}
use Rattle.sequences.specs.Asides.Other.{Pin, Demod}
use Rattle.carried.proofs.Steady.{fives, lent_number, rate_test}

module _ (argument n m : ℕ) (rs os room : List ℕ) (ss : List Step) (h : eqb argument 5 ≡ false) where
  abbrev number : ℕ
  number = refusal_with true argument n m (length room) (length os) (length rs)

  number_told : eqb number 5 ≡ false
  number_told = go (eqb argument 0)
    where
      go : (b : Bool) → eqb (cond b (too_short n m (length room) (length os) (length rs)) argument) 5 ≡ false
      go true = lent_number (λ k. eqb k 5) fives n m (length room) (length os) (length rs)
      go false = h

  free_told : eqb (number_of (free_result (free argument n m rs ss) os room).answer) 5 ≡ false
  unfolding free_result left_by call_of
  free_told = go (eqb number 0)
    where
      by : (w : Progress) → eqb (number_of (answer_of (Done 0) w)) 5 ≡ false
      by Going = refl
      by (Refused11 k) = refl

      left : Bool → Called (Unit {0})
      left b = cond b (performed (Done 0) (λ t. tt {0}) room (trace os ss no_chip)) (called (tt {0}) room 0 (Refused number))

      go : (b : Bool) → eqb (number_of (left b).answer) 5 ≡ false
      go true = by (trace os ss no_chip).progress
      go false = number_told

pin_told : (pin : ℕ) → eqb (pin_refusal pin) 5 ≡ false
pin_told pin = go (ltb 7 pin)
  where
    go : (b : Bool) → eqb (cond b PIN 0) 5 ≡ false
    go true = refl
    go false = refl

xtal_told : (xtal : ℕ) → eqb (xtal_number xtal 0) 5 ≡ false
xtal_told xtal = go (eqb xtal 0)
  where
    go : (b : Bool) → eqb (cond b CORRECTION 0) 5 ≡ false
    go true = refl
    go false = refl

row_told : (o : Other) (os room : List ℕ) → eqb (number_of (free_result (aside_row o) os room).answer) 5 ≡ false
row_told (Pin (Output pin rs)) os room = free_told (pin_refusal pin) 4 2 rs os room _ (pin_told pin)
row_told (Pin (Bit pin value rs)) os room = free_told (pin_refusal pin) 2 1 rs os room _ (pin_told pin)
row_told (Demod Baseband) os room = free_told 0 45 0 _ os room _ refl
row_told (Demod LowIf) os room = free_told 0 2 0 _ os room _ refl
row_told (Demod ZeroIf) os room = free_told 0 2 0 _ os room _ refl
row_told (Demod Reset) os room = free_told 0 2 0 _ os room _ refl
row_told (Demod (Direct page register value)) os room = free_told 0 1 0 _ os room _ refl
row_told (Demod Start) os room = free_told 0 2 0 _ os room _ refl
row_told (Demod Stop) os room = free_told 0 2 0 _ os room _ refl
row_told (Demod (IfXtal hz xtal)) os room = free_told (xtal_number xtal 0) 3 0 _ os room _ (xtal_told xtal)
row_told (Demod (RateXtal rate xtal)) os room = free_told (rate_number rate xtal) 4 0 _ os room _ (rate_test (λ k. eqb k 5) fives rate xtal)

pub aside_never_five : (a : Aside) → eqb (number_of (aside_result a).answer) 5 ≡ false
aside_never_five a = row_told a.other a.outcomes a.room
