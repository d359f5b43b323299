-- The calls that touch no tuner record: they attempt no register, so that they may stand anywhere in a sequence; and their entries are told, read and
-- cut as the others' are. Assumes nothing.
use Prim.Native.Nat.{ℕ, ◌≤◌}
use mathlib.Core.Path.{◌≡◌, refl, sym, ap, subst}
use mathlib.Core.Bool.{Bool, true, false}
use mathlib.Core.List.{List, ◌++◌, append-nil}
use native.Mathlib.Omega.{arith}
use borrow.Author.Tests.{leb-true}
use lib.Dec.{eqb, leb}
use lib.ListN.{get_or, length, set, length-set}
use Rattle.transcript.specs.declared.Entry.{Entry}
use Rattle.refusals.specs.declared.Answer.TheVariants.{Done}
use Rattle.chip.specs.declared.Chip.{Chip}
use Rattle.chip.specs.Calls.{call_entries}
use Rattle.chip.specs.Courses.{asked_by, left_by, steps_of}
use Rattle.chip.specs.Steps.{Step, every}
use Rattle.chip.proofs.Laws.{and_left, and_right}
use Rattle.device.specs.Calls.{free, free_result, no_chip}
use Rattle.device.specs.Gpio.Order.{Output, Bit}
use Rattle.device.proofs.Lengths.{bit_length, output_length}
use Rattle.demod.specs.Calls.Order.{Baseband, LowIf, ZeroIf, Reset, Direct, Start, Stop, IfXtal, RateXtal}
use Rattle.demod.proofs.Lengths.{direct_length, if_length, init_length, low_if_length, rate_length, reset_length, start_length, stop_length, zero_if_length}
use Rattle.history.specs.Programs.{beside, fine}
use Rattle.history.specs.Histories.{History}
use Rattle.history.specs.Histories.History.{aside}
use Rattle.sequences.specs.Asides.{Aside, Other, aside_asked, aside_entries, aside_given, aside_most, aside_result, aside_row, aside_uncut}
use Rattle.sequences.specs.Asides.Other.{Pin, Demod}
use Rattle.sequences.proofs.Beside.{beside_bit, beside_direct, beside_if, beside_init, beside_low, beside_output, beside_rate, beside_reset, beside_start, beside_stop, beside_zero, fines}
use Rattle.sequences.proofs.Views.{Stepping, asked_steps, suffices}

-- ---- their steps

pub aside_beside : (o : Other) → aside_given o ≡ true → every beside (steps_of (aside_row o)) ≡ true
aside_beside (Pin (Output pin rs)) g = beside_output pin (get_or rs 0 0) (get_or rs 1 0)
aside_beside (Pin (Bit pin value rs)) g = beside_bit pin value (get_or rs 0 0)
aside_beside (Demod Baseband) g = beside_init
aside_beside (Demod LowIf) g = beside_low
aside_beside (Demod ZeroIf) g = beside_zero
aside_beside (Demod Reset) g = beside_reset
aside_beside (Demod (Direct page register value)) g =
    beside_direct page register value (leb-true page 255 (and_left (leb page 255) (leb register 65535) g))
    (leb-true register 65535 (and_right (leb page 255) (leb register 65535) g))
aside_beside (Demod Start) g = beside_start
aside_beside (Demod Stop) g = beside_stop
aside_beside (Demod (IfXtal hz xtal)) g = beside_if hz xtal
aside_beside (Demod (RateXtal rate xtal)) g = beside_rate rate xtal

-- "Other `src/demod.rs` calls need as many entries as they make interface calls"
pub aside_length : (o : Other) → length (steps_of (aside_row o)) ≡ aside_most o
aside_length (Pin (Output pin rs)) = output_length pin (get_or rs 0 0) (get_or rs 1 0)
aside_length (Pin (Bit pin value rs)) = bit_length pin value (get_or rs 0 0)
aside_length (Demod Baseband) = init_length
aside_length (Demod LowIf) = low_if_length
aside_length (Demod ZeroIf) = zero_if_length
aside_length (Demod Reset) = reset_length
aside_length (Demod (Direct page register value)) = direct_length page register value
aside_length (Demod Start) = start_length
aside_length (Demod Stop) = stop_length
aside_length (Demod (IfXtal hz xtal)) = if_length hz xtal
aside_length (Demod (RateXtal rate xtal)) = rate_length rate xtal

-- ---- their contracts

-- of any row without a record
free_stepping : (argument n m : ℕ) (rs : List ℕ) (ss : List Step) (os room : List ℕ) → every fine ss ≡ true → length ss ≡ n → n ≤ 45
    → Stepping (Unit {0}) no_chip tt (free_result (free argument n m rs ss) os room) (asked_by true (free argument n m rs ss) (length os) (length room)) os room
unfolding free_result left_by
free_stepping argument n m rs ss os room g l f =
    record {
      whole = Done 0;
      keep = λ tr. tt;
      same = refl;
      named = refl;
      good = g;
      few = omega arith;
      roomy = suffices true argument n m os rs room ss (omega arith);
    }

pub aside_stepping : (a : Aside) → aside_given a.other ≡ true → Stepping (Unit {0}) no_chip tt (aside_result a) (aside_asked a) a.outcomes a.room
aside_stepping a g = by a.other (fines (steps_of (aside_row a.other)) (aside_beside a.other g)) (aside_length a.other)
  where
    by : (o : Other) → every fine (steps_of (aside_row o)) ≡ true → length (steps_of (aside_row o)) ≡ aside_most o
        → Stepping (Unit {0}) no_chip tt (free_result (aside_row o) a.outcomes a.room) (asked_by true (aside_row o) (length a.outcomes) (length a.room)) a.outcomes a.room
    by (Pin (Output pin rs)) f l = free_stepping _ 4 2 rs _ a.outcomes a.room f l (omega arith)
    by (Pin (Bit pin value rs)) f l = free_stepping _ 2 1 rs _ a.outcomes a.room f l (omega arith)
    by (Demod Baseband) f l = free_stepping _ 45 0 _ _ a.outcomes a.room f l (omega arith)
    by (Demod LowIf) f l = free_stepping _ 2 0 _ _ a.outcomes a.room f l (omega arith)
    by (Demod ZeroIf) f l = free_stepping _ 2 0 _ _ a.outcomes a.room f l (omega arith)
    by (Demod Reset) f l = free_stepping _ 2 0 _ _ a.outcomes a.room f l (omega arith)
    by (Demod (Direct page register value)) f l = free_stepping _ 1 0 _ _ a.outcomes a.room f l (omega arith)
    by (Demod Start) f l = free_stepping _ 2 0 _ _ a.outcomes a.room f l (omega arith)
    by (Demod Stop) f l = free_stepping _ 2 0 _ _ a.outcomes a.room f l (omega arith)
    by (Demod (IfXtal hz xtal)) f l = free_stepping _ 3 0 _ _ a.outcomes a.room f l (omega arith)
    by (Demod (RateXtal rate xtal)) f l = free_stepping _ 4 0 _ _ a.outcomes a.room f l (omega arith)

-- what is asked hangs on how many outcomes there are, not on what they are
pub aside_uncut_lem : (i : ℕ) (a : Aside) → call_entries (aside_asked a).number (set a.outcomes i 0) (aside_asked a).steps no_chip ≡ aside_entries (aside_uncut i a)
aside_uncut_lem i a =
    ap (λ (n : ℕ). call_entries (asked_by true (aside_row a.other) n (length a.room)).number (set a.outcomes i 0) (asked_by true (aside_row a.other) n (length a.room)).steps no_chip)
    (sym (length-set a.outcomes i 0))

-- a program that attempts no register, refused or not
module _ (init : List ℕ) (c : Chip) (es : List Entry) (h : History init c es) (os : List ℕ) (number : ℕ) (ss : List Step) (k : every beside ss ≡ true) where
  beside_by : (b : Bool) → eqb number 0 ≡ b → History init c (es ++ call_entries number os ss no_chip)
  beside_by true e = rw e (aside c es h no_chip os ss k)
  beside_by false e = rw (e, append-nil es) h

  beside_history : History init c (es ++ call_entries number os ss no_chip)
  beside_history = beside_by (eqb number 0) refl

-- one more call of a history, which leaves the tuner's record
pub aside_history : (a : Aside) → aside_given a.other ≡ true → (init : List ℕ) (c : Chip) (es : List Entry) → History init c es → History init c (es ++ aside_entries a)
aside_history a g init c es h =
    beside_history init c es h a.outcomes (aside_asked a).number (aside_asked a).steps
    (subst (λ (ss : List Step). every beside ss ≡ true) (sym (asked_steps true (aside_row a.other) (length a.outcomes) (length a.room))) (aside_beside a.other g))
