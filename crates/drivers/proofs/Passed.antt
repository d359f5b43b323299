-- What each call over the driver's bytes comes to: refused before its steps, or made and handed back.
-- Assumes nothing.
use Prim.Native.Nat.{ℕ, ◌<◌, ◌≤◌}
use mathlib.Core.Path.{◌≡◌, refl, sym, ap, ◌∙◌}
use mathlib.Core.Bool.{Bool, true, false, cond, ◌&&◌, ◌||◌, false≢true}
use mathlib.Core.List.{List, []}
use native.Mathlib.Omega.{arith}
use borrow.Author.Tests.{eqb-true, lt-ltb, le-ltb, ltb-false}
use lib.Dec.{eqb, ltb}
use lib.IntN.{ℤ}
use lib.ListN.{length}
use Rattle.std.specs.Prelude.{Option}
use Rattle.refusals.specs.declared.Answer.{Answer}
use Rattle.refusals.specs.declared.Answer.TheVariants.{Refused}
use Rattle.refusals.specs.Table.{SETUP}
use Rattle.chip.specs.declared.LockTries.{LockTries}
use Rattle.chip.specs.Calls.{Called, called}
use Rattle.chip.specs.Entries.{no_tries}
use Rattle.chip.proofs.Laws.{and_left, and_right}
use Rattle.wire.specs.Parts.{parts_from}
use Rattle.centre.specs.Centre.{centre_of}
use Rattle.driver.specs.declared.Driver.{Driver}
use Rattle.board.specs.declared.Path.{Path}
use Rattle.board.specs.Numbers.{path_of}
use Rattle.chip.specs.Courses.{argument_of}
use Rattle.tuners.specs.Over.{path_refusal}
use Rattle.tuners.proofs.Passed.{path_argued}
use Rattle.driver.specs.Calls.{board_row, Both, both, correction_call}
use Rattle.r82xx.specs.declared.Tuner.{Tuner}
use Rattle.records.specs.Drivers.{DriverRead, driver_meant, driver_read}
use Rattle.records.specs.Tuners.{TunerRead, tuner_read}
use Rattle.records.specs.Drivers.{driver_bytes, driver_fits, driver_from, driver_of, driver_widths, is_driver, pick_driver}
use Rattle.records.specs.Tuners.{is_tuner, pick_tuner, tuner_bytes, tuner_fits, tuner_from, tuner_of, tuner_widths}
use Rattle.reply.specs.declared.Reply.{Reply}
use Rattle.reply.specs.declared.TuneReply.{TuneReply}
use Rattle.reply.specs.Replies.{reply_of, tuned_of}
use Rattle.std.specs.Prelude.{Option, None, Some, MatchOption}
use Rattle.tuners.specs.Over.{next_of}
use Rattle.tuners.specs.Still.{of_record}
use Rattle.tuners.proofs.Record.{no_record, of_record_lem}
use Rattle.tuners.proofs.Passed.{none_refused, not_refused, refused}
use Rattle.drivers.specs.Drivers.{Rates, both_ready, centre_over, correct_over, corrects, corrects_made, hops, hops_by, over_both, rates, rates_made, rates_refused, lock_tries_both}

-- either slice too short, or neither
module _ (driver tuner : ℕ) where
  pub driver_short : driver < 29 → (ltb driver 29 || ltb tuner 78) ≡ true
  driver_short h = rw (lt-ltb driver 29 h)

  pub tuner_short : 29 ≤ driver → tuner < 78 → (ltb driver 29 || ltb tuner 78) ≡ true
  tuner_short h i = rw (le-ltb driver 29 h, lt-ltb tuner 78 i)

  pub neither_short : 29 ≤ driver → 78 ≤ tuner → (ltb driver 29 || ltb tuner 78) ≡ false
  neither_short h i = rw (le-ltb driver 29 h, le-ltb tuner 78 i)

-- where nothing is refused, both slices have the bytes that are written
both_fit : (x y : Bool) (driver tuner : ℕ) → ltb driver 29 ≡ x → ltb tuner 78 ≡ y → (x || y) ≡ false → (29 ≤ driver) × (78 ≤ tuner)
both_fit true y driver tuner d t e = absurd (false≢true (sym e))
both_fit false true driver tuner d t e = absurd (false≢true (sym e))
both_fit false false driver tuner d t e = (ltb-false driver 29 d, ltb-false tuner 78 t)

pub fits : (ok : Bool) (argument driver tuner : ℕ) → both_ready ok argument driver tuner ≡ 0 → (29 ≤ driver) × (78 ≤ tuner)
unfolding both_ready
fits ok argument driver tuner e =
    both_fit (ltb driver 29) (ltb tuner 78) driver tuner refl refl (none_refused ok argument (ltb driver 29 || ltb tuner 78) e).0

-- a call over both records, by its argument's number and by what it leaves
module _ (argument : Tuner → Driver → ℕ) (result : Tuner → Driver → Called Both) (d t room driver tuner : List ℕ) where
  abbrev number : ℕ
  number = both_ready ((driver_of d).ok && (tuner_of t).ok) (argument (tuner_of t).tuner (driver_of d).driver) (length driver) (length tuner)

  abbrev made : Rates
  made = rates_made (result (tuner_of t).tuner (driver_of d).driver) driver tuner

  -- what is read, and the number that it is refused by, as the code has them
  module _ (dr : DriverRead) (tr : TunerRead) (k n : ℕ) (is-driver : dr ≡ driver_of d) (is-tuner : tr ≡ tuner_of t)
      (argued : k ≡ argument tr.tuner dr.driver) (said : n ≡ both_ready (dr.ok && tr.ok) k (length driver) (length tuner)) where
    number_is : n ≡ number
    number_is =
        said
        ∙ ap (λ (x : ℕ). both_ready (dr.ok && tr.ok) x (length driver) (length tuner)) argued
        ∙ (λ i. both_ready ((is-driver i).ok && (is-tuner i).ok) (argument (is-tuner i).tuner (is-driver i).driver) (length driver) (length tuner))

    pub refused_by_lem : (r : Reply) → (n ≡ 0 → ⊥) → r ≡ reply_of (Refused n) 0 → rates r room driver tuner ≡ over_both argument result d t room driver tuner
    unfolding over_both
    refused_by_lem r h e =
        ap (λ (x : Reply). rates x room driver tuner) e ∙ refused number (λ n. rates_refused n room driver tuner) made n number_is h

    pub handed_back : n ≡ 0
        → (t' : Tuner) (d' : Driver) (left : List ℕ) (count : ℕ) (a : Answer)
        → called (both t' d') left count a ≡ result tr.tuner dr.driver
        → (r : Reply) (wrote-driver wrote-tuner : List ℕ)
        → (r ≡ reply_of a count) × (wrote-driver ≡ next_of driver_bytes a count d' driver) × (wrote-tuner ≡ next_of tuner_bytes a count t' tuner)
        → rates r left wrote-driver wrote-tuner ≡ over_both argument result d t room driver tuner
    unfolding over_both
    handed_back z t' d' left count a e r wd wt h =
        (λ i. rates (h.0 i) left (h.1 i) (h.2 i))
        ∙ ap (λ (x : Called Both). rates_made x driver tuner) e
        ∙ (λ i. rates_made (result (is-tuner i).tuner (is-driver i).driver) driver tuner)
        ∙ not_refused number (λ n. rates_refused n room driver tuner) made (sym number_is ∙ z)

    -- what is told of the lock
    module _ (seen : Tuner → Driver → LockTries) where
      pub untold : (n ≡ 0 → ⊥) → no_tries ≡ lock_tries_both argument seen d t driver tuner
      unfolding lock_tries_both
      untold h = refused number (λ n. no_tries) (seen (tuner_of t).tuner (driver_of d).driver) n number_is h

      pub told : n ≡ 0 → (s : LockTries) → s ≡ seen tr.tuner dr.driver → s ≡ lock_tries_both argument seen d t driver tuner
      unfolding lock_tries_both
      told z s e =
          e ∙ (λ i. seen (is-tuner i).tuner (is-driver i).driver) ∙ not_refused number (λ n. no_tries) (seen (tuner_of t).tuner (driver_of d).driver) (sym number_is ∙ z)

  -- bytes of which either are no record
  module _ (none : ((driver_of d).ok && (tuner_of t).ok) ≡ false) where
    unready : 1 ≡ number
    unfolding both_ready
    unready = rw none

    pub no_both : (r : Reply) → r ≡ reply_of (Refused SETUP) 0 → rates r room driver tuner ≡ over_both argument result d t room driver tuner
    unfolding over_both
    no_both r e =
        ap (λ (x : Reply). rates x room driver tuner) e ∙ refused number (λ n. rates_refused n room driver tuner) made 1 unready (λ z. omega arith)

    pub none_tried : (seen : Tuner → Driver → LockTries) → no_tries ≡ lock_tries_both argument seen d t driver tuner
    unfolding lock_tries_both
    none_tried seen = refused number (λ n. no_tries) (seen (tuner_of t).tuner (driver_of d).driver) 1 unready (λ z. omega arith)

-- a hop's reply is a rate's with what is told of the lock
pub hop_told : (r : TuneReply) (q : Reply) (s : LockTries) (room driver tuner : List ℕ) (o : Rates) (all : LockTries) → r ≡ tuned_of q s → rates q room driver tuner ≡ o → s ≡ all
    → hops r room driver tuner ≡ hops_by o all
hop_told r q s room driver tuner o all e f g = ap (λ (x : TuneReply). hops x room driver tuner) e ∙ (λ i. hops_by (f i) (g i))

-- a record that was read has its exact length
tuner_long : (b : List ℕ) → (tuner_of b).ok ≡ true → 78 ≤ length b
unfolding tuner_of is_tuner
tuner_long b h = go (is_tuner b) refl h
  where
    go : (x : Bool) → is_tuner b ≡ x → (pick_tuner x (tuner_from (parts_from 0 tuner_widths b))).ok ≡ true → 78 ≤ length b
    go true e k = let exact = eqb-true (length b) 78 (and_left (eqb (length b) 78) (tuner_fits (parts_from 0 tuner_widths b)) e) in omega arith
    go false e k = absurd (false≢true k)

driver_long : (b : List ℕ) → (driver_of b).ok ≡ true → 29 ≤ length b
unfolding driver_of is_driver
driver_long b h = go (is_driver b) refl h
  where
    go : (x : Bool) → is_driver b ≡ x → (pick_driver x (driver_from (parts_from 0 driver_widths b))).ok ≡ true → 29 ≤ length b
    go true e k = let exact = eqb-true (length b) 29 (and_left (eqb (length b) 29) (driver_fits (parts_from 0 driver_widths b)) e) in omega arith
    go false e k = absurd (false≢true k)

-- a correction of both records, as the code has read them
no_two : (a b : Bool) → (a && b) ≡ false → (b && a) ≡ false
no_two true false e = refl
no_two false true e = refl
no_two false false e = refl
no_two true true e = e

module _ (ppm : ℤ) (t d : List ℕ) where
  pub no_records : ((driver_of d).ok && (tuner_of t).ok) ≡ false → (r : Reply) → r ≡ reply_of (Refused SETUP) 0 → corrects r t d ≡ correct_over ppm t d
  unfolding correct_over
  no_records h r e = ap (λ (x : Reply). corrects x t d) e ∙ rw (no_two (driver_of d).ok (tuner_of t).ok h)

  module _ (tr : Tuner) (dr : Driver) (is-tuner : tuner_read true tr ≡ tuner_of t) (is-driver : driver_read true dr ≡ driver_of d) where
    there : ((tuner_of t).ok && (driver_of d).ok) ≡ true
    there = sym (λ i. (is-tuner i).ok && (is-driver i).ok)

    pub lengths : (29 ≤ length d) × (78 ≤ length t)
    lengths = (
      driver_long d (and_right (tuner_of t).ok (driver_of d).ok there),
      tuner_long t (and_left (tuner_of t).ok (driver_of d).ok there),
    )

    pub corrected_back : (t' : Tuner) (d' : Driver) (a : Answer) → called (both t' d') [] 0 a ≡ correction_call ppm tr dr
        → (r : Reply) (wrote-tuner wrote-driver : List ℕ) → r ≡ reply_of a 0 → wrote-tuner ≡ next_of tuner_bytes a 0 t' t → wrote-driver ≡ next_of driver_bytes a 0 d' d
        → corrects r wrote-tuner wrote-driver ≡ correct_over ppm t d
    unfolding correct_over
    corrected_back t' d' a e r wt wd by-reply by_tuner by-driver =
        (λ i. corrects (by-reply i) (by_tuner i) (by-driver i))
        ∙ ap (λ (x : Called Both). corrects_made x t d) (e ∙ (λ i. correction_call ppm (is-tuner i).tuner (is-driver i).driver))
        ∙ rw there

-- an answer that is told of a driver's record
pub told_of_driver : (b : List ℕ) (make : Driver → Answer) (o : Option Driver) → driver_meant o ≡ driver_of b → (P : Driver → Type 0) (a : Answer)
    → MatchOption o (a ≡ Refused SETUP) P → ((d : Driver) → P d → a ≡ make d) → a ≡ of_record (driver_of b).ok (driver_of b).driver make (Refused SETUP)
told_of_driver b make None is P a m each = m ∙ no_record (λ (x : DriverRead). x.ok) (λ (x : DriverRead). x.driver) _ _ is make (Refused SETUP) refl
told_of_driver b make (Some d) is P a m each = of_record_lem (λ (x : DriverRead). x.ok) (λ (x : DriverRead). x.driver) _ _ is make (Refused SETUP) refl a (each d m)

-- the recording's centre
abbrev pub Both_read : List ℕ → List ℕ → Driver × Tuner → Type 0
Both_read d t r = (driver_read true r.0 ≡ driver_of d) × (tuner_read true r.1 ≡ tuner_of t)

pub centred : (table d t : List ℕ) (o : Option (Driver × Tuner)) → MatchOption o (((driver_of d).ok && (tuner_of t).ok) ≡ false) (Both_read d t)
    → (P : Driver × Tuner → Type 0) (a : Answer) → MatchOption o (a ≡ Refused SETUP) P → ((r : Driver × Tuner) → P r → a ≡ centre_of table r.0 r.1)
    → a ≡ centre_over table d t
unfolding centre_over
centred table d t None none P a m each = m ∙ rw none
centred table d t (Some r) read P a m each =
    each r m ∙ (λ i. cond ((read.0 i).ok && (read.1 i).ok) (centre_of table (read.0 i).driver (read.1 i).tuner) (Refused SETUP))

-- the board's path
pub board_path_argued : (rs : List ℕ) (t : Tuner) (path : ℕ) → path_refusal path ≡ argument_of (board_row (path_of path) rs t)
board_path_argued rs t path = path_argued (λ (p : Option Path). board_row p rs t) refl (λ p. refl) path
