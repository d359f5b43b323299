-- What a command's arm comes to: the exported call over both records' bytes, where they lie, is the command's row. Assumes nothing.
use Prim.Native.Nat.{ℕ, ◌≤◌}
use mathlib.Core.Path.{◌≡◌, refl, sym, ap, ◌∙◌}
use mathlib.Core.Bool.{Bool, true, false, ◌&&◌, cond, false≢true}
use mathlib.Core.List.{List, []}
use native.Mathlib.Omega.{arith}
use borrow.Author.Tests.{eqb-true, le-leb, le-ltb}
use lib.Dec.{eqb, leb}
use lib.Ieee.{Float}
use lib.IntN.{ℤ}
use lib.ListN.{length}
use lib.Seq.{sets}
use Rattle.std.specs.Prelude.{Option, Some}
use Rattle.std.specs.Option.{is_none}
use Rattle.bands.specs.Tables.{plan_by}
use Rattle.refusals.specs.declared.Answer.{Answer}
use Rattle.refusals.specs.declared.Answer.TheVariants.{Done, Refused}
use Rattle.refusals.specs.Table.{CORRECTION}
use Rattle.chip.specs.declared.Chip.{Chip}
use Rattle.chip.specs.declared.LockTries.{LockTries}
use Rattle.chip.specs.Calls.{Called, call_of, called, locked_in, performed, refusal_with, lock_tries_in, tries_in}
use Rattle.chip.specs.Courses.{Course, argument_of, asked_by, entries_by, left_by}
use Rattle.chip.specs.Courses.Course.{Still, Taken}
use Rattle.chip.specs.Entries.{no_tries}
use Rattle.chip.specs.Steps.{trace}
use Rattle.chip.proofs.Laws.{and_left, and_right}
use Rattle.driver.specs.declared.Driver.{Driver}
use Rattle.driver.specs.Calls.{Both, both, correction_call, correction_result, correction_row, rate_result, rate_row}
use Rattle.driver.specs.Record.{sound_driver, with_ppm, xtal_by, xtal_of}
use Rattle.drivers.specs.Drivers.{Corrects, Rates, both_ready, correct_over, corrects, corrects_made, hops, hops_by, over_both, rate_over, rates, rates_made, rates_refused}
use Rattle.r82xx.specs.declared.Tuner.{Tuner}
use Rattle.r82xx.specs.Orders.{Order, bracket, course_of, gain_row, lock_tries_of}
use Rattle.r82xx.specs.Orders as order
use Rattle.r82xx.specs.Record.{sound, with_corrected}
use Rattle.records.specs.Drivers.{driver_bytes, driver_fits, driver_from, driver_of, driver_widths, is_driver, pick_driver}
use Rattle.records.specs.Tuners.{is_tuner, pick_tuner, tuner_bytes, tuner_fits, tuner_from, tuner_of, tuner_widths}
use Rattle.records.proofs.Driven.{driver_written}
use Rattle.records.proofs.Exact.{written_read}
use Rattle.records.proofs.Turns.{sets_whole}
use Rattle.reply.specs.declared.Reply.{Reply}
use Rattle.reply.specs.declared.TuneReply.{TuneReply}
use Rattle.reply.specs.Replies.{call_reply, tuned_of}
use Rattle.stream.specs.declared.Command.{Command}
use Rattle.stream.specs.declared.Command.TheVariants.{Correction, Frequency, Rate}
use Rattle.tuners.specs.Over.{After, Tuned, after, handed, is_written, next_of, over_tuner, over_tuning, ready_of, refusal, lock_tries_over, tuned_to, unless_refused}
use Rattle.wire.specs.Bytes.{Bytes}
use Rattle.wire.specs.Parts.{parts_from}
use Rattle.commands.specs.Over.{run_over}
use Rattle.commands.specs.Rows.{beside, command_result, command_row, command_lock_tries, lock_tries_by}

-- ---- a row with steps: its argument's refusal comes to the same whether the bytes' call or the row's own turns it away

abbrev pub is_taken : {R : Type 0} → Course R → Bool
is_taken (Still next answer) = false
is_taken (Taken argument n m rs whole ss keep) = true

pub tuner_taken : (c : Course Tuner) → is_taken c ≡ true → (os : List ℕ) (chip : Chip) (old : Tuner) (room next : List ℕ) (k : ℕ) → 78 ≤ k
    → unless_refused (ready_of true (argument_of c) k 78) (λ n. refusal n room next) (handed (left_by true c os chip old room) next) ≡ handed (left_by true c os chip old room) next
unfolding unless_refused ready_of left_by call_of next_of
tuner_taken (Still _ answer) e os chip old room next k h = absurd (false≢true e)
tuner_taken (Taken argument n m rs whole ss keep) e os chip old room next k h = go (eqb argument 0) refl
  where
    go : (b : Bool) → eqb argument 0 ≡ b
        → unless_refused (ready_of true argument k 78) (λ x. refusal x room next) (handed (left_by true (Taken argument n m rs whole ss keep) os chip old room) next)
        ≡ handed (left_by true (Taken argument n m rs whole ss keep) os chip old room) next
    go true z = rw (z, le-ltb k 78 h)
    go false z = rw (z, z)

-- refused by its argument, it makes no entry, and nothing is seen
pub seen_taken : (c : Course Tuner) → is_taken c ≡ true → (os : List ℕ) (chip : Chip) (room : List ℕ) (k : ℕ) → 78 ≤ k
    → unless_refused (ready_of true (argument_of c) k 78) (λ n. no_tries) (lock_tries_in (entries_by (asked_by true c (length os) (length room)) os chip))
    ≡ lock_tries_in (entries_by (asked_by true c (length os) (length room)) os chip)
unfolding unless_refused ready_of tries_in locked_in
seen_taken (Still _ answer) e os chip room k h = absurd (false≢true e)
seen_taken (Taken argument n m rs whole ss keep) e os chip room k h = go (eqb argument 0) refl
  where
    go : (b : Bool) → eqb argument 0 ≡ b
        → unless_refused (ready_of true argument k 78) (λ x. no_tries) (lock_tries_in (entries_by (asked_by true (Taken argument n m rs whole ss keep) (length os) (length room)) os chip))
        ≡ lock_tries_in (entries_by (asked_by true (Taken argument n m rs whole ss keep) (length os) (length room)) os chip)
    go true z = rw (z, le-ltb k 78 h)
    go false z = rw (z, z)

pub both_taken : (c : Course Both) → is_taken c ≡ true → (os : List ℕ) (chip : Chip) (old : Both) (room driver tuner : List ℕ) (j k : ℕ) → 29 ≤ j → 78 ≤ k
    → unless_refused (both_ready true (argument_of c) j k) (λ n. rates_refused n room driver tuner) (rates_made (left_by true c os chip old room) driver tuner)
    ≡ rates_made (left_by true c os chip old room) driver tuner
unfolding unless_refused both_ready left_by call_of next_of
both_taken (Still _ answer) e os chip old room driver tuner j k g h = absurd (false≢true e)
both_taken (Taken argument n m rs whole ss keep) e os chip old room driver tuner j k g h = go (eqb argument 0) refl
  where
    go : (b : Bool) → eqb argument 0 ≡ b
        → unless_refused (both_ready true argument j k) (λ x. rates_refused x room driver tuner) (rates_made (left_by true (Taken argument n m rs whole ss keep) os chip old room) driver tuner)
        ≡ rates_made (left_by true (Taken argument n m rs whole ss keep) os chip old room) driver tuner
    go true z = rw (z, le-ltb j 29 g, le-ltb k 78 h)
    go false z = rw (z, z)

-- what a call of the tuner leaves, beside the driver's record
abbrev with_driver : Driver → Called Tuner → Called Both
with_driver d x = called (both x.next d) x.room x.count x.answer

-- the row beside the driver's record leaves what the row leaves, beside it
beside_left : (d : Driver) (row : Course Tuner) (os : List ℕ) (c : Chip) (t : Tuner) (room : List ℕ)
    → with_driver d (left_by true row os c t room) ≡ left_by true (beside d row) os c (both t d) room
unfolding left_by call_of
beside_left d (Still next answer) os c t room = refl
beside_left d (Taken argument n m rs whole ss keep) os c t room = go (eqb (refusal_with true argument n m (length room) (length os) (length rs)) 0)
  where
    go : (z : Bool)
        → with_driver d (cond z (performed whole keep room (trace os ss c)) (called t room 0 (Refused (refusal_with true argument n m (length room) (length os) (length rs)))))
        ≡ cond z (performed whole (λ tr. both (keep tr) d) room (trace os ss c)) (called (both t d) room 0 (Refused (refusal_with true argument n m (length room) (length os) (length rs))))
    go true = refl
    go false = refl

-- ---- bytes that a record was read from

tuner_is : (b : List ℕ) → (tuner_of b).ok ≡ true → is_tuner b ≡ true
unfolding tuner_of
tuner_is b h = go (is_tuner b) refl h
  where
    go : (x : Bool) → is_tuner b ≡ x → (pick_tuner x (tuner_from (parts_from 0 tuner_widths b))).ok ≡ true → is_tuner b ≡ true
    go true e k = e
    go false e k = absurd (false≢true k)

driver_is : (b : List ℕ) → (driver_of b).ok ≡ true → is_driver b ≡ true
unfolding driver_of
driver_is b h = go (is_driver b) refl h
  where
    go : (x : Bool) → is_driver b ≡ x → (pick_driver x (driver_from (parts_from 0 driver_widths b))).ok ≡ true → is_driver b ≡ true
    go true e k = e
    go false e k = absurd (false≢true k)

pub tuner_exact : (b : List ℕ) → (tuner_of b).ok ≡ true → length b ≡ 78
unfolding is_tuner
tuner_exact b h = eqb-true (length b) 78 (and_left (eqb (length b) 78) (tuner_fits (parts_from 0 tuner_widths b)) (tuner_is b h))

pub driver_exact : (b : List ℕ) → (driver_of b).ok ≡ true → length b ≡ 29
unfolding is_driver
driver_exact b h = eqb-true (length b) 29 (and_left (eqb (length b) 29) (driver_fits (parts_from 0 driver_widths b)) (driver_is b h))

-- such a record is in its ranges
pub tuner_sound : (b : List ℕ) → Bytes b → (tuner_of b).ok ≡ true → sound (tuner_of b).tuner ≡ true
tuner_sound b bytes h =
    let r = (written_read b bytes (tuner_is b h)).2 in
    rw (le-leb 1 (tuner_of b).tuner.nominal r.known, le-leb 1 (tuner_of b).tuner.corrected r.right)

pub driver_sound : (b : List ℕ) → Bytes b → (driver_of b).ok ≡ true → sound_driver (driver_of b).driver ≡ true
driver_sound b bytes h = le-leb 1 (xtal_of (driver_of b).driver) (driver_written b bytes (driver_is b h)).2.right

-- written again where it lies, the driver's record leaves its bytes as they were: a call of the tuner alone does not write it
driver_same : (b : List ℕ) → Bytes b → (driver_of b).ok ≡ true → (a : Answer) (count : ℕ) → b ≡ next_of driver_bytes a count (driver_of b).driver b
unfolding next_of
driver_same b bytes h a count = go (is_written a count)
  where
    go : (z : Bool) → b ≡ cond z (sets b 0 (driver_bytes (driver_of b).driver)) b
    go true = sym (ap (sets b 0) (driver_written b bytes (driver_is b h)).1 ∙ sets_whole b b refl)
    go false = refl

-- ---- the arms, on the bytes of two records

module _ (table rs os d t room : List ℕ) (driver-bytes : Bytes d) (good-tuner : sound (tuner_of t).tuner ≡ true) (whole : ((driver_of d).ok && (tuner_of t).ok) ≡ true) where
  abbrev pub D : Driver
  D = (driver_of d).driver

  abbrev pub T : Tuner
  T = (tuner_of t).tuner

  driver_ok : (driver_of d).ok ≡ true
  driver_ok = and_left (driver_of d).ok (tuner_of t).ok whole

  tuner_ok : (tuner_of t).ok ≡ true
  tuner_ok = and_right (driver_of d).ok (tuner_of t).ok whole

  good : (sound T && sound_driver D) ≡ true
  good = ap (λ (b : Bool). b && sound_driver D) good-tuner ∙ driver_sound d driver-bytes driver_ok

  -- a known command's row, on records in their ranges
  run_is : (x : Option Command) → is_none x ≡ false
      → hops_by (rates_made (left_by true (command_row x table rs T D) os T.chip (both T D) room) d t) (lock_tries_by x rs os T room) ≡ run_over x table rs os d t room
  unfolding run_over command_result command_lock_tries
  run_is x known = rw (known, whole, good)

  module _ (x : Option Command) (o : Order) (row : command_row x table rs T D ≡ beside D (course_of o T)) (known : is_none x ≡ false) (taken : is_taken (course_of o T) ≡ true) where
    abbrev pub left : Called Tuner
    left = left_by true (course_of o T) os T.chip T room

    pub over_is : over_tuner (course_of o) os t room t ≡ handed left t
    unfolding over_tuner
    over_is =
        rw (tuner_ok, good-tuner) (tuner_taken (course_of o T) taken os T.chip T room t (length t) (omega (arith, tuner_exact t tuner_ok)))

    handed_run : (a : After) (s : LockTries) → a ≡ over_tuner (course_of o) os t room t → s ≡ lock_tries_by x rs os T room
        → hops (tuned_of a.answer s) a.room d a.next ≡ run_over x table rs os d t room
    handed_run a s e f =
        ap (λ (b : After). hops (tuned_of b.answer s) b.room d b.next) (e ∙ over_is)
        ∙ ap (λ (l : List ℕ). hops (tuned_of (call_reply left) s) left.room l (next_of tuner_bytes left.answer left.count left.next t))
        (driver_same d driver-bytes driver_ok left.answer left.count)
        ∙ ap (λ (c : Called Both). hops_by (rates_made c d t) s) (beside_left D (course_of o T) os T.chip T room ∙ ap (λ (w : Course Both). left_by true w os T.chip (both T D) room) (sym row))
        ∙ ap (hops_by (rates_made (left_by true (command_row x table rs T D) os T.chip (both T D) room) d t)) f
        ∙ run_is x known

    -- a call of the tuner that tells nothing of the lock
    pub by_tuner : lock_tries_by x rs os T room ≡ no_tries → (y : Option Command) → y ≡ x → (given : List ℕ) → given ≡ t
        → (q : Reply) (lent wrote : List ℕ) → after q lent wrote ≡ over_tuner (course_of o) os given room t → (r : TuneReply) → r ≡ tuned_of q no_tries
        → hops r lent d wrote ≡ run_over y table rs os d t room
    by_tuner none y is given same q lent wrote e r f =
        ap (λ (z : TuneReply). hops z lent d wrote) f
        ∙ handed_run (after q lent wrote) no_tries (e ∙ ap (λ (b : List ℕ). over_tuner (course_of o) os b room t) same) (sym none)
        ∙ ap (λ (z : Option Command). run_over z table rs os d t room) (sym is)

  -- a tuning
  pub by_tuning_lem : (hz : ℕ) (y : Option Command) → y ≡ Some (Frequency hz) → (given : List ℕ) → given ≡ t
      → (r : TuneReply) (lent wrote : List ℕ) → tuned_to r lent wrote ≡ over_tuning (course_of (order.Order.Tune hz rs)) os given room t
      → hops r lent d wrote ≡ run_over y table rs os d t room
  unfolding over_tuning lock_tries_over lock_tries_of
  by_tuning_lem hz y is given same r lent wrote e =
      let row : Tuner → Course Tuner = course_of (order.Order.Tune hz rs) in
      ap (λ (z : Tuned). hops z.answer z.room d z.next) (e ∙ ap (λ (b : List ℕ). over_tuning row os b room t) same)
      ∙ handed_run (Some (Frequency hz)) (order.Order.Tune hz rs) refl refl refl (over_tuner row os t room t) (lock_tries_over row os t room t) refl (seen_is hz)
      ∙ ap (λ (z : Option Command). run_over z table rs os d t room) (sym is)
    where
      seen_is : (hz : ℕ) → lock_tries_over (course_of (order.Order.Tune hz rs)) os t room t ≡ lock_tries_of (order.Order.Tune hz rs) os T room
      seen_is hz =
          rw (tuner_ok, good-tuner) (seen_taken (course_of (order.Order.Tune hz rs) T) refl os T.chip room (length t) (omega (arith, tuner_exact t tuner_ok)))

  -- a rate, on both records
  abbrev pub rated : ℕ → Called Both
  rated rate = left_by true (rate_row rate (plan_by table D.frequency) T D) os T.chip (both T D) room

  pub rate_is : (rate : ℕ) → rate_over os rate table d t room d t ≡ rates_made (rated rate) d t
  unfolding over_both rate_result
  rate_is rate =
      rw (whole, good)
      (both_taken (rate_row rate (plan_by table D.frequency) T D) refl os T.chip (both T D) room d t (length d) (length t)
      (omega (arith, driver_exact d driver_ok)) (omega (arith, tuner_exact t tuner_ok)))

  pub by_rate : (rate : ℕ) (y : Option Command) → y ≡ Some (Rate rate) → (before given : List ℕ) → before ≡ d → given ≡ t
      → (q : Reply) (lent wd wt : List ℕ) → rates q lent wd wt ≡ rate_over os rate table before given room d t → (r : TuneReply) → r ≡ tuned_of q no_tries
      → hops r lent wd wt ≡ run_over y table rs os d t room
  by_rate rate y is before given same_driver same_tuner q lent wd wt e r f =
      ap (λ (z : TuneReply). hops z lent wd wt) f
      ∙ ap (λ (z : Rates). hops_by z no_tries) (e ∙ (λ i. rate_over os rate table (same_driver i) (same_tuner i) room d t) ∙ rate_is rate)
      ∙ run_is (Some (Rate rate)) refl
      ∙ ap (λ (z : Option Command). run_over z table rs os d t room) (sym is)

  -- nothing is lent to a correction, so the room stays
  pub by_correction : (ppm : ℤ) (y : Option Command) → y ≡ Some (Correction ppm)
      → (q : Reply) (wt wd : List ℕ) → corrects q wt wd ≡ correct_over ppm t d → (r : TuneReply) → r ≡ tuned_of q no_tries
      → hops r room wd wt ≡ run_over y table rs os d t room
  unfolding correct_over correction_result left_by
  by_correction ppm y is q wt wd e r f =
      ap (λ (z : TuneReply). hops z room wd wt) f
      ∙ ap (λ (z : Corrects). hops (tuned_of z.answer no_tries) room z.driver z.tuner) (e ∙ made)
      ∙ ap (λ (c : Called Both). hops_by (rates_made c d t) no_tries) (ap (λ (b : Bool). still b (correction_row ppm T D)) good ∙ go (leb 1 (xtal_by T.nominal ppm) && leb 1 (xtal_by D.nominal ppm)))
      ∙ run_is (Some (Correction ppm)) refl
      ∙ ap (λ (z : Option Command). run_over z table rs os d t room) (sym is)
    where
      made : correct_over ppm t d ≡ corrects_made (correction_call ppm T D) t d
      made = rw (tuner_ok, driver_ok)

      still : Bool → Course Both → Called Both
      still b row =
          called (left_by b row [] T.chip (both T D) []).next room (left_by b row [] T.chip (both T D) []).count (left_by b row [] T.chip (both T D) []).answer

      done : Course Both
      done = Still (both (with_corrected T (xtal_by T.nominal ppm)) (with_ppm D ppm)) (Done 0)

      go : (b : Bool) → still true (cond b done (Still (both T D) (Refused CORRECTION))) ≡ left_by true (cond b done (Still (both T D) (Refused CORRECTION))) os T.chip (both T D) room
      go true = refl
      go false = refl

-- ---- the rows that a command asks of the tuner have steps

pub reload_taken : (t : Tuner) → is_taken (course_of order.Order.Reload t) ≡ true
reload_taken t = refl

pub bandwidth_taken : (hz : ℕ) (t : Tuner) → is_taken (course_of (order.Order.Bandwidth hz) t) ≡ true
unfolding bracket
bandwidth_taken hz t = refl

pub gain_taken : (db : Float) (t : Tuner) → is_taken (course_of (order.Order.Gain db) t) ≡ true
unfolding bracket gain_row
gain_taken db t = refl

pub index_taken : (k : ℕ) (t : Tuner) → is_taken (course_of (order.Order.GainIndex k) t) ≡ true
unfolding bracket gain_row
index_taken k t = refl
