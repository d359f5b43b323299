-- An exported call on the bytes of a record in its ranges: it is turned away before any step, and the host goes on with the bytes that it had; or it is the
-- call of crate `sequences` on that record, and the host goes on with the bytes of the record that this leaves. Assumes nothing.
use Prim.Native.Nat.{ℕ, ◌+◌, ◌%◌, ◌≤◌, ◌<◌}
use mathlib.Core.Path.{◌≡◌, refl, sym, ap, subst, ◌∙◌}
use mathlib.Core.Bool.{Bool, true, false, not, ◌&&◌, ◌||◌, cond, false≢true}
use mathlib.Core.List.{List, [], map}
use native.Mathlib.Omega.{arith}
use borrow.Author.Tests.{eqb-false, eqb-true, le-leb, lt-ltb, ltb-false, not-true}
use lib.Dec.{eqb, leb, ltb}
use lib.IntN.{ℤ, pos}
use lib.ListN.{length, drop, take}
use lib.Seq.{sets, sets-eq, take_at}
use Rattle.answers.specs.Lent.{table_into, word_bytes}
use Rattle.bands.specs.Tables.{plan_by}
use Rattle.board.specs.Numbers.{path_of}
use Rattle.boards.specs.Hops.{hop_result}
use Rattle.refusals.specs.declared.Answer.{Answer}
use Rattle.refusals.specs.declared.Answer.TheVariants.{Done, Refused, Stopped}
use Rattle.refusals.specs.Answers.{number_of}
use Rattle.chip.specs.Calls.{Called, called}
use Rattle.chip.specs.Courses.{Course, argument_of, left_by}
use Rattle.chip.specs.Courses.Course.{Still}
use Rattle.driver.specs.declared.Driver.{Driver}
use Rattle.driver.specs.Record.{sound_driver, xtal_by}
use Rattle.driver.specs.Calls.{Both, board_row, correction_call, rate_result}
use Rattle.gain.specs.Steps.{steps}
use Rattle.refusals.specs.Lent.{given, lent_to}
use Rattle.refusals.proofs.Giving.{covered, laid}
use Rattle.refusals.specs.Table.{SETUP, CORRECTION, ROOM, STEP}
use Rattle.r82xx.specs.declared.Tuner.{Tuner}
use Rattle.r82xx.specs.Record.{sound, with_notch}
use Rattle.r82xx.specs.Orders as tuner
use Rattle.r82xx.specs.Orders.Order.{Initialize, Reload, Bandwidth, IfFreq, Gain, GainIndex, InputPath, Tune, Notch, GainTold, IfTold, TableTold}
use Rattle.records.specs.Drivers.{driver_fits, driver_from, driver_of, driver_widths, is_driver, pick_driver}
use Rattle.records.specs.Tuners.{tuner_bytes, tuner_of, tuner_parts, tuner_read, tuner_widths}
use Rattle.records.proofs.Exact.{Ranged, both as and_both, read_written}
use Rattle.records.proofs.Made.{sized}
use Rattle.reply.specs.Replies.{call_reply, reply_of}
use Rattle.wire.specs.Parts.{num, parts_from}
use Rattle.wire.proofs.Joins.{length_joined}
use Rattle.tuners.specs.Over.{handed, is_written, next_of, over_tuner, over_tuning, ready_of, refusal, unless_refused}
use Rattle.tuners.specs.Still.{answer_over, changed_into, of_record, table_over}
use Rattle.drivers.specs.Drivers.{both_ready, correct_over, corrects, corrects_made, hop_argument, over_both, rates_made, rates_refused}
use Rattle.history.specs.Histories.{stops}
use Rattle.transcript.specs.declared.Entry.{Entry}
use Rattle.sequences.specs.Calls.{Call, Order, asked, call, entries, result, result_of, row_of, sound_for, tuner_after, tuner_part}
use Rattle.sequences.specs.Calls.{tuner_of as tunerHalf}
use Rattle.sequences.specs.Calls.Order.{Tuned, SampleRate, Correction, BoardPath, BoardTune}
use Rattle.sequences.specs.Sequences.{Sequence}
use Rattle.sequences.proofs.Most.{most_entries}
use Rattle.sequences.proofs.Ties.{view_count}
use Rattle.sequences.proofs.Views.{View, result_row, row_few, view}
use Rattle.carried.specs.Exported.{Exported, Left, amiss, by_after, by_corrects, by_given, by_rates, left, left_of, order_of, pathless, stands, typed, typed_order}
use Rattle.carried.specs.Exported.Exported.{Own, Rate, Correct, Path, Hop}
use Rattle.carried.proofs.Ranges.{order_ranged}
use Rattle.carried.proofs.Steady.{Fielded, Settled, argument_told, elevens, fielded, fives, number_told, ones, plain, settled, typed_given}

and_true : (b : Bool) → (b && true) ≡ b
and_true true = refl
and_true false = refl

and_false : (b : Bool) → (b && false) ≡ false
and_false true = refl
and_false false = refl

-- ---- a record's bytes

pub image_long : (t : Tuner) → Ranged t → length (tuner_bytes t) ≡ 78
unfolding tuner_bytes
image_long t r = length_joined tuner_widths (tuner_parts t) (sized t r.lists)

-- bytes laid at the start of a slice that is long enough are found there
pub found : (n : ℕ) (bs out : List ℕ) → length bs ≡ n → n ≤ length out → take n (sets out 0 bs) ≡ bs
found n bs out l h = ap (take n) (sets-eq bs out 0 (omega arith)) ∙ take_at bs (drop (0 + length bs) out) n l

-- ---- what a reply tells of the next record

stands_some : (number count : ℕ) → eqb number 0 ≡ false → count < 4_294_967_296 → (eqb number 0 || ltb 0 (count % 4_294_967_296)) ≡ not (eqb count 0)
stands_some number count n h = go (eqb count 0) refl
  where
    go : (b : Bool) → eqb count 0 ≡ b → (eqb number 0 || ltb 0 (count % 4_294_967_296)) ≡ not b
    go true e =
        let none : count % 4_294_967_296 ≡ 0 = omega (arith, eqb-true count 0 e) in
        rw (n, none)
    go false e =
        let same : count % 4_294_967_296 ≡ count = omega arith in
        let some : ltb 0 count ≡ true = lt-ltb 0 count (omega (arith, eqb-false count 0 e)) in
        rw (n, same, some)

-- what a host reads off the reply is whether the next record was written
stands_kept : (a : Answer) (count : ℕ) → plain a ≡ true → count < 4_294_967_296 → stands (reply_of a count) ≡ is_written a count
stands_kept (Done value) count p h = refl
stands_kept (Refused number) count p h = stands_some number count (not-true (eqb number 0) p) h
stands_kept (Stopped index) count p h = stands_some 11 count refl h

-- of any record, by the bytes that it is written to
module _ {R : Type 0} (P : R → Type 0) (image : R → List ℕ) (n : ℕ) (old : R) (x : Called R) (s : Settled P old x) (long : length (image x.next) ≡ n) where
  -- the next record written into a slice of its own
  pub taken_over : (out : List ℕ) → n ≤ length out → x.count < 4_294_967_296
      → cond (stands (call_reply x)) (take n (cond (is_written x.answer x.count) (sets out 0 (image x.next)) out)) (image old) ≡ image x.next
  taken_over out h few = go (is_written x.answer x.count) refl
    where
      go : (b : Bool) → is_written x.answer x.count ≡ b
          → cond (stands (call_reply x)) (take n (cond (is_written x.answer x.count) (sets out 0 (image x.next)) out)) (image old) ≡ image x.next
      go true e = rw (stands_kept x.answer x.count s.named few, e) (found n (image x.next) out long h)
      go false e = rw (stands_kept x.answer x.count s.named few, e) (ap image (sym (s.same e)))

  -- or over the one that is given
  pub in_place : length (image old) ≡ n → cond (is_written x.answer x.count) (sets (image old) 0 (image x.next)) (image old) ≡ image x.next
  in_place l = go (is_written x.answer x.count) refl
    where
      go : (b : Bool) → is_written x.answer x.count ≡ b → cond (is_written x.answer x.count) (sets (image old) 0 (image x.next)) (image old) ≡ image x.next
      go true e = rw e (covered (image old) (image x.next) (long ∙ sym l))
      go false e = rw e (ap image (sym (s.same e)))

-- a driver's record that is read is in its ranges
pub picked : (c : Bool) (d : Driver) → (pick_driver c d).ok ≡ true → (c ≡ true) × ((pick_driver c d).driver ≡ d)
picked true d h = (refl, refl)
picked false d h = absurd (false≢true h)

fits_sound : (ps : List (List ℕ)) → driver_fits ps ≡ true → sound_driver (driver_from ps) ≡ true
unfolding driver_fits
fits_sound ps h = (and_both (leb (num ps 0) 1) (sound_driver (driver_from ps)) h).1

pub driver_sound : (b : List ℕ) → (driver_of b).ok ≡ true → sound_driver (driver_of b).driver ≡ true
unfolding driver_of is_driver
driver_sound b h =
    let ps : List (List ℕ) = parts_from 0 driver_widths b in
    let p = picked (is_driver b) (driver_from ps) h in
    ap sound_driver p.1 ∙ fits_sound ps (and_both (eqb (length b) 29) (driver_fits ps) p.0).1

-- ---- one call

-- what a refusal number tells: 1 where something is amiss, 11 where a step failed, and never 5, which went with the mask leaf (#106)
pub record Told (number : ℕ) (one eleven : Bool) : Type 0 where
  pub setup : eqb number SETUP ≡ one
  pub step : eqb number STEP ≡ eleven
  pub never : eqb number 5 ≡ false

-- how a call k on a record's bytes ended: turned away by a number before any step, or made where the number is 0. `one` is whether it is refused 1
pub data Passed (t : Tuner) (k : Call) (number : ℕ) (one : Bool) (l : Left) : Type 0 where
  away : eqb number 0 ≡ false → Told number one false → l.reply ≡ reply_of (Refused number) 0 → l.bytes ≡ tuner_bytes t → Passed t k number one l
  made : eqb number 0 ≡ true → Told (number_of (result k t).answer) one (stops (result k t).answer) → l.reply ≡ call_reply (result k t)
      → (0 < (result k t).count → l.room ≡ (result k t).room) → l.bytes ≡ tuner_bytes (tuner_after k t) → Passed t k number one l

-- the number by which a call is turned away, which does not hang on the outcomes
abbrev slotted : Order → List ℕ → Tuner → ℕ
slotted o out t = ready_of true (argument_of (row_of o t)) (length out) 78

abbrev pairwise : Order → List ℕ → List ℕ → List ℕ → Tuner → ℕ
pairwise o driver left out t = both_ready ((driver_of driver).ok && true) (argument_of (row_of o t)) (length left) (length out)

abbrev pub turned : Exported → List ℕ → Tuner → ℕ
turned (Own Initialize) out t = slotted (Tuned Initialize) out t
turned (Own Reload) out t = slotted (Tuned Reload) out t
turned (Own (Bandwidth hz)) out t = slotted (Tuned (Bandwidth hz)) out t
turned (Own (IfFreq hz)) out t = slotted (Tuned (IfFreq hz)) out t
turned (Own (Gain db)) out t = slotted (Tuned (Gain db)) out t
turned (Own (GainIndex k)) out t = slotted (Tuned (GainIndex k)) out t
turned (Own (InputPath path)) out t = slotted (Tuned (InputPath path)) out t
turned (Own (Tune hz rs)) out t = slotted (Tuned (Tune hz rs)) out t
turned (Own (Notch on)) out t = 0
turned (Own GainTold) out t = 0
turned (Own IfTold) out t = 0
turned (Own TableTold) out t = cond (ltb (length out) (length (word_bytes (map pos steps)))) 8 0
turned (Rate rate table driver left) out t = pairwise (SampleRate rate table (driver_of driver).driver) driver left out t
turned (Correct ppm driver) out t = cond (driver_of driver).ok 0 1
turned (Path path rs) out t = slotted (BoardPath path rs) out t
turned (Hop hz table rs driver left) out t = pairwise (BoardTune hz table rs (driver_of driver).driver) driver left out t

module _ (t : Tuner) (r : Ranged t) where
  fields : Fielded t
  fields = fielded t r

  read : tuner_of (tuner_bytes t) ≡ tuner_read true t
  read = read_written t r

  given_sound : sound t ≡ true
  given_sound = rw (le-leb 1 t.nominal r.known, le-leb 1 t.corrected r.right)

  -- the record that a call leaves is in its ranges
  pub ranged_after : (k : Call) → typed_order k.order ≡ true → Ranged (tuner_after k t)
  ranged_after k h = order_ranged t r k.order k.outcomes k.room h

  -- what its row says of a call, and that its count is its entries'
  pub seen : (k : Call) → typed_order k.order ≡ true → View t (result k t) (asked k t) k.outcomes k.room
  seen k h = view t k.outcomes k.room k.order (typed_given k.order t h) (omega (arith, r.address))

  pub count_is : (k : Call) → typed_order k.order ≡ true → (result k t).count ≡ length (entries k t)
  count_is k h = view_count t (result k t) (asked k t) k.outcomes k.room (seen k h)

  pub few_left : (k : Call) → typed_order k.order ≡ true → (result k t).count < 4_294_967_296
  few_left k h = omega (arith, count_is k h, most_entries k t, row_few k.order t)

  long : (k : Call) → typed_order k.order ≡ true → length (tuner_bytes (tuner_after k t)) ≡ 78
  long k h = image_long (tuner_after k t) (ranged_after k h)

  fixed : (k : Call) → typed_order k.order ≡ true → Settled Fielded t (result k t)
  fixed k h = settled k.order k.outcomes k.room t fields h

  -- a call made, with the next record in a slice of its own that is long enough
  made_into : (k : Call) (out : List ℕ) (one : Bool) → typed_order k.order ≡ true → 78 ≤ length out → Told (number_of (result k t).answer) one (stops (result k t).answer)
      → Passed t k 0 one (by_after (handed (result k t) out) (tuner_bytes t))
  unfolding next_of
  made_into k out one h l o = made refl o refl (λ c. refl) (taken_over Fielded tuner_bytes 78 t (result k t) (fixed k h) (long k h) out l (few_left k h))

  away_after : (k : Call) (n : ℕ) (room out : List ℕ) (one : Bool) → eqb n 0 ≡ false → Told n one false → Passed t k n one (by_after (refusal n room out) (tuner_bytes t))
  away_after k n room out one z o = away z o refl (rw z)

  -- the calls that write into a slice of its own, by their rows
  module _ (o : Order) (os room out : List ℕ) (h : typed_order o ≡ true) where
    abbrev argument : ℕ
    argument = argument_of (row_of o t)

    -- by an argument's number, by 8, and by what the call itself answers
    argument_says : Told argument (pathless o) false
    argument_says = record { setup = argument_told (λ n. eqb n SETUP) ones o t ∙ and_true (pathless o); step = argument_told (λ n. eqb n STEP) elevens o t ∙ and_false (pathless o); never = argument_told (λ n. eqb n 5) fives o t ∙ and_false (pathless o) }

    unrefused : eqb argument 0 ≡ true → pathless o ≡ false
    unrefused e = sym argument_says.setup ∙ ap (λ (n : ℕ). eqb n 1) (eqb-true argument 0 e)

    short_says : eqb argument 0 ≡ true → Told ROOM (pathless o) false
    short_says e = record { setup = sym (unrefused e); step = refl; never = refl }

    call_says : sound_for o t ≡ true → eqb argument 0 ≡ true → Told (number_of (result_of o os room t).answer) (pathless o) (stops (result_of o os room t).answer)
    call_says good e =
        record {
          setup = number_told (λ n. eqb n SETUP) ones o os room t fields h good e ∙ and_false (stops (result_of o os room t).answer) ∙ sym (unrefused e);
          step = number_told (λ n. eqb n STEP) elevens o os room t fields h good e ∙ and_true (stops (result_of o os room t).answer);
          never = number_told (λ n. eqb n 5) fives o os room t fields h good e ∙ and_false (stops (result_of o os room t).answer);
        }

    by_ready : sound_for o t ≡ true → (a : Bool) → eqb argument 0 ≡ a → (z : Bool) → ltb (length out) 78 ≡ z
        → Passed t (call o os room) (ready_of true argument (length out) 78) (pathless o)
        (by_after (unless_refused (ready_of true argument (length out) 78) (λ n. refusal n room out) (handed (result_of o os room t) out)) (tuner_bytes t))
    unfolding unless_refused ready_of
    by_ready good true e true z = rw (e, z) (away_after (call o os room) 8 room out (pathless o) refl (short_says e))
    by_ready good true e false z =
        rw (e, z) (made_into (call o os room) out (pathless o) h (ltb-false (length out) 78 z) (call_says good e))
    by_ready good false e z w = rw (e, e) (away_after (call o os room) argument room out (pathless o) e argument_says)

    over_row : (row : Tuner → Course Tuner) → sound_for o t ≡ sound t → row_of o t ≡ row t
        → Passed t (call o os room) (slotted o out t) (pathless o) (by_after (over_tuner row os (tuner_bytes t) room out) (tuner_bytes t))
    unfolding over_tuner
    over_row row same-sound same_row =
        let left : result_of o os room t ≡ left_by (sound t) (row t) os t.chip t room =
        result_row t os room o ∙ (λ i. left_by (same-sound i) (same_row i) os t.chip t room) in
        rw (read, ← left, ← same_row) (by_ready (same-sound ∙ given_sound) (eqb argument 0) refl (ltb (length out) 78) refl)

  -- the calls on both records, which write both next ones into slices of their own
  module _ (o : Order) (os room driver left out : List ℕ) (h : typed_order o ≡ true) (argument : Tuner → Driver → ℕ) (res : Tuner → Driver → Called Both)
      (same-argument : argument_of (row_of o t) ≡ argument t (driver_of driver).driver) (same-result : result_of o os room t ≡ tunerHalf (res t (driver_of driver).driver))
      (same-sound : sound_for o t ≡ (sound t && sound_driver (driver_of driver).driver)) where
    abbrev d : Driver
    d = (driver_of driver).driver

    abbrev number : ℕ
    number = argument_of (row_of o t)

    away_rates : (n : ℕ) (one : Bool) → eqb n 0 ≡ false → Told n one false → Passed t (call o os room) n one (by_rates (rates_refused n room left out) (tuner_bytes t))
    away_rates n one z e = away z e refl (rw z)

    made_rates : (one : Bool) → 78 ≤ length out → Told (number_of (result_of o os room t).answer) one (stops (result_of o os room t).answer)
        → Passed t (call o os room) 0 one (by_rates (rates_made (res t d) left out) (tuner_bytes t))
    made_rates one l e = subst (λ (x : Called Tuner). Passed t (call o os room) 0 one (by_after (handed x out) (tuner_bytes t))) same-result (made_into (call o os room) out one h l e)

    by_both : (k : Bool) → (driver_of driver).ok ≡ k → (a : Bool) → eqb number 0 ≡ a → (y : Bool) → ltb (length left) 29 ≡ y → (z : Bool) → ltb (length out) 78 ≡ z
        → Passed t (call o os room) (both_ready (k && true) number (length left) (length out)) (not k || pathless o)
        (by_rates (unless_refused (both_ready (k && true) number (length left) (length out)) (λ n. rates_refused n room left out) (rates_made (res t d) left out)) (tuner_bytes t))
    unfolding unless_refused both_ready
    by_both false q a e y w z v = away_rates 1 true refl (record { setup = refl; step = refl; never = refl })
    by_both true q true e true w z v = rw (e, w) (away_rates 8 (pathless o) refl (short_says o os room out h e))
    by_both true q true e false w true v = rw (e, w, v) (away_rates 8 (pathless o) refl (short_says o os room out h e))
    by_both true q true e false w false v =
        let good : sound_for o t ≡ true = same-sound ∙ rw (given_sound, driver_sound driver q) in
        rw (e, w, v) (made_rates (pathless o) (ltb-false (length out) 78 v) (call_says o os room out h good e))
    by_both true q false e y w z v = rw (e, e) (away_rates number (pathless o) e (argument_says o os room out h))

    over_both_lem : Passed t (call o os room) (pairwise o driver left out t) (not (driver_of driver).ok || pathless o) (by_rates (over_both argument res driver (tuner_bytes t) room left out) (tuner_bytes t))
    unfolding over_both
    over_both_lem = rw (read, ← same-argument) (by_both (driver_of driver).ok refl (eqb number 0) refl (ltb (length left) 29) refl (ltb (length out) 78) refl)

  -- those without steps, on the record where it lies

  -- a row at rest, of a record in its ranges
  quiet : (o : tuner.Order) (os room : List ℕ) (next : Tuner) (answer : Answer) → tuner.course_of o t ≡ Still next answer
      → result (call (Tuned o) os room) t ≡ called next room 0 answer
  unfolding tuner.result_of left_by
  quiet o os room next answer e = rw (e, given_sound)

  -- a value is no refusal
  value_says : (k : Call) (next : Tuner) (room : List ℕ) (value : ℕ) → result k t ≡ called next room 0 (Done value)
      → Told (number_of (result k t).answer) false (stops (result k t).answer)
  value_says k next room value is = rw is (record { setup = refl; step = refl; never = refl })

  -- a call at rest that is done, and the bytes of the record that it leaves
  rest_row : (o : tuner.Order) (os room : List ℕ) (next : Tuner) (value : ℕ) → tuner.course_of o t ≡ Still next (Done value)
      → Passed t (call (Tuned o) os room) 0 false (left (reply_of (Done value) 0) room (tuner_bytes next))
  rest_row o os room next value e =
      let is : result (call (Tuned o) os room) t ≡ called next room 0 (Done value) = quiet o os room next (Done value) e in
      made refl (value_says (call (Tuned o) os room) next room value is) (sym (ap call_reply is)) (λ c. sym (ap (λ (x : Called Tuner). x.room) is))
      (sym (ap (λ (x : Called Tuner). tuner_bytes x.next) is))

  -- the answer alone is told
  told_over : (o : tuner.Order) (os room : List ℕ) (value : ℕ) → tuner.course_of o t ≡ Still t (Done value)
      → Passed t (call (Tuned o) os room) 0 false (left (reply_of (answer_over o (tuner_bytes t)) 0) room (tuner_bytes t))
  unfolding of_record
  told_over o os room value e = rw (read, quiet o [] [] t (Done value) e) (rest_row o os room t value e)

  table_row : (os room out : List ℕ)
      → Passed t (call (Tuned TableTold) os room) (turned (Own TableTold) out t) false (left (reply_of (table_over (tuner_bytes t) out).answer 0) room (tuner_bytes t))
  unfolding of_record table_into lent_to
  table_row os room out = rw (read, given_sound) (go (ltb (length out) (length (word_bytes (map pos steps)))))
    where
      go : (b : Bool)
          → Passed t (call (Tuned TableTold) os room) (cond b 8 0) false
          (left (reply_of (cond b (given (Refused ROOM) out) (given (Done 0) (sets out 0 (word_bytes (map pos steps))))).answer 0) room (tuner_bytes t))
      go true = away refl (record { setup = refl; step = refl; never = refl }) refl refl
      go false = rest_row TableTold os room t 0 refl

  notch_row : (on : Bool) (os room : List ℕ) → Passed t (call (Tuned (Notch on)) os room) 0 false (by_given (changed_into (Notch on) (tuner_bytes t) (tuner_bytes t)) room)
  unfolding of_record
  notch_row on os room =
      let k : Call = call (Tuned (Notch on)) [] [] in
      let is : result k t ≡ called (with_notch t on) [] 0 (Done 0) = quiet (Notch on) [] [] (with_notch t on) (Done 0) refl in
      let size : length (tuner_bytes (with_notch t on)) ≡ length (tuner_bytes t) = sym (ap (λ (x : Called Tuner). length (tuner_bytes x.next)) is) ∙ long k refl ∙ sym (image_long t r) in
      let out : given (Done 0) (tuner_bytes (with_notch t on)) ≡ lent_to 0 0 (tuner_bytes (with_notch t on)) (tuner_bytes t) =
      ap (given (Done 0)) (sym (covered (tuner_bytes t) (tuner_bytes (with_notch t on)) size)) ∙ laid 0 0 (tuner_bytes (with_notch t on)) (tuner_bytes t) refl (omega arith) in
      rw (read, is, ← out) (rest_row (Notch on) os room (with_notch t on) 0 refl)

  -- the correction looks at no lent memory
  corrected_any : (s b : Bool) (u v : Both) (x y : Answer) (os room : List ℕ)
      → left_by s (tuner_part (cond b (Still u x) (Still v y))) os t.chip t room
      ≡ called (left_by s (tuner_part (cond b (Still u x) (Still v y))) [] t.chip t []).next room 0 (left_by s (tuner_part (cond b (Still u x) (Still v y))) [] t.chip t []).answer
  unfolding left_by
  corrected_any true true u v x y os room = refl
  corrected_any true false u v x y os room = refl
  corrected_any false true u v x y os room = refl
  corrected_any false false u v x y os room = refl

  still_says : (b : Bool) (u v : Both) (os room : List ℕ)
      → Told (number_of (left_by true (tuner_part (cond b (Still u (Done 0)) (Still v (Refused CORRECTION)))) os t.chip t room).answer) false
      (stops (left_by true (tuner_part (cond b (Still u (Done 0)) (Still v (Refused CORRECTION)))) os t.chip t room).answer)
  unfolding left_by
  still_says true u v os room = record { setup = refl; step = refl; never = refl }
  still_says false u v os room = record { setup = refl; step = refl; never = refl }

  correct_row : (ppm : ℤ) (driver os room out : List ℕ)
      → Passed t (call (Correction ppm (driver_of driver).driver) os room) (turned (Correct ppm driver) out t) (amiss (Correct ppm driver)) (by_corrects (correct_over ppm (tuner_bytes t) driver) room)
  unfolding correct_over next_of
  correct_row ppm driver os room out = rw read (go (driver_of driver).ok refl)
    where
      d : Driver
      d = (driver_of driver).driver

      k : Call
      k = call (Correction ppm d) os room

      still : Call
      still = call (Correction ppm d) [] []

      test : Bool
      test = leb 1 (xtal_by t.nominal ppm) && leb 1 (xtal_by d.nominal ppm)

      any : result k t ≡ called (result still t).next room 0 (result still t).answer
      any =
          result_row t os room (Correction ppm d)
          ∙ corrected_any (sound t && sound_driver d) test _ _ _ _ os room
          ∙ sym (ap (λ (x : Called Tuner). called x.next room 0 x.answer) (result_row t [] [] (Correction ppm d)))

      none : (result still t).count ≡ 0
      none = ap (λ (x : Called Tuner). x.count) (result_row t [] [] (Correction ppm d) ∙ corrected_any (sound t && sound_driver d) test _ _ _ _ [] [])

      go : (b : Bool) → (driver_of driver).ok ≡ b
          → Passed t k (cond b 0 1) (not b || false)
          (by_corrects (cond b (corrects_made (correction_call ppm t d) (tuner_bytes t) driver) (corrects (reply_of (Refused SETUP) 0) (tuner_bytes t) driver)) room)
      go false e = away refl (record { setup = refl; step = refl; never = refl }) refl refl
      go true e =
          let good : (sound t && sound_driver d) ≡ true = rw (given_sound, driver_sound driver e) in
          let is : result k t ≡ left_by true (row_of (Correction ppm d) t) os t.chip t room =
          result_row t os room (Correction ppm d) ∙ ap (λ (b : Bool). left_by b (row_of (Correction ppm d) t) os t.chip t room) good in
          made refl (subst (λ (x : Called Tuner). Told (number_of x.answer) false (stops x.answer)) (sym is) (still_says test _ _ os room))
          (ap (reply_of (result still t).answer) none ∙ sym (ap call_reply any))
          (λ c. sym (ap (λ (x : Called Tuner). x.room) any))
          (in_place Fielded tuner_bytes 78 t (result still t) (fixed still refl) (long still refl) (image_long t r) ∙ sym (ap (λ (x : Called Tuner). tuner_bytes x.next) any))

  -- ---- every call

  pub every_passed : (e : Exported) (os room out : List ℕ) → typed e ≡ true → Passed t (call (order_of e) os room) (turned e out t) (amiss e) (left_of e os room out (tuner_bytes t))
  unfolding over_tuning
  every_passed (Own Initialize) os room out h = over_row (Tuned Initialize) os room out h (tuner.course_of Initialize) refl refl
  every_passed (Own Reload) os room out h = over_row (Tuned Reload) os room out h (tuner.course_of Reload) refl refl
  every_passed (Own (Bandwidth hz)) os room out h = over_row (Tuned (Bandwidth hz)) os room out h (tuner.course_of (Bandwidth hz)) refl refl
  every_passed (Own (IfFreq hz)) os room out h = over_row (Tuned (IfFreq hz)) os room out h (tuner.course_of (IfFreq hz)) refl refl
  every_passed (Own (Gain db)) os room out h = over_row (Tuned (Gain db)) os room out h (tuner.course_of (Gain db)) refl refl
  every_passed (Own (GainIndex k)) os room out h = over_row (Tuned (GainIndex k)) os room out h (tuner.course_of (GainIndex k)) refl refl
  every_passed (Own (InputPath path)) os room out h = over_row (Tuned (InputPath path)) os room out h (tuner.course_of (InputPath path)) refl refl
  every_passed (Own (Tune hz rs)) os room out h = over_row (Tuned (Tune hz rs)) os room out h (tuner.course_of (Tune hz rs)) refl refl
  every_passed (Own (Notch on)) os room out h = notch_row on os room
  every_passed (Own GainTold) os room out h = told_over GainTold os room _ refl
  every_passed (Own IfTold) os room out h = told_over IfTold os room _ refl
  every_passed (Own TableTold) os room out h = table_row os room out
  every_passed (Rate rate table driver left) os room out h =
      over_both_lem (SampleRate rate table (driver_of driver).driver) os room driver left out h _ (λ u v. rate_result rate (plan_by table v.frequency) os u v room) refl refl refl
  every_passed (Correct ppm driver) os room out h = correct_row ppm driver os room out
  every_passed (Path path rs) os room out h = over_row (BoardPath path rs) os room out h (board_row (path_of path) rs) refl refl
  every_passed (Hop hz table rs driver left) os room out h =
      over_both_lem (BoardTune hz table rs (driver_of driver).driver) os room driver left out h (hop_argument table hz) (λ u v. hop_result (plan_by table hz) hz rs os u v room) refl refl refl

-- the same at the end of a sequence, as the theorems about one have it
module _ (t : Tuner) (es : List Entry) (s : Sequence t es) (r : Ranged t) where
  pub next_ranged : (k : Call) → typed_order k.order ≡ true → Ranged (tuner_after k t)
  next_ranged = ranged_after t r

  pub few : (k : Call) → typed_order k.order ≡ true → (result k t).count < 4_294_967_296
  few = few_left t r

  pub passed : (e : Exported) (os room out : List ℕ) → typed e ≡ true → Passed t (call (order_of e) os room) (turned e out t) (amiss e) (left_of e os room out (tuner_bytes t))
  passed = every_passed t r
