-- The driver's bytes that a host holds are a driver's record too: its making and every call keep its ranges. So beside a tuner's bytes of proofs/Demand.antt
-- no call on both is refused 1. Assumes nothing.
use Prim.Native.Nat.{ℕ, ◌*◌, ◌^◌, ◌≤◌, ◌<◌}
use mathlib.Core.Path.{◌≡◌, refl, sym, ap, subst, ◌∙◌}
use mathlib.Core.Bool.{Bool, true, false, not, ◌&&◌, ◌||◌, cond, false≢true, true≢false}
use mathlib.Core.List.{List, []}
use native.Mathlib.Nat.{div-le_self}
use native.Mathlib.Omega.{arith}
use borrow.Author.Tests.{eqb-true, leb-true, ltb-false}
use lib.Dec.{eqb, leb, ltb}
use lib.IntN.{ℤ, pos}
use lib.ListN.{length, replicate, take}
use mir.Syntax.{w32}
use mir.Val.{SFits}
use Rattle.std.specs.Prelude.{Option, Some, None}
use Rattle.bands.specs.declared.Planned.{Planned}
use Rattle.bands.specs.Tables.{plan_by}
use Rattle.board.specs.declared.Board.{Board}
use Rattle.board.specs.Numbers.{board_of}
use Rattle.boards.specs.Hops.{heard_by, hop_kept, hop_result, hop_row}
use Rattle.refusals.specs.declared.Answer.{Answer}
use Rattle.refusals.specs.declared.Answer.TheVariants.{Done, Refused, Stopped}
use Rattle.chip.specs.declared.Chip.{Chip}
use Rattle.chip.specs.declared.Progress.{Progress}
use Rattle.chip.specs.declared.Progress.TheVariants.{Going, Refused11}
use Rattle.refusals.specs.Answers.{number_of}
use Rattle.chip.specs.Calls.{Called, answer_of, call_of, called, performed, refusal_with}
use Rattle.chip.specs.Courses.{Course, left_by, steps_of}
use Rattle.chip.specs.Courses.Course.{Still, Taken}
use Rattle.chip.specs.Steps.{trace}
use Rattle.driver.specs.declared.Driver.{Driver}
use Rattle.driver.specs.Record.{driver, driver_of as madeDriver, made, made_on, nothing_made, sound_driver, with_ppm, xtal_by, xtal_of}
use Rattle.driver.specs.Calls.{Both, both, correction_call, correction_result, correction_row, rated_by, rate_result, rate_row, retuned}
use Rattle.driver.specs.Programs.{if_for}
use Rattle.refusals.specs.Lent.{lent_to}
use Rattle.refusals.specs.Table.{SETUP, CORRECTION, ROOM}
use Rattle.std.specs.Prelude.{Option, Some, None}
use Rattle.pll.specs.declared.Plan.{Plan}
use Rattle.registers.specs.Rates.{ratio_of, sent_of, true_of}
use Rattle.r82xx.specs.declared.Tuner.{Tuner}
use Rattle.r82xx.specs.Record.{sound, with_corrected}
use Rattle.r82xx.specs.Calls.{plan_for}
use Rattle.records.specs.Drivers.{driver_bytes, driver_fits, driver_from, driver_of, driver_widths, is_driver}
use Rattle.records.specs.Tuners.{tuner_of}
use Rattle.records.specs.Drivers.{DriverRead}
use Rattle.records.proofs.Driven.{RangedDriver, driver_read_lem}
use Rattle.records.proofs.Exact.{both as and_both}
use Rattle.reply.specs.Replies.{reply_of}
use Rattle.tuning.specs.Program.{tune_answer}
use Rattle.tuners.specs.Over.{next_of, unless_refused}
use Rattle.drivers.specs.Drivers.{fresh_into, both_ready, correct_over, corrects, corrects_made, hop_argument, hop_over, over_both, rate_over, rates_made, rates_refused}
use Rattle.history.proofs.Fitted.{most_trace}
use Rattle.wire.specs.Parts.{parts_from}
use Rattle.sequences.specs.Calls.Order.{SampleRate, BoardTune}
use Rattle.sequences.proofs.Views.{row_long}
use Rattle.transcript.specs.declared.Entry.{Entry}
use Rattle.chip.specs.Steps.{every}
use Rattle.sequences.specs.Calls.{is_byte}
use Rattle.reference.specs.Correct.{corrected_of}
use Rattle.wire.specs.Bytes.{le_bytes}
use Rattle.wire.specs.Parts.{joined}
use Rattle.carried.specs.Carried.{Carried}
use Rattle.carried.specs.Exported.{leaves, lent, plainly}
use Rattle.carried.specs.Exported.Exported.{Rate, Correct, Hop}
use Rattle.carried.specs.Driven.{Driven, taking29}
use Rattle.carried.specs.Driven.Driven.{fresh, rated, corrected, hopped}
use Rattle.carried.proofs.Steady.{Settled, Steady, hop_starts, late, row_settled, xtal_small}
use Rattle.carried.proofs.Steady.Steady.{resting, stepping}
use Rattle.carried.proofs.Passed.{found, in_place, picked, taken_over}
use Rattle.carried.proofs.Demand.{lent_done, refused_one}

-- a small number is an i32
sfits_small : (n : ℕ) → n < 2_147_483_648 → SFits w32 (pos n)
sfits_small n h = record { sfits = h }

-- the driver's half of both records
abbrev pub Heard : Both → Type 0
Heard b = RangedDriver b.driver

image : Both → List ℕ
image b = driver_bytes b.driver

-- ---- a record's bytes

pub driver_long : (d : Driver) → RangedDriver d → length (driver_bytes d) ≡ 29
unfolding driver_of is_driver
driver_long d r =
    let b : List ℕ = driver_bytes d in
    let ps : List (List ℕ) = parts_from 0 driver_widths b in
    let p = picked (is_driver b) (driver_from ps) (ap (λ (x : DriverRead). x.ok) (driver_read_lem d r)) in
    eqb-true (length b) 29 (and_both (eqb (length b) 29) (driver_fits ps) p.0).0

-- ---- the rows keep the ranges

true_small : (rate xtal : ℕ) → xtal < 4_294_967_296 → true_of rate xtal < 18_446_744_073_709_551_616
unfolding true_of
true_small rate xtal h = omega (arith, div-le_self (xtal * 2 ^ 22) (sent_of (ratio_of rate xtal)))

whole_answers : (plan : Option Plan) (hz : ℕ) → late (tune_answer plan hz) ≡ true
whole_answers None hz = refl
whole_answers (Some p) hz = refl

module _ (t : Tuner) (d : Driver) (r : RangedDriver d) where
  rated_ranged : (rate : ℕ) → rate < 4_294_967_296 → (w : Progress) → RangedDriver (rated_by d rate (xtal_of d) w)
  rated_ranged rate h Going =
      record { nominal = r.nominal; ppm = r.ppm; frequency = r.frequency; rate = h; actual = true_small rate (xtal_of d) (xtal_small d.nominal d.ppm); right = r.right }
  rated_ranged rate h (Refused11 k) = r

  heard_ranged : (hz : ℕ) → hz < 18_446_744_073_709_551_616 → (a : Answer) → RangedDriver (heard_by d hz a)
  heard_ranged hz h (Done value) = record { nominal = r.nominal; ppm = r.ppm; frequency = h; rate = r.rate; actual = r.actual; right = r.right }
  heard_ranged hz h (Refused n) = r
  heard_ranged hz h (Stopped i) = r

  pub rate_steady : (rate : ℕ) (p : Planned) → rate < 4_294_967_296 → Steady Heard (both t d) (rate_row rate p t d)
  rate_steady rate p h =
      stepping _ 17 0 [] (Done 0) _ (λ tr. both (retuned t (if_for t.ifreq rate) tr.chip) (rated_by d rate (xtal_of d) tr.progress)) refl refl
      (λ tr. rated_ranged rate h tr.progress)

  pub correction_steady : (ppm : ℤ) → SFits w32 ppm → Steady Heard (both t d) (correction_row ppm t d)
  correction_steady ppm f = go (leb 1 (xtal_by t.nominal ppm)) (leb 1 (xtal_by d.nominal ppm)) refl
    where
      go : (a b : Bool) → leb 1 (xtal_by d.nominal ppm) ≡ b
          → Steady Heard (both t d) (cond (a && b) (Still (both (with_corrected t (xtal_by t.nominal ppm)) (with_ppm d ppm)) (Done 0)) (Still (both t d) (Refused CORRECTION)))
      go true true e =
          resting (both (with_corrected t (xtal_by t.nominal ppm)) (with_ppm d ppm)) (Done 0) refl (λ q. absurd (true≢false q))
          (record { nominal = r.nominal; ppm = f; frequency = r.frequency; rate = r.rate; actual = r.actual; right = leb-true 1 (xtal_by d.nominal ppm) e })
      go true false e = resting (both t d) (Refused CORRECTION) refl (λ q. refl) r
      go false b e = resting (both t d) (Refused CORRECTION) refl (λ q. refl) r

  pub hop_steady : (hz : ℕ) (p : Planned) (rs : List ℕ) → hz < 18_446_744_073_709_551_616 → Steady Heard (both t d) (hop_row p hz rs t d)
  hop_steady hz p rs h =
      stepping _ 64 38 rs (tune_answer (plan_for t p.plan.hz) hz) _ (hop_kept t d p.plan (tune_answer (plan_for t p.plan.hz) hz) hz)
      (whole_answers (plan_for t p.plan.hz) hz) (hop_starts t.kind p.plan.path rs _)
      (λ tr. heard_ranged hz h (answer_of (tune_answer (plan_for t p.plan.hz) hz) tr.progress))

-- ---- what a call on both leaves of the driver's

-- no more entries than steps
pub left_count : {R : Type 0} (s : Bool) (row : Course R) (os : List ℕ) (c : Chip) (old : R) (room : List ℕ) → length (steps_of row) ≤ 64 → (left_by s row os c old room).count ≤ 64
unfolding left_by call_of
left_count s (Still next answer) os c old room h = go s
  where
    go : (b : Bool) → (cond b (called next room 0 answer) (called old room 0 (Refused SETUP))).count ≤ 64
    go true = omega arith
    go false = omega arith
left_count s (Taken argument n m rs whole ss keep) os c old room h = go (eqb (refusal_with s argument n m (length room) (length os) (length rs)) 0)
  where
    go : (b : Bool) → (cond b (performed whole keep room (trace os ss c)) (called old room 0 (Refused (refusal_with s argument n m (length room) (length os) (length rs))))).count ≤ 64
    go true = omega (arith, most_trace os ss c)
    go false = omega arith

-- bytes of a driver's record in its ranges
pub record Kept (b : List ℕ) : Type 0 where
  pub record_of : Driver
  pub bytes : b ≡ driver_bytes record_of
  pub ranges : RangedDriver record_of

-- where a call on both is not turned away the driver's slice is long enough
pub slot_long : (ok : Bool) (number slot next : ℕ) → eqb (both_ready ok number slot next) 0 ≡ true → 29 ≤ slot
unfolding both_ready
slot_long ok number slot next z = go ok (eqb number 0) refl (ltb slot 29) refl (ltb next 78) z
  where
    go : (k a : Bool) → eqb number 0 ≡ a → (y : Bool) → ltb slot 29 ≡ y → (w : Bool) → eqb (cond k (cond a (cond (y || w) ROOM 0) number) SETUP) 0 ≡ true → 29 ≤ slot
    go true true e false q w h = ltb-false slot 29 q
    go true true e true q w h = absurd (false≢true h)
    go true false e y q w h = absurd (true≢false (sym h ∙ e))
    go false a e y q w h = absurd (false≢true h)

module _ (d : Driver) (r : RangedDriver d) (t : Tuner) (c : Called Both) (s : Settled Heard (both t d) c) (few : c.count ≤ 64) (room slot next : List ℕ) where
  -- turned away, or made, as crate drivers decides it
  kept_both : (n : ℕ) → (eqb n 0 ≡ true → 29 ≤ length slot)
      → Kept
      (taking29 (unless_refused n (λ m. rates_refused m room slot next) (rates_made c slot next)).answer
      (unless_refused n (λ m. rates_refused m room slot next) (rates_made c slot next)).driver (driver_bytes d))
  unfolding unless_refused next_of image
  kept_both n long = go (eqb n 0) refl
    where
      go : (b : Bool) → eqb n 0 ≡ b
          → Kept (taking29 (cond b (rates_made c slot next) (rates_refused n room slot next)).answer (cond b (rates_made c slot next) (rates_refused n room slot next)).driver (driver_bytes d))
      go false z = record { record_of = d; bytes = rw z; ranges = r }
      go true z =
          record {
            record_of = c.next.driver;
            bytes = taken_over Heard image 29 (both t d) c s (driver_long c.next.driver s.ranges) slot (long z) (omega arith);
            ranges = s.ranges;
          }

-- ---- the makings and the calls

pub made_driver : (board : Option Board) (nominal : ℕ) (ppm : ℤ) (frequency rate : ℕ) → SFits w32 ppm → frequency < 18_446_744_073_709_551_616 → rate < 4_294_967_296
    → number_of (made_on board nominal ppm frequency rate).answer ≡ 0 → RangedDriver (made_on board nominal ppm frequency rate).driver
made_driver None nominal ppm frequency rate p f r h = absurd (omega arith)
made_driver (Some board) nominal ppm frequency rate p f r h = go (leb 1 nominal) (leb nominal 4_294_967_295) refl (leb 1 (xtal_by nominal ppm)) refl h
  where
    go : (a b : Bool) → leb nominal 4_294_967_295 ≡ b → (x : Bool) → leb 1 (xtal_by nominal ppm) ≡ x
        → number_of (cond (a && b) (cond x (made (Done 0) (driver board nominal ppm frequency rate 0)) (nothing_made CORRECTION)) (nothing_made SETUP)).answer ≡ 0
        → RangedDriver (cond (a && b) (cond x (made (Done 0) (driver board nominal ppm frequency rate 0)) (nothing_made CORRECTION)) (nothing_made SETUP)).driver
    go true true e true q n =
        record { nominal = omega (arith, leb-true nominal 4_294_967_295 e); ppm = p; frequency = f; rate = r; actual = omega arith; right = leb-true 1 (xtal_by nominal ppm) q }
    go true true e false q n = absurd (omega arith)
    go true false e x q n = absurd (omega arith)
    go false b e x q n = absurd (omega arith)

module _ (d : Driver) (r : RangedDriver d) (tuner : List ℕ) where
  abbrev u : Tuner
  u = (tuner_of tuner).tuner

  over_kept : (argument : Tuner → Driver → ℕ) (res : Tuner → Driver → Called Both) (room slot next : List ℕ) → Settled Heard (both u d) (res u d) → (res u d).count ≤ 64
      → Kept (taking29 (over_both argument res (driver_bytes d) tuner room slot next).answer (over_both argument res (driver_bytes d) tuner room slot next).driver (driver_bytes d))
  unfolding over_both
  over_kept argument res room slot next s few =
      rw (driver_read_lem d r)
      (kept_both d r u (res u d) s few room slot next (both_ready (tuner_of tuner).ok (argument u d) (length slot) (length next))
      (slot_long (tuner_of tuner).ok (argument u d) (length slot) (length next)))

  rate_kept : (rate : ℕ) (table os room slot next : List ℕ) → rate < 4_294_967_296
      → Kept (taking29 (rate_over os rate table (driver_bytes d) tuner room slot next).answer (rate_over os rate table (driver_bytes d) tuner room slot next).driver (driver_bytes d))
  unfolding rate_result
  rate_kept rate table os room slot next h =
      over_kept _ (λ t v. rate_result rate (plan_by table v.frequency) os t v room) room slot next
      (row_settled Heard (both u d) r u.chip (sound u && sound_driver d) os room (rate_row rate (plan_by table d.frequency) u d) (rate_steady u d r rate (plan_by table d.frequency) h))
      (left_count (sound u && sound_driver d) (rate_row rate (plan_by table d.frequency) u d) os u.chip (both u d) room
      (omega (arith, row_long (SampleRate rate table d) u)))

  hop_kept_lem : (hz : ℕ) (table rs os room slot next : List ℕ) → hz < 18_446_744_073_709_551_616
      → Kept (taking29 (plainly (hop_over table hz rs os (driver_bytes d) tuner room slot next).answer) (hop_over table hz rs os (driver_bytes d) tuner room slot next).driver (driver_bytes d))
  unfolding hop_result
  hop_kept_lem hz table rs os room slot next h =
      over_kept (hop_argument table hz) (λ t v. hop_result (plan_by table hz) hz rs os t v room) room slot next
      (row_settled Heard (both u d) r u.chip (sound u && sound_driver d) os room (hop_row (plan_by table hz) hz rs u d) (hop_steady u d r hz (plan_by table hz) rs h))
      (left_count (sound u && sound_driver d) (hop_row (plan_by table hz) hz rs u d) os u.chip (both u d) room (omega (arith, row_long (BoardTune hz table rs d) u)))

  correct_kept : (ppm : ℤ) → SFits w32 ppm → Kept (correct_over ppm tuner (driver_bytes d)).driver
  unfolding correct_over correction_result next_of image
  correct_kept ppm f = rw (driver_read_lem d r) (go (tuner_of tuner).ok)
    where
      c : Called Both
      c = correction_call ppm u d

      s : Settled Heard (both u d) (left_by (sound u && sound_driver d) (correction_row ppm u d) [] u.chip (both u d) [])
      s = row_settled Heard (both u d) r u.chip (sound u && sound_driver d) [] [] (correction_row ppm u d) (correction_steady u d r ppm f)

      go : (b : Bool) → Kept (cond (b && true) (corrects_made (correction_call ppm u d) tuner (driver_bytes d)) (corrects (reply_of (Refused SETUP) 0) tuner (driver_bytes d))).driver
      go false = record { record_of = d; bytes = refl; ranges = r }
      go true =
          record {
            record_of = (correction_call ppm u d).next.driver;
            bytes = in_place Heard image 29 (both u d) (correction_call ppm u d) s (driver_long (correction_call ppm u d).next.driver s.ranges) (driver_long d r);
            ranges = s.ranges;
          }

-- the one law: the driver's bytes that a host holds are those of a driver's record in its ranges
pub kept : (b : List ℕ) → Driven b → Kept b
unfolding madeDriver
kept b (fresh board nominal ppm frequency rate out p f r h) =
    let d : Driver = (madeDriver board nominal ppm frequency rate).driver in
    let q = lent_done (number_of (madeDriver board nominal ppm frequency rate).answer) _ (driver_bytes d) out h in
    let g : RangedDriver d = made_driver (board_of board) nominal ppm frequency rate p f r q.0 in
    record { record_of = d; bytes = ap (take 29) q.2 ∙ found 29 (driver_bytes d) out (driver_long d g) (omega (arith, driver_long d g, q.1)); ranges = g }
kept b (rated e v rate table tuner os room slot next h) =
    let p = kept e v in
    subst (λ (d : List ℕ). Kept (taking29 (rate_over os rate table d tuner room slot next).answer (rate_over os rate table d tuner room slot next).driver d)) (sym p.bytes)
    (rate_kept p.record_of p.ranges tuner rate table os room slot next h)
kept b (corrected e v ppm tuner h) =
    let p = kept e v in
    subst (λ (d : List ℕ). Kept (correct_over ppm tuner d).driver) (sym p.bytes) (correct_kept p.record_of p.ranges tuner ppm h)
kept b (hopped e v hz table rs tuner os room slot next h) =
    let p = kept e v in
    subst (λ (d : List ℕ). Kept (taking29 (plainly (hop_over table hz rs os d tuner room slot next).answer) (hop_over table hz rs os d tuner room slot next).driver d)) (sym p.bytes)
    (hop_kept_lem p.record_of p.ranges tuner hz table rs os room slot next h)

-- no call on them is refused 1 for its driver's record
pub driver_readable : (b : List ℕ) → Driven b → (driver_of b).ok ≡ true
driver_readable b v =
    let p = kept b v in
    ap (λ (d : List ℕ). (driver_of d).ok) p.bytes ∙ ap (λ (x : DriverRead). x.ok) (driver_read_lem p.record_of p.ranges)

-- so of a host that holds both, a sample rate, a correction and a board-level tune are never refused 1
module _ (b : List ℕ) (es : List Entry) (c : Carried b es) (d : List ℕ) (v : Driven d) (os room out : List ℕ) where
  found_there : (not (driver_of d).ok || false) ≡ false
  found_there = rw (driver_readable d v)

  pub rate_taken : (rate : ℕ) (table slot : List ℕ) → eqb (leaves (lent (Rate rate table d slot) os room out) b).reply.refusal SETUP ≡ false
  rate_taken rate table slot = refused_one b es c (lent (Rate rate table d slot) os room out) refl ∙ found_there

  pub correction_taken : (ppm : ℤ) → eqb (leaves (lent (Correct ppm d) os room out) b).reply.refusal SETUP ≡ false
  correction_taken ppm = refused_one b es c (lent (Correct ppm d) os room out) refl ∙ found_there

  pub hop_taken : (hz : ℕ) (table rs slot : List ℕ) → every is_byte rs ≡ true → eqb (leaves (lent (Hop hz table rs d slot) os room out) b).reply.refusal SETUP ≡ false
  hop_taken hz table rs slot h = refused_one b es c (lent (Hop hz table rs d slot) os room out) h ∙ found_there

-- there is such a driver: a generic board's, made, and then corrected beside a tuner's bytes that are none
abbrev generic : List ℕ
generic = take 29 (fresh_into 0 28_800_000 (pos 0) 100_000_000 0 (replicate 29 0)).out

pub worked_driven : Driven (correct_over (pos 1) [] generic).driver
unfolding madeDriver xtal_by corrected_of lent_to driver_bytes joined le_bytes
worked_driven =
    corrected generic (fresh 0 28_800_000 (pos 0) 100_000_000 0 (replicate 29 0) (sfits_small 0 (omega arith)) (omega arith) (omega arith) refl) (pos 1) [] (sfits_small 1 (omega arith))
