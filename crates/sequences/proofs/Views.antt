-- A call by its contract is either a call of crate `chip` over the very program that its entries come of (`Stepping`), or takes no step (`Silent`). Which it
-- is, and all that follows, is read off its row; what is asked of a row (`Proper`) has one case for each call. Assumes nothing.
use Prim.Native.Nat.{ℕ, ◌+◌, ◌*◌, ◌≤◌}
use mathlib.Core.Path.{◌≡◌, refl, sym, subst}
use mathlib.Core.Bool.{Bool, true, false, ◌&&◌, cond}
use mathlib.Core.List.{List, [], ◌∷◌}
use native.Mathlib.Omega.{arith}
use borrow.Author.Tests.{eqb-false}
use lib.Dec.{eqb, leb}
use lib.IntN.{ℤ}
use lib.ListN.{length, length-append, length-map}
use Rattle.std.specs.Prelude.{Option, Some, None}
use Rattle.board.specs.declared.Path.{Path}
use Rattle.board.specs.Numbers.{path_of}
use Rattle.bands.specs.Tables.{plan_by}
use Rattle.boards.specs.Hops.{hop_result, hop_row}
use Rattle.refusals.specs.declared.Answer.{Answer}
use Rattle.refusals.specs.declared.Answer.TheVariants.{Done, Refused}
use Rattle.refusals.specs.Table.{SETUP, CORRECTION}
use Rattle.chip.specs.declared.Chip.{Chip}
use Rattle.chip.specs.declared.Update.{Update}
use Rattle.chip.specs.Calls.{Called, call_of, called, too_short, performed, refusal_with}
use Rattle.chip.specs.Courses.{Asked, Course, ask, asked_by, left_by, most_of, steps_of}
use Rattle.chip.specs.Courses.Course.{Still, Taken}
use Rattle.chip.specs.Steps.{Step, Trace, all_in, while_open, every, trace, update_step, updates}
use Rattle.chip.specs.Steps.Step.{Close}
use Rattle.gain.specs.Product.{gain_of}
use Rattle.gain.specs.Steps.{chosen_of, clamped, step_at}
use Rattle.pll.specs.declared.Kind.{Kind}
use Rattle.pll.specs.declared.Kind.TheVariants.{R820T, R828D}
use Rattle.std.specs.Prelude.{Option, Some, None}
use Rattle.pll.specs.declared.Plan.{Plan}
use Rattle.writes.specs.Lists.{bandwidth_updates, gain_updates, if_updates, path_updates}
use Rattle.r82xx.specs.declared.Tuner.{Tuner}
use Rattle.r82xx.specs.Record.{sound, with_corrected, with_gain, with_if}
use Rattle.tuning.specs.Program.{tune_answer}
use Rattle.r82xx.specs.Calls.{plan_for}
use Rattle.r82xx.specs.Orders.{bracket, gain_row, path_row}
use Rattle.r82xx.specs.Orders as tuner
use Rattle.r82xx.specs.Orders.Order.{Initialize, Reload, Bandwidth, IfFreq, Gain, GainIndex, InputPath, Tune, Notch, GainTold, IfTold, TableTold}
use Rattle.driver.specs.declared.Driver.{Driver}
use Rattle.driver.specs.Record.{sound_driver, with_ppm, xtal_by, xtal_of}
use Rattle.driver.specs.Programs.{board_path_steps, if_for}
use Rattle.driver.specs.Calls.{Both, board_result, board_row, both, correction_result, rate_result, rate_row}
use Rattle.driver.proofs.Lengths.{sample_rate_length}
use Rattle.history.specs.Programs.{fine}
use Rattle.history.specs.Histories.{stops}
use Rattle.history.proofs.Calls.{lent_room}
use Rattle.history.proofs.Fine.{fine_reload}
use Rattle.sequences.specs.Calls.{Order, asked, call, given, most, result_of, row_of, sound_for, tuner_of, tuner_part}
use Rattle.sequences.specs.Calls.Order.{Tuned, SampleRate, Correction, BoardPath, BoardTune}
use Rattle.writes.proofs.Lists.{bandwidth_in, gain_in, if_in, path_in}
use Rattle.sequences.proofs.Programs.{board_length, fine_board, fine_bracket, fine_hop, fine_init, fine_rate, fine_tune, hop_length, path_length, tune_length}

pub record Stepping (R : Type 0) (c : Chip) (old : R) (x : Called R) (a : Asked) (os room : List ℕ) : Type 0 where
  pub whole : Answer
  pub keep : Trace → R
  pub same : x ≡ call_of a.number whole os a.steps c keep old room
  pub named : stops whole ≡ false
  pub good : every fine a.steps ≡ true
  pub few : length a.steps ≤ 4096
  pub roomy : a.number ≡ 0 → 16 * length a.steps + 8 ≤ length room

-- a stepping call of the tuner: it hands the trace's chip back
pub record Moving (t : Tuner) (x : Called Tuner) (a : Asked) (os room : List ℕ) : Type 0 where
  pub steps : Stepping Tuner t.chip t x a os room
  pub kept : (tr : Trace) → (steps.keep tr).chip ≡ tr.chip

pub record Silent (t : Tuner) (x : Called Tuner) (a : Asked) : Type 0 where
  pub nothing : a ≡ ask 0 []
  pub count : x.count ≡ 0
  pub named : stops x.answer ≡ false
  pub kept : x.next.chip ≡ t.chip

pub data View (t : Tuner) (x : Called Tuner) (a : Asked) (os room : List ℕ) : Type 0 where
  moving : Moving t x a os room → View t x a os room
  silent : Silent t x a → View t x a os room

-- ---- calls with steps

-- ---- of any row

-- what is asked of a row: its answer is no step's failing; its steps pass crate history's test; what it keeps is the chip's record after them
pub data Proper (t : Tuner) : Course Tuner → Type 0 where
  resting : (next : Tuner) (answer : Answer) → stops answer ≡ false → next.chip ≡ t.chip → Proper t (Still next answer)
  stepping : (argument n m : ℕ) (rs : List ℕ) (whole : Answer) (ss : List Step) (keep : Trace → Tuner) → stops whole ≡ false → every fine ss ≡ true
      → ((tr : Trace) → (keep tr).chip ≡ tr.chip) → Proper t (Taken argument n m rs whole ss keep)

-- a row's steps are what is asked
pub asked_steps : {R : Type 0} (s : Bool) (row : Course R) (os room : ℕ) → (asked_by s row os room).steps ≡ steps_of row
asked_steps s (Still next answer) os room = refl
asked_steps s (Taken argument n m rs whole ss keep) os room = refl

-- a call that is not refused has the room of its most entries, so that of its steps
pub suffices : (whole : Bool) (argument n m : ℕ) (os rs room : List ℕ) (ss : List Step) → length ss ≤ n
    → refusal_with whole argument n m (length room) (length os) (length rs) ≡ 0 → 16 * length ss + 8 ≤ length room
suffices whole argument n m os rs room ss l e =
    omega (arith, l, lent_room n m (length room) (length os) (length rs) (go whole (eqb argument 0) refl e))
  where
    go : (w z : Bool) → eqb argument 0 ≡ z → cond w (cond z (too_short n m (length room) (length os) (length rs)) argument) 1 ≡ 0
        → too_short n m (length room) (length os) (length rs) ≡ 0
    go true true q h = h
    go true false q h = absurd (eqb-false argument 0 q h)
    go false z q h = absurd (omega arith)

module _ (t : Tuner) (s : Bool) (os room : List ℕ) where
  resting_view : (next : Tuner) (answer : Answer) → stops answer ≡ false → next.chip ≡ t.chip → (b : Bool)
      → Silent t (cond b (called next room 0 answer) (called t room 0 (Refused SETUP))) (ask 0 [])
  resting_view next answer n a true = record { nothing = refl; count = refl; named = n; kept = a }
  resting_view next answer n a false = record { nothing = refl; count = refl; named = refl; kept = refl }

  pub row_view : (row : Course Tuner) → Proper t row → length (steps_of row) ≤ most_of row → most_of row ≤ 4096
      → View t (left_by s row os t.chip t room) (asked_by s row (length os) (length room)) os room
  unfolding left_by
  row_view row (resting next answer n a) l f = silent (resting_view next answer n a s)
  row_view row (stepping argument n m rs whole ss keep named good a) l f =
      moving
      record {
        steps =
            record {
              whole = whole;
              keep = keep;
              same = refl;
              named = named;
              good = good;
              few = omega arith;
              roomy = suffices s argument n m os rs room ss l;
            };
        kept = a;
      }

-- ---- each row

bracket_steps : (us : List Update) → length (while_open (updates us)) ≡ length us + 2
bracket_steps us = omega (arith, length-append (updates us) (Close ∷ []), length-map us update_step)

path_long : (p : Option Path) (kind : Kind) (t : Tuner) → length (steps_of (path_row p kind t)) ≤ most_of (path_row p kind t)
unfolding bracket
path_long None kind t = omega arith
path_long (Some path) R820T t = omega arith
path_long (Some path) R828D t = omega (arith, path_length path)

board_long : (p : Option Path) (rs : List ℕ) (t : Tuner) → length (steps_of (board_row p rs t)) ≤ most_of (board_row p rs t)
board_long None rs t = omega arith
board_long (Some path) rs t = board_length t.kind path rs

-- both ways of a correction rest
still_long : (b : Bool) (u v : Both) (x y : Answer) → length (steps_of (tuner_part (cond b (Still u x) (Still v y)))) ≤ most_of (tuner_part (cond b (Still u x) (Still v y)))
still_long true u v x y = omega arith
still_long false u v x y = omega arith

-- no more steps than its most entries
pub row_long : (o : Order) (t : Tuner) → length (steps_of (row_of o t)) ≤ most o t
unfolding bracket gain_row
row_long (Tuned Initialize) t = omega arith
row_long (Tuned Reload) t = omega arith
row_long (Tuned (Bandwidth hz)) t = omega (arith, bracket_steps (bandwidth_updates hz))
row_long (Tuned (IfFreq hz)) t = omega (arith, bracket_steps (if_updates hz))
row_long (Tuned (Gain db)) t = omega (arith, bracket_steps (gain_updates (chosen_of db)))
row_long (Tuned (GainIndex k)) t = omega (arith, bracket_steps (gain_updates (clamped k)))
row_long (Tuned (InputPath path)) t = path_long (path_of path) t.kind t
row_long (Tuned (Tune hz rs)) t = tune_length t.chip.address t.kind t.notch (plan_for t hz) hz rs
row_long (Tuned (Notch on)) t = omega arith
row_long (Tuned GainTold) t = omega arith
row_long (Tuned IfTold) t = omega arith
row_long (Tuned TableTold) t = omega arith
row_long (SampleRate rate table d) t =
    omega (arith, sample_rate_length (if_for t.ifreq rate) rate (xtal_of d) (plan_by table d.frequency).plan.inverted)
row_long (Correction ppm d) t = still_long (leb 1 (xtal_by t.nominal ppm) && leb 1 (xtal_by d.nominal ppm)) _ _ _ _
row_long (BoardPath path rs) t = board_long (path_of path) rs t
row_long (BoardTune hz table rs d) t = hop_length t.kind t.chip.address (plan_by table hz).plan (plan_for t (plan_by table hz).plan.hz) rs

few_path : (p : Option Path) (kind : Kind) (t : Tuner) → most_of (path_row p kind t) ≤ 64
unfolding bracket
few_path None kind t = omega arith
few_path (Some path) R820T t = omega arith
few_path (Some path) R828D t = omega arith

few_board : (p : Option Path) (rs : List ℕ) (t : Tuner) → most_of (board_row p rs t) ≤ 64
few_board None rs t = omega arith
few_board (Some path) rs t = omega arith

few_still : (b : Bool) (u v : Both) (x y : Answer) → most_of (tuner_part (cond b (Still u x) (Still v y))) ≤ 64
few_still true u v x y = omega arith
few_still false u v x y = omega arith

-- 64 is the most of all
pub row_few : (o : Order) (t : Tuner) → most o t ≤ 64
unfolding bracket gain_row
row_few (Tuned Initialize) t = omega arith
row_few (Tuned Reload) t = omega arith
row_few (Tuned (Bandwidth hz)) t = omega arith
row_few (Tuned (IfFreq hz)) t = omega arith
row_few (Tuned (Gain db)) t = omega arith
row_few (Tuned (GainIndex k)) t = omega arith
row_few (Tuned (InputPath path)) t = few_path (path_of path) t.kind t
row_few (Tuned (Tune hz rs)) t = omega arith
row_few (Tuned (Notch on)) t = omega arith
row_few (Tuned GainTold) t = omega arith
row_few (Tuned IfTold) t = omega arith
row_few (Tuned TableTold) t = omega arith
row_few (SampleRate rate table d) t = omega arith
row_few (Correction ppm d) t = few_still (leb 1 (xtal_by t.nominal ppm) && leb 1 (xtal_by d.nominal ppm)) _ _ _ _
row_few (BoardPath path rs) t = few_board (path_of path) rs t
row_few (BoardTune hz table rs d) t = omega arith

module _ (t : Tuner) where
  bracket_proper : (n : ℕ) (us : List Update) (answer : Answer) (cut whole : Tuner) → stops answer ≡ false → all_in us ≡ true → Proper t (bracket n us answer cut whole)
  unfolding bracket
  bracket_proper n us answer cut whole named h = stepping 0 (n + 2) 0 [] answer (while_open (updates us)) _ named (fine_bracket us h) (λ tr. refl)

  gain_proper : (k : ℕ) → Proper t (gain_row k t)
  unfolding gain_row
  gain_proper k = bracket_proper 5 (gain_updates k) _ t (with_gain t (gain_of (step_at k))) refl (gain_in k)

  path_proper : (p : Option Path) (kind : Kind) → Proper t (path_row p kind t)
  path_proper None kind = resting t (Refused SETUP) refl refl
  path_proper (Some path) R820T = resting t (Done 0) refl refl
  path_proper (Some path) R828D = bracket_proper 2 (path_updates path) (Done 0) t t refl (path_in path)

  board_proper : (p : Option Path) (rs : List ℕ) → Proper t (board_row p rs t)
  board_proper None rs = resting t (Refused SETUP) refl refl
  board_proper (Some path) rs = stepping 0 10 3 rs (Done 0) (board_path_steps t.kind path rs) _ refl (fine_board t.kind path rs) (λ tr. refl)

  -- a correction leaves the chip's record as it was
  correction_proper : (b : Bool) (v : ℕ) (ppm : ℤ) (d : Driver) → Proper t (tuner_part (cond b (Still (both (with_corrected t v) (with_ppm d ppm)) (Done 0)) (Still (both t d) (Refused CORRECTION))))
  correction_proper true v ppm d = resting (with_corrected t v) (Done 0) refl refl
  correction_proper false v ppm d = resting t (Refused CORRECTION) refl refl

  unstopped : (plan : Option Plan) (hz : ℕ) → stops (tune_answer plan hz) ≡ false
  unstopped None hz = refl
  unstopped (Some p) hz = refl

  pub proper : (o : Order) → given o t ≡ true → t.chip.address ≤ 255 → Proper t (row_of o t)
  proper (Tuned Initialize) g small = stepping 0 19 0 [] (Done 0) _ _ refl fine_init (λ tr. refl)
  proper (Tuned Reload) g small = stepping 0 9 0 [] (Done 0) _ _ refl (fine_reload t.chip.shadow) (λ tr. refl)
  proper (Tuned (Bandwidth hz)) g small = bracket_proper 1 (bandwidth_updates hz) (Done 0) t t refl (bandwidth_in hz)
  proper (Tuned (IfFreq hz)) g small = bracket_proper 2 (if_updates hz) (Done 0) (with_if t hz) (with_if t hz) refl (if_in hz)
  proper (Tuned (Gain db)) g small = gain_proper (chosen_of db)
  proper (Tuned (GainIndex k)) g small = gain_proper (clamped k)
  proper (Tuned (InputPath path)) g small = path_proper (path_of path) t.kind
  proper (Tuned (Tune hz rs)) g small =
      stepping _ 53 35 rs (tune_answer (plan_for t hz) hz) _ _ (unstopped (plan_for t hz) hz)
      (fine_tune t.chip.address rs small g t.kind t.notch (plan_for t hz) hz) (λ tr. refl)
  proper (Tuned (Notch on)) g small = resting _ (Done 0) refl refl
  proper (Tuned GainTold) g small = resting t _ refl refl
  proper (Tuned IfTold) g small = resting t _ refl refl
  proper (Tuned TableTold) g small = resting t (Done 0) refl refl
  proper (SampleRate rate table d) g small =
      stepping _ 17 0 [] (Done 0) _ _ refl (fine_rate (if_for t.ifreq rate) rate (xtal_of d) (plan_by table d.frequency).plan.inverted) (λ tr. refl)
  proper (Correction ppm d) g small = correction_proper (leb 1 (xtal_by t.nominal ppm) && leb 1 (xtal_by d.nominal ppm)) (xtal_by t.nominal ppm) ppm d
  proper (BoardPath path rs) g small = board_proper (path_of path) rs
  proper (BoardTune hz table rs d) g small =
      stepping _ 64 38 rs (tune_answer (plan_for t (plan_by table hz).plan.hz) hz) _ _ (unstopped (plan_for t (plan_by table hz).plan.hz) hz)
      (fine_hop t.chip.address rs small g t.kind (plan_by table hz).plan (plan_for t (plan_by table hz).plan.hz)) (λ tr. refl)

-- ---- every call

module _ (t : Tuner) (os room : List ℕ) where
  -- of a call on both records, the tuner's part is a call on the tuner's
  tuner_part_lem : (number : ℕ) (whole : Answer) (ss : List Step) (keep : Trace → Both) (d : Driver)
      → tuner_of (call_of number whole os ss t.chip keep (both t d) room) ≡ call_of number whole os ss t.chip (λ tr. (keep tr).tuner) t room
  unfolding call_of
  tuner_part_lem number whole ss keep d = go (eqb number 0)
    where
      go : (b : Bool)
          → tuner_of (cond b (performed whole keep room (trace os ss t.chip)) (called (both t d) room 0 (Refused number)))
          ≡ cond b (performed whole (λ tr. (keep tr).tuner) room (trace os ss t.chip)) (called t room 0 (Refused number))
      go true = refl
      go false = refl

  -- likewise of one without steps
  still_part : (s b : Bool) (u v : Both) (x y : Answer) (d : Driver)
      → tuner_of (left_by s (cond b (Still u x) (Still v y)) os t.chip (both t d) room) ≡ left_by s (tuner_part (cond b (Still u x) (Still v y))) os t.chip t room
  unfolding left_by
  still_part true true u v x y d = refl
  still_part true false u v x y d = refl
  still_part false true u v x y d = refl
  still_part false false u v x y d = refl

  -- what a contract's definition leaves is what its row leaves
  pub result_row : (o : Order) → result_of o os room t ≡ left_by (sound_for o t) (row_of o t) os t.chip t room
  unfolding tuner.result_of rate_result correction_result board_result hop_result left_by
  result_row (Tuned o) = refl
  result_row (SampleRate rate table d) = tuner_part_lem (asked (call (SampleRate rate table d) os room) t).number (Done 0) (steps_of (rate_row rate (plan_by table d.frequency) t d)) _ d
  result_row (Correction ppm d) = still_part (sound t && sound_driver d) (leb 1 (xtal_by t.nominal ppm) && leb 1 (xtal_by d.nominal ppm)) _ _ _ _ d
  result_row (BoardPath path rs) = refl
  result_row (BoardTune hz table rs d) =
      tuner_part_lem (asked (call (BoardTune hz table rs d) os room) t).number (tune_answer (plan_for t (plan_by table hz).plan.hz) hz) (steps_of (hop_row (plan_by table hz) hz rs t d)) _ d

  pub view : (o : Order) → given o t ≡ true → t.chip.address ≤ 255 → View t (result_of o os room t) (asked (call o os room) t) os room
  view o g small =
      subst (λ (x : Called Tuner). View t x (asked (call o os room) t) os room) (sym (result_row o))
      (row_view t (sound_for o t) os room (row_of o t) (proper t o g small) (row_long o t) (omega (arith, row_few o t)))
