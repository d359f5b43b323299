-- What every call keeps of a record's ranges, by its row: one line for each row. The chip's part is crate `history`'s (`Tracks`), so it is left out here.
-- Assumes nothing.
use Prim.Native.Nat.{ℕ, zero, suc, ◌+◌, ◌*◌, ◌^◌, ◌≤◌, ◌<◌}
use mathlib.Core.Path.{◌≡◌, refl, sym, ap, subst, ◌∙◌}
use mathlib.Core.Bool.{Bool, true, false, not, ◌&&◌, ◌||◌, cond, false≢true, true≢false}
use mathlib.Core.List.{List, [], ◌∷◌, ◌++◌}
use native.Mathlib.Omega.{arith}
use borrow.Author.Tests.{eqb-true, leb-true, lt-ltb, ltb-true, ne_eqb}
use lib.Dec.{T, eqb, leb, ltb}
use lib.Ieee.{binary32, fits, of_int}
use lib.Ieee.Fits.{div-fits}
use lib.IntN.{ℤ, pos, negsuc, ◌+ℤ◌}
use lib.ListN.{length, length-append}
use mir.Syntax.{w64}
use mir.Val.{to_z}
use Rattle.std.specs.Prelude.{Option, Some, None}
use Rattle.board.specs.declared.Path.{Path}
use Rattle.board.specs.Numbers.{path_of}
use Rattle.bands.specs.declared.Band.{Band}
use Rattle.bands.specs.Tables.{bands_of, holds as within, landed, plan_at, plan_by, plan_in, refused, table_ok, tuned}
use Rattle.boards.specs.Hops.{path_part}
use Rattle.refusals.specs.declared.Answer.{Answer}
use Rattle.refusals.specs.declared.Answer.TheVariants.{Done, Refused, Stopped}
use Rattle.chip.specs.declared.Chip.{Chip}
use Rattle.chip.specs.declared.Update.{Update}
use Rattle.chip.specs.declared.Progress.{Progress}
use Rattle.chip.specs.declared.Progress.TheVariants.{Going, Refused11}
use Rattle.refusals.specs.Answers.{number_of}
use Rattle.refusals.specs.Table.{SETUP, FREQUENCY, RATE, CORRECTION, ROOM, OUTCOMES, REPLIES, STEP, RATIO, TABLE}
use Rattle.chip.specs.Calls.{Called, answer_of, call_of, called, too_short, performed, refusal_with}
use Rattle.chip.specs.Courses.{Course, argument_of, left_by, replies_of}
use Rattle.chip.specs.Courses.Course.{Still, Taken}
use Rattle.chip.specs.Steps.{Step, Trace, acts, while_open, every, in_list, inner, line, ok_for, run, step, taken, trace, updates}
use Rattle.chip.specs.Steps.Step.{Open, Close, Send, Mask, Plain}
use Rattle.chip.proofs.Laws.{active, and_left}
use Rattle.device.specs.Accesses.{access_step}
use Rattle.device.specs.Gpio.{output_steps}
use Rattle.gain.specs.Product.{gain_of, ten}
use Rattle.gain.specs.Steps.{chosen_of, clamped, step_at}
use Rattle.pll.specs.declared.Kind.{Kind}
use Rattle.pll.specs.declared.Kind.TheVariants.{R820T, R828D}
use Rattle.std.specs.Prelude.{Option, Some, None}
use Rattle.pll.specs.declared.Plan.{Plan}
use Rattle.registers.specs.Rates.{ratio_holds, ratio_of, rate_number}
use Rattle.std.specs.Prelude.{Option, Some, None}
use Rattle.reference.specs.Correct.{corrected_of}
use Rattle.reference.proofs.Corrections.{in_range_lem}
use Rattle.tuning.specs.Program.{tune_answer}
use Rattle.writes.specs.Lists.{bandwidth_updates, gain_updates, if_updates, path_updates}
use Rattle.r82xx.specs.declared.Tuner.{Tuner}
use Rattle.r82xx.specs.Record.{ended_by, with_chip, with_corrected, with_gain, with_if, with_lock, with_notch}
use Rattle.r82xx.specs.Calls.{plan_for}
use Rattle.r82xx.specs.Orders.{bracket, gain_row, lock_kept, path_row}
use Rattle.r82xx.specs.Orders.Order.{Initialize, Reload, Bandwidth, IfFreq, Gain, GainIndex, InputPath, Tune, Notch, GainTold, IfTold, TableTold}
use Rattle.driver.specs.declared.Driver.{Driver}
use Rattle.driver.specs.Record.{with_ppm, xtal_by, xtal_of}
use Rattle.driver.specs.Programs.{board_path_steps, if_for}
use Rattle.driver.specs.Calls.{Both, board_row, both, retuned}
use Rattle.history.specs.Histories.{stops}
use Rattle.history.proofs.Runs.{run_log}
use Rattle.records.proofs.Exact.{Ranged}
use Rattle.tuners.specs.Over.{is_written}
use Rattle.sequences.specs.Calls.{Order, given, is_byte, result_of, row_of, sound_for, tuner_part}
use Rattle.sequences.specs.Calls.Order.{Tuned, SampleRate, Correction, BoardPath, BoardTune}
use Rattle.sequences.proofs.Views.{result_row}
use Rattle.carried.specs.Exported.{pathless, typed_order}

-- the ranges of a record beside its chip's part
pub record Fielded (t : Tuner) : Type 0 where
  pub nominal : t.nominal < 4_294_967_296
  pub known : 1 ≤ t.nominal
  pub corrected : t.corrected < 4_294_967_296
  pub right : 1 ≤ t.corrected
  pub gain : T (fits binary32 t.gain)
  pub ifreq : t.ifreq < 18_446_744_073_709_551_616

pub fielded : (t : Tuner) → Ranged t → Fielded t
fielded t h = record { nominal = h.nominal; known = h.known; corrected = h.corrected; right = h.right; gain = h.gain; ifreq = h.ifreq }

-- an answer that is no refusal by the number 0
abbrev pub plain : Answer → Bool
plain (Done value) = true
plain (Refused number) = not (eqb number 0)
plain (Stopped index) = true

-- and one behind steps that are all done: a value, or the PLL's refusal
abbrev pub late : Answer → Bool
late (Done value) = true
late (Refused number) = eqb number FREQUENCY
late (Stopped index) = false

-- a test of refusal numbers that none passes but 1 and 11: which of them is left is told by one law for both
pub record Bare (test : ℕ → Bool) : Type 0 where
  pub none : test 0 ≡ false
  pub frequency : test FREQUENCY ≡ false
  pub rate : test RATE ≡ false
  pub correction : test CORRECTION ≡ false
  pub room : test ROOM ≡ false
  pub outcomes : test OUTCOMES ≡ false
  pub replies : test REPLIES ≡ false
  pub ratio : test RATIO ≡ false
  pub table : test TABLE ≡ false

pub ones : Bare (λ n. eqb n SETUP)
ones = record { none = refl; frequency = refl; rate = refl; correction = refl; room = refl; outcomes = refl; replies = refl; ratio = refl; table = refl }

pub elevens : Bare (λ n. eqb n STEP)
elevens = record { none = refl; frequency = refl; rate = refl; correction = refl; room = refl; outcomes = refl; replies = refl; ratio = refl; table = refl }

pub fives : Bare (λ n. eqb n 5)
fives = record { none = refl; frequency = refl; rate = refl; correction = refl; room = refl; outcomes = refl; replies = refl; ratio = refl; table = refl }

-- a program whose first step is taken
abbrev pub starts : List Step → Bool
starts [] = false
starts (s ∷ ss) = inner s

-- what is asked of a row: its answer is no refusal by 0, at rest it changes the record only where it is done, its steps begin, and it keeps the ranges
-- P, of the tuner's record or of both
pub data Steady {R : Type 0} (P : R → Type 0) (old : R) : Course R → Type 0 where
  resting : (next : R) (answer : Answer) → plain answer ≡ true → (is_written answer 0 ≡ false → next ≡ old) → P next → Steady P old (Still next answer)
  stepping : (argument n m : ℕ) (rs : List ℕ) (whole : Answer) (ss : List Step) (keep : Trace → R) → late whole ≡ true → starts ss ≡ true
      → ((tr : Trace) → P (keep tr)) → Steady P old (Taken argument n m rs whole ss keep)

-- ---- of any row

-- a program that begins leaves an entry
inner_acts : (s : Step) → inner s ≡ true → acts s Going false ≡ true
inner_acts Open h = refl
inner_acts Close h = absurd (false≢true h)
inner_acts (Send n bytes) h = refl
inner_acts (Mask register value mask) h = refl
inner_acts (Plain e) h = refl

pub some_entry : (os : List ℕ) (ss : List Step) (c : Chip) → starts ss ≡ true → 1 ≤ length (trace os ss c).log
unfolding trace run
some_entry os [] c h = absurd (false≢true h)
some_entry os (s ∷ ss) c h =
    let first : Trace = taken in_list os (ok_for os 0 s) s (line c [] 0 Going false) in
    let moved : first ≡ step in_list os s (line c [] 0 Going false) = active in_list os s (line c [] 0 Going false) (inner_acts s h) in
    let more = run_log os ss first in
    subst (λ (u : Trace). 1 ≤ length (run in_list os ss u).log) moved
    (omega (arith, ap length more.1, length-append first.log more.0))

-- what a call leaves: no refusal by 0, the record as it was where the next one is not written, and its ranges
pub record Settled {R : Type 0} (P : R → Type 0) (old : R) (x : Called R) : Type 0 where
  pub named : plain x.answer ≡ true
  pub same : is_written x.answer x.count ≡ false → x.next ≡ old
  pub ranges : P x.next

kept_some : (a : Answer) (n : ℕ) → 1 ≤ n → is_written a n ≡ true
kept_some (Done value) n h = refl
kept_some (Refused number) n h = ap not (ne_eqb n 0 (λ e. omega arith))
kept_some (Stopped index) n h = ap not (ne_eqb n 0 (λ e. omega arith))

late_plain : (whole : Answer) (w : Progress) → late whole ≡ true → plain (answer_of whole w) ≡ true
late_plain (Done value) Going h = refl
late_plain (Refused number) Going h = ap (λ (n : ℕ). not (eqb n 0)) (eqb-true number FREQUENCY h)
late_plain (Stopped index) Going h = refl
late_plain whole (Refused11 k) h = refl

module _ {R : Type 0} (P : R → Type 0) (old : R) (f : P old) (c : Chip) (s : Bool) (os room : List ℕ) where
  at_rest : (next : R) (answer : Answer) → plain answer ≡ true → (is_written answer 0 ≡ false → next ≡ old) → P next → (b : Bool)
      → Settled P old (cond b (called next room 0 answer) (called old room 0 (Refused SETUP)))
  at_rest next answer p k g true = record { named = p; same = k; ranges = g }
  at_rest next answer p k g false = record { named = refl; same = λ e. refl; ranges = f }

  in_steps : (number : ℕ) (whole : Answer) (ss : List Step) (keep : Trace → R) → late whole ≡ true → starts ss ≡ true → ((tr : Trace) → P (keep tr))
      → (b : Bool) → eqb number 0 ≡ b → Settled P old (cond b (performed whole keep room (trace os ss c)) (called old room 0 (Refused number)))
  in_steps number whole ss keep p n g true e =
      let tr : Trace = trace os ss c in
      record {
        named = late_plain whole tr.progress p;
        same = λ k. absurd (true≢false (sym (kept_some (answer_of whole tr.progress) (length tr.log) (some_entry os ss c n)) ∙ k));
        ranges = g tr;
      }
  in_steps number whole ss keep p n g false e = record { named = ap not e; same = λ k. refl; ranges = f }

  pub row_settled : (row : Course R) → Steady P old row → Settled P old (left_by s row os c old room)
  unfolding left_by call_of
  row_settled row (resting next answer p k g) = at_rest next answer p k g s
  row_settled row (stepping argument n m rs whole ss keep p b g) =
      in_steps (refusal_with s argument n m (length room) (length os) (length rs)) whole ss keep p b g _ refl

-- a record in its ranges, and an argument that is not refused: then no call is refused 1, and 11 is a step's failing
module _ (test : ℕ → Bool) (bare : Bare test) where
  -- what was lent too short is refused by 8, 9 or 10
  pub lent_number : (n m room os rs : ℕ) → test (too_short n m room os rs) ≡ false
  unfolding too_short
  lent_number n m room os rs = go (ltb room (16 * n + 8)) (ltb os n) (ltb rs m)
    where
      go : (a b c : Bool) → test (cond a ROOM (cond b OUTCOMES (cond c REPLIES 0))) ≡ false
      go true b c = bare.room
      go false true c = bare.outcomes
      go false false true = bare.replies
      go false false false = bare.none

  late_number : (whole : Answer) (w : Progress) → late whole ≡ true → test (number_of (answer_of whole w)) ≡ (stops (answer_of whole w) && test STEP)
  late_number (Done value) Going h = bare.none
  late_number (Refused number) Going h = ap test (eqb-true number FREQUENCY h) ∙ bare.frequency
  late_number (Stopped index) Going h = refl
  late_number whole (Refused11 k) h = refl

  rest_number : (answer : Answer) → eqb (number_of answer) 0 ≡ true → test (number_of answer) ≡ (stops answer && test STEP)
  rest_number (Done value) h = bare.none
  rest_number (Refused number) h = ap test (eqb-true number 0 h) ∙ bare.none
  rest_number (Stopped index) h = refl

  module _ (t : Tuner) (os room : List ℕ) where
    steps_number : (number : ℕ) (whole : Answer) (ss : List Step) (keep : Trace → Tuner) → late whole ≡ true → test number ≡ false → (b : Bool)
        → test (number_of (cond b (performed whole keep room (trace os ss t.chip)) (called t room 0 (Refused number))).answer)
        ≡ (stops (cond b (performed whole keep room (trace os ss t.chip)) (called t room 0 (Refused number))).answer && test STEP)
    steps_number number whole ss keep p n true = late_number whole (trace os ss t.chip).progress p
    steps_number number whole ss keep p n false = n

    pub row_number : (row : Course Tuner) → Steady Fielded t row → eqb (argument_of row) 0 ≡ true
        → test (number_of (left_by true row os t.chip t room).answer) ≡ (stops (left_by true row os t.chip t room).answer && test STEP)
    unfolding left_by call_of
    row_number row (resting next answer p k g) h = rest_number answer h
    row_number row (stepping argument n m rs whole ss keep p b g) h =
        steps_number (refusal_with true argument n m (length room) (length os) (length rs)) whole ss keep p (rw h (lent_number n m (length room) (length os) (length rs)))
        (eqb (refusal_with true argument n m (length room) (length os) (length rs)) 0)

-- ---- each row

-- the corrected reference of a correction that is taken is in its range
pub xtal_small : (nominal : ℕ) (ppm : ℤ) → xtal_by nominal ppm < 4_294_967_296
unfolding xtal_by
xtal_small nominal ppm = go (corrected_of nominal ppm) refl
  where
    go : (c : Option ℕ) → corrected_of nominal ppm ≡ c → xtal_by nominal ppm < 4_294_967_296
    go (Some v) e = rw e (omega (arith, in_range_lem nominal ppm v e))
    go None e = rw e (omega arith)

pub hop_starts : (kind : Kind) (r : Option Path) (rs : List ℕ) (ss : List Step) → starts (path_part kind r rs ++ (Open ∷ ss)) ≡ true
unfolding output_steps access_step
hop_starts R820T r rs ss = refl
hop_starts R828D None rs ss = refl
hop_starts R828D (Some path) rs ss = refl

module _ (t : Tuner) (f : Fielded t) where
  moved : (c : Chip) → Fielded (with_chip t c)
  moved c = record { nominal = f.nominal; known = f.known; corrected = f.corrected; right = f.right; gain = f.gain; ifreq = f.ifreq }

  -- also with a lock and a notch of its own
  locked : (l n : Bool) (c : Chip) → Fielded (with_notch (with_lock (with_chip t c) l) n)
  locked l n c = record { nominal = f.nominal; known = f.known; corrected = f.corrected; right = f.right; gain = f.gain; ifreq = f.ifreq }

  ended : (u v : Tuner) → Fielded u → Fielded v → (w : Progress) (c : Chip) → Fielded (ended_by u v w c)
  ended u v g h Going c = record { nominal = h.nominal; known = h.known; corrected = h.corrected; right = h.right; gain = h.gain; ifreq = h.ifreq }
  ended u v g h (Refused11 k) c = record { nominal = g.nominal; known = g.known; corrected = g.corrected; right = g.right; gain = g.gain; ifreq = g.ifreq }

  ifed : (hz : ℕ) (c : Chip) → hz < 18_446_744_073_709_551_616 → Fielded (with_chip (with_if t hz) c)
  ifed hz c h = record { nominal = f.nominal; known = f.known; corrected = f.corrected; right = f.right; gain = f.gain; ifreq = h }

  gained : (k : ℕ) → Fielded (with_gain t (gain_of k))
  unfolding gain_of
  gained k =
      record { nominal = f.nominal; known = f.known; corrected = f.corrected; right = f.right; gain = div-fits binary32 (of_int binary32 (pos k)) ten; ifreq = f.ifreq }

  bracket_steady : (n : ℕ) (us : List Update) (answer : Answer) (cut whole : Tuner) → late answer ≡ true → Fielded cut → Fielded whole → Steady Fielded t (bracket n us answer cut whole)
  unfolding bracket
  bracket_steady n us answer cut whole p g h =
      stepping 0 (n + 2) 0 [] answer (while_open (updates us)) _ p refl (λ tr. ended cut whole g h tr.progress tr.chip)

  gain_steady : (k : ℕ) → Steady Fielded t (gain_row k t)
  unfolding gain_row
  gain_steady k = bracket_steady 5 (gain_updates k) _ t (with_gain t (gain_of (step_at k))) refl f (gained (step_at k))

  path_steady : (p : Option Path) (kind : Kind) → Steady Fielded t (path_row p kind t)
  path_steady None kind = resting t (Refused SETUP) refl (λ e. refl) f
  path_steady (Some path) R820T = resting t (Done 0) refl (λ e. refl) f
  path_steady (Some path) R828D = bracket_steady 2 (path_updates path) (Done 0) t t refl f f

  board_steady : (p : Option Path) (rs : List ℕ) → Steady Fielded t (board_row p rs t)
  unfolding output_steps access_step
  board_steady None rs = resting t (Refused SETUP) refl (λ e. refl) f
  board_steady (Some path) rs = stepping 0 10 3 rs (Done 0) (board_path_steps t.kind path rs) _ refl refl (λ tr. moved tr.chip)

  pub whole_late : (plan : Option Plan) (hz : ℕ) → late (tune_answer plan hz) ≡ true
  whole_late None hz = refl
  whole_late (Some p) hz = refl

  correction_steady : (b : Bool) (v : ℕ) (ppm : ℤ) (d : Driver) → v < 4_294_967_296 → (b ≡ true → 1 ≤ v)
      → Steady Fielded t (tuner_part (cond b (Still (both (with_corrected t v) (with_ppm d ppm)) (Done 0)) (Still (both t d) (Refused CORRECTION))))
  correction_steady true v ppm d l r =
      resting (with_corrected t v) (Done 0) refl (λ e. absurd (true≢false e))
      (record { nominal = f.nominal; known = f.known; corrected = l; right = r refl; gain = f.gain; ifreq = f.ifreq })
  correction_steady false v ppm d l r = resting t (Refused CORRECTION) refl (λ e. refl) f

  if_small : (rate : ℕ) → if_for t.ifreq rate < 18_446_744_073_709_551_616
  if_small rate = go (eqb t.ifreq 0) (leb 2_500_000 rate) (leb 1_000_000 rate)
    where
      go : (a b c : Bool) → cond a 0 (cond b 3_570_000 (cond c 2_300_000 0)) < 18_446_744_073_709_551_616
      go true b c = omega arith
      go false true c = omega arith
      go false false true = omega arith
      go false false false = omega arith

  -- one line for each row
  pub steady : (o : Order) → typed_order o ≡ true → Steady Fielded t (row_of o t)
  steady (Tuned Initialize) h = stepping 0 19 0 [] (Done 0) _ _ refl refl (λ tr. moved tr.chip)
  steady (Tuned Reload) h = stepping 0 9 0 [] (Done 0) _ _ refl refl (λ tr. moved tr.chip)
  steady (Tuned (Bandwidth hz)) h = bracket_steady 1 (bandwidth_updates hz) (Done 0) t t refl f f
  steady (Tuned (IfFreq hz)) h =
      let g : Fielded (with_if t hz) = ifed hz t.chip (ltb-true hz 18_446_744_073_709_551_616 h) in
      bracket_steady 2 (if_updates hz) (Done 0) (with_if t hz) (with_if t hz) refl g g
  steady (Tuned (Gain db)) h = gain_steady (chosen_of db)
  steady (Tuned (GainIndex k)) h = gain_steady (clamped k)
  steady (Tuned (InputPath path)) h = path_steady (path_of path) t.kind
  steady (Tuned (Tune hz rs)) h = stepping _ 53 35 rs (tune_answer (plan_for t hz) hz) _ (lock_kept t) (whole_late (plan_for t hz) hz) refl (λ tr. locked _ t.notch tr.chip)
  steady (Tuned (Notch on)) h = resting (with_notch t on) (Done 0) refl (λ e. absurd (true≢false e)) (locked t.lock on t.chip)
  steady (Tuned GainTold) h = resting t _ refl (λ e. refl) f
  steady (Tuned IfTold) h = resting t _ refl (λ e. refl) f
  steady (Tuned TableTold) h = resting t (Done 0) refl (λ e. refl) f
  steady (SampleRate rate table d) h = stepping _ 17 0 [] (Done 0) _ (λ tr. retuned t (if_for t.ifreq rate) tr.chip) refl refl (λ tr. ifed (if_for t.ifreq rate) tr.chip (if_small rate))
  steady (Correction ppm d) h =
      correction_steady (leb 1 (xtal_by t.nominal ppm) && leb 1 (xtal_by d.nominal ppm)) (xtal_by t.nominal ppm) ppm d (xtal_small t.nominal ppm)
      (λ e. leb-true 1 (xtal_by t.nominal ppm) (and_left (leb 1 (xtal_by t.nominal ppm)) (leb 1 (xtal_by d.nominal ppm)) e))
  steady (BoardPath path rs) h = board_steady (path_of path) rs
  steady (BoardTune hz table rs d) h =
      stepping _ 64 38 rs (tune_answer (plan_for t (plan_by table hz).plan.hz) hz) _ (lock_kept (with_notch t (plan_by table hz).plan.notch))
      (whole_late (plan_for t (plan_by table hz).plan.hz) hz)
      (hop_starts t.kind (plan_by table hz).plan.path rs _) (λ tr. locked _ (plan_by table hz).plan.notch tr.chip)

-- numbers of their types are numbers that crate sequences takes
no_replies : every is_byte [] ≡ true
unfolding every
no_replies = refl

board_given : (p : Option Path) (rs : List ℕ) (t : Tuner) → every is_byte rs ≡ true → every is_byte (replies_of (board_row p rs t)) ≡ true
board_given None rs t h = no_replies
board_given (Some path) rs t h = h

path_given : (p : Option Path) (kind : Kind) (t : Tuner) → every is_byte (replies_of (path_row p kind t)) ≡ true
unfolding bracket
path_given None kind t = no_replies
path_given (Some path) R820T t = no_replies
path_given (Some path) R828D t = no_replies

correction_given : (b : Bool) (u v : Both) (x y : Answer) → every is_byte (replies_of (tuner_part (cond b (Still u x) (Still v y)))) ≡ true
correction_given true u v x y = no_replies
correction_given false u v x y = no_replies

pub typed_given : (o : Order) (t : Tuner) → typed_order o ≡ true → given o t ≡ true
unfolding bracket gain_row
typed_given (Tuned Initialize) t h = no_replies
typed_given (Tuned Reload) t h = no_replies
typed_given (Tuned (Bandwidth hz)) t h = no_replies
typed_given (Tuned (IfFreq hz)) t h = no_replies
typed_given (Tuned (Gain db)) t h = no_replies
typed_given (Tuned (GainIndex k)) t h = no_replies
typed_given (Tuned (InputPath path)) t h = path_given (path_of path) t.kind t
typed_given (Tuned (Tune hz rs)) t h = h
typed_given (Tuned (Notch on)) t h = no_replies
typed_given (Tuned GainTold) t h = no_replies
typed_given (Tuned IfTold) t h = no_replies
typed_given (Tuned TableTold) t h = no_replies
typed_given (SampleRate rate table d) t h = no_replies
typed_given (Correction ppm d) t h = correction_given (leb 1 (xtal_by t.nominal ppm) && leb 1 (xtal_by d.nominal ppm)) _ _ _ _
typed_given (BoardPath path rs) t h = board_given (path_of path) rs t h
typed_given (BoardTune hz table rs d) t h = h

-- what a call leaves, by its row
pub settled : (o : Order) (os room : List ℕ) (t : Tuner) → Fielded t → typed_order o ≡ true → Settled Fielded t (result_of o os room t)
settled o os room t f h = subst (Settled Fielded t) (sym (result_row t os room o)) (row_settled Fielded t f t.chip (sound_for o t) os room (row_of o t) (steady t f o h))

module _ (test : ℕ → Bool) (bare : Bare test) where
  pub number_told : (o : Order) (os room : List ℕ) (t : Tuner) → Fielded t → typed_order o ≡ true → sound_for o t ≡ true → eqb (argument_of (row_of o t)) 0 ≡ true
      → test (number_of (result_of o os room t).answer) ≡ (stops (result_of o os room t).answer && test STEP)
  number_told o os room t f h s a =
      let same : left_by true (row_of o t) os t.chip t room ≡ result_of o os room t =
      ap (λ (b : Bool). left_by b (row_of o t) os t.chip t room) (sym s) ∙ sym (result_row t os room o) in
      subst (λ (x : Called Tuner). test (number_of x.answer) ≡ (stops x.answer && test STEP)) same (row_number test bare t os room (row_of o t) (steady t f o h) a)

  -- ---- the number of an argument's refusal: 1 for a number that names no path, and for nothing else; never 11

  path_test : (path : ℕ) (kind : Kind) (t : Tuner) → test (argument_of (path_row (path_of path) kind t)) ≡ (ltb 2 path && test SETUP)
  unfolding bracket
  path_test zero R820T t = bare.none
  path_test zero R828D t = bare.none
  path_test (suc zero) R820T t = bare.none
  path_test (suc zero) R828D t = bare.none
  path_test (suc (suc zero)) R820T t = bare.none
  path_test (suc (suc zero)) R828D t = bare.none
  path_test (suc (suc (suc n))) kind t = ap (λ (b : Bool). b && test SETUP) (sym (lt-ltb 2 (suc (suc (suc n))) (omega arith)))

  board_test : (path : ℕ) (rs : List ℕ) (t : Tuner) → test (argument_of (board_row (path_of path) rs t)) ≡ (ltb 2 path && test SETUP)
  board_test zero rs t = bare.none
  board_test (suc zero) rs t = bare.none
  board_test (suc (suc zero)) rs t = bare.none
  board_test (suc (suc (suc n))) rs t = ap (λ (b : Bool). b && test SETUP) (sym (lt-ltb 2 (suc (suc (suc n))) (omega arith)))

  hz_test : (b : Bool) → test (cond b 2 0) ≡ false
  hz_test true = bare.frequency
  hz_test false = bare.none

  pub rate_test : (rate xtal : ℕ) → test (rate_number rate xtal) ≡ false
  unfolding rate_number
  rate_test rate xtal = go (eqb rate 0) (eqb xtal 0) (ratio_holds (ratio_of rate xtal))
    where
      go : (a b c : Bool) → test (cond a RATE (cond b CORRECTION (cond c 0 RATIO))) ≡ false
      go true b c = bare.rate
      go false true c = bare.correction
      go false false true = bare.none
      go false false false = bare.ratio

  argument_test : (b : Bool) (n : ℕ) → test n ≡ false → test (cond b TABLE n) ≡ false
  argument_test true n h = bare.table
  argument_test false n h = h

  pub still_test : (b : Bool) (u v : Both) → test (argument_of (tuner_part (cond b (Still u (Done 0)) (Still v (Refused CORRECTION))))) ≡ false
  still_test true u v = bare.none
  still_test false u v = bare.correction

  landed_test : (b : Band) (z : ℤ) → test (landed b z).refusal ≡ false
  landed_test b (pos hz) = go (ltb hz 18_446_744_073_709_551_616)
    where
      go : (c : Bool) → test (cond c (tuned b hz) (refused FREQUENCY)).refusal ≡ false
      go true = bare.none
      go false = bare.frequency
  landed_test b (negsuc n) = bare.frequency

  plan_test : (bs : List Band) (hz : ℕ) → test (plan_in bs hz).refusal ≡ false
  unfolding plan_in plan_at
  plan_test [] hz = bare.frequency
  plan_test (b ∷ bs) hz = go (within b hz) (landed_test b (pos hz +ℤ to_z w64 b.shift)) (plan_test bs hz)
    where
      go : (c : Bool) → test (plan_at b hz).refusal ≡ false → test (plan_in bs hz).refusal ≡ false → test (cond c (plan_at b hz) (plan_in bs hz)).refusal ≡ false
      go true p q = p
      go false p q = q

  table_test : (table : List ℕ) (hz : ℕ) → test (plan_by table hz).refusal ≡ false
  unfolding plan_by
  table_test table hz = go (table_ok table) (plan_test (bands_of table) hz)
    where
      go : (c : Bool) → test (plan_in (bands_of table) hz).refusal ≡ false → test (cond c (plan_in (bands_of table) hz) (refused TABLE)).refusal ≡ false
      go true p = p
      go false p = bare.table

  hop_test : (refusal : ℕ) (b : Bool) → test refusal ≡ false → (c : Bool) → test (cond c (cond b FREQUENCY 0) refusal) ≡ false
  hop_test refusal b h true = hz_test b
  hop_test refusal b h false = h

  pub argument_told : (o : Order) (t : Tuner) → test (argument_of (row_of o t)) ≡ (pathless o && test SETUP)
  unfolding bracket gain_row
  argument_told (Tuned Initialize) t = bare.none
  argument_told (Tuned Reload) t = bare.none
  argument_told (Tuned (Bandwidth hz)) t = bare.none
  argument_told (Tuned (IfFreq hz)) t = bare.none
  argument_told (Tuned (Gain db)) t = bare.none
  argument_told (Tuned (GainIndex k)) t = bare.none
  argument_told (Tuned (InputPath path)) t = path_test path t.kind t
  argument_told (Tuned (Tune hz rs)) t = hz_test (eqb hz 0 || leb (2 ^ 64) (hz + t.ifreq))
  argument_told (Tuned (Notch on)) t = bare.none
  argument_told (Tuned GainTold) t = bare.none
  argument_told (Tuned IfTold) t = bare.none
  argument_told (Tuned TableTold) t = bare.none
  argument_told (SampleRate rate table d) t =
      argument_test (eqb (plan_by table d.frequency).refusal TABLE) (rate_number rate (xtal_of d)) (rate_test rate (xtal_of d))
  argument_told (Correction ppm d) t = still_test (leb 1 (xtal_by t.nominal ppm) && leb 1 (xtal_by d.nominal ppm)) _ _
  argument_told (BoardPath path rs) t = board_test path rs t
  argument_told (BoardTune hz table rs d) t =
      hop_test (plan_by table hz).refusal (eqb (plan_by table hz).plan.hz 0 || leb (2 ^ 64) ((plan_by table hz).plan.hz + t.ifreq)) (table_test table hz) (eqb (plan_by table hz).refusal 0)
