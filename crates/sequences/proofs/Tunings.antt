-- A tuning that is answered done, by itself or on a board, over any sequence of calls: on every chip the PLL's registers say its plan, with the divider one
-- off where it was repaired. Assumes nothing.
use Prim.Native.Nat.{ℕ, ◌+◌, ◌/◌, ◌%◌, ◌≤◌, ◌<◌}
use mathlib.Core.Path.{◌≡◌, refl, sym, ap, subst, ◌∙◌}
use mathlib.Core.Bool.{Bool, true, false, cond, ◌&&◌, false≢true}
use mathlib.Core.List.{List, [], ◌++◌}
use native.Mathlib.Omega.{arith}
use borrow.Author.Tests.{eqb-false}
use lib.Dec.{eqb}
use lib.ListN.{drop, get_or, length}
use Rattle.std.specs.Prelude.{Option, Some, None}
use Rattle.transcript.specs.declared.Entry.{Entry}
use Rattle.attempts.specs.Attempts.{Played, Regs}
use Rattle.bands.specs.declared.Planned.{Planned}
use Rattle.bands.specs.Tables.{plan_by}
use Rattle.board.specs.declared.Path.{Path}
use Rattle.board.specs.declared.Path.TheVariants.{Hf, Vhf, Uhf}
use Rattle.boards.specs.Hops.{hop_kept, hop_refusal, hop_result, hop_steps, path_part, path_replies}
use Rattle.refusals.specs.declared.Answer.TheVariants.{Done, Refused}
use Rattle.chip.specs.declared.Chip.{Chip}
use Rattle.chip.specs.declared.Progress.{Progress}
use Rattle.chip.specs.declared.Progress.TheVariants.{Going, Refused11}
use Rattle.refusals.specs.Answers.{number_of}
use Rattle.refusals.specs.Table.{FREQUENCY}
use Rattle.chip.specs.Calls.{Called, answer_of, call_of, called, performed, refusal_with}
use Rattle.chip.specs.Courses.{left_by}
use Rattle.chip.specs.Steps.{Step, Trace, acts, every, in_list, line, ok_for, run, taken, trace}
use Rattle.chip.specs.Steps.Step.{Open, Close, Send, Mask, Plain}
use Rattle.chip.proofs.Laws.{and_left, run_address, run_app}
use Rattle.demod.specs.Programs.{ddc_steps}
use Rattle.device.specs.Accesses.{access_step}
use Rattle.device.specs.Gpio.{bit_steps, output_steps}
use Rattle.driver.specs.declared.Driver.{Driver}
use Rattle.driver.specs.Calls.{Both, both}
use Rattle.driver.specs.Record.{sound_driver}
use Rattle.history.specs.Histories.{Tracks}
pub use Rattle.history.specs.Histories.{is_done}
pub use Rattle.history.proofs.Calls.{Went, went}
use Rattle.history.proofs.Demand.{follows}
use Rattle.history.proofs.Runs.{going_before, run_keeps}
use Rattle.oscillator.specs.Registers.{off}
use Rattle.oscillator.proofs.Oscillator.{Says}
use Rattle.pll.specs.declared.Kind.{Kind}
use Rattle.pll.specs.declared.Kind.TheVariants.{R820T, R828D}
use Rattle.pll.specs.declared.Plan.{Plan}
use Rattle.std.specs.Prelude.{Option, Some, None}
use Rattle.pll.proofs.Plans.{Known, known}
use Rattle.r82xx.specs.declared.Tuner.{Tuner}
use Rattle.r82xx.specs.Calls.{hz_refusal, plan_for, refusal_of}
use Rattle.r82xx.specs.Orders.{lock_kept, result_of, tune_of}
use Rattle.r82xx.specs.Orders.Order.{Tune}
use Rattle.r82xx.specs.Record.{sound, sound_by}
use Rattle.station.specs.Station.{unsure}
use Rattle.tuning.specs.Program.{tune_answer, tune_steps}
use Rattle.writes.specs.Lists.{init_array}
use Rattle.sequences.specs.Calls.{Call, tuner_after, call, entries, given, result}
use Rattle.sequences.specs.Calls.Order.{BoardTune, Tuned}
use Rattle.sequences.specs.Sequences.{Sequence}
use Rattle.sequences.specs.Sequences.Sequence.{next}
use Rattle.sequences.proofs.Demand.{sequence_history, sure_holds}
use Rattle.sequences.proofs.Most.{by_plan, tune_by_plan}
use Rattle.sequences.proofs.Stands.{Long, control_there, divider_there, high_there, long_run, low_there, plainly, repaired, whole_there}

-- ---- a call that is answered done

-- one that is not refused was given records in their ranges
pub accepted : (b : Bool) (argument n m room os rs : ℕ) → eqb (refusal_with b argument n m room os rs) 0 ≡ true → b ≡ true
accepted true argument n m room os rs h = refl
accepted false argument n m room os rs h = absurd (false≢true h)

-- told as the number 0 it is done
number_done : {R : Type 0} (number : ℕ) (x : Option Plan) (hz : ℕ) (os : List ℕ) (ss : List Step) (c : Chip) (keep : Trace → R) (old : R) (room : List ℕ)
    → number_of (call_of number (tune_answer x hz) os ss c keep old room).answer ≡ 0
    → is_done (call_of number (tune_answer x hz) os ss c keep old room).answer ≡ true
unfolding call_of
number_done number x hz os ss c keep old room = go (eqb number 0) refl
  where
    by : (y : Option Plan) (w : Progress) → number_of (answer_of (tune_answer y hz) w) ≡ 0 → is_done (answer_of (tune_answer y hz) w) ≡ true
    by None Going e = absurd (omega arith)
    by (Some p) Going e = refl
    by y (Refused11 k) e = absurd (omega arith)

    go : (b : Bool) → eqb number 0 ≡ b
        → number_of (cond b (performed (tune_answer x hz) keep room (trace os ss c)) (called old room 0 (Refused number))).answer ≡ 0
        → is_done (cond b (performed (tune_answer x hz) keep room (trace os ss c)) (called old room 0 (Refused number))).answer ≡ true
    go true e h = by x (trace os ss c).progress h
    go false e h = absurd (eqb-false number 0 e h)

-- ---- the record that it leaves

-- the PLL's five registers, none in doubt
record Leaves (p : Plan) (number : ℕ) (c : Chip) : Type 0 where
  pub divided : (get_or c.shadow 11 0 / 32 ≡ number) × (get_or c.doubtful 11 true ≡ false)
  pub control : (off (get_or c.shadow 13 0) ≡ true → p.fraction ≡ 0) × (get_or c.doubtful 13 true ≡ false)
  pub whole : (get_or c.shadow 15 0 ≡ p.setting) × (get_or c.doubtful 15 true ≡ false)
  pub low : (get_or c.shadow 16 0 ≡ p.sum % 256) × (get_or c.doubtful 16 true ≡ false)
  pub high : (get_or c.shadow 17 0 ≡ p.sum / 256) × (get_or c.doubtful 17 true ≡ false)

-- the record u after it: in its ranges, of the same chip and reference as t, and sure of the five
pub record Kept (t u : Tuner) : Type 0 where
  pub ranges : sound u ≡ true
  pub address : u.chip.address ≡ t.chip.address
  pub corrected : u.corrected ≡ t.corrected
  pub sure : unsure u.chip ≡ false

leaves_sure : (p : Plan) (number : ℕ) (c : Chip) → Leaves p number c → unsure c ≡ false
leaves_sure p number c w = rw (w.divided.1, w.control.1, w.whole.1, w.low.1, w.high.1)

kept_so : (t u : Tuner) (c : Chip) → sound t ≡ true → u.nominal ≡ t.nominal → u.corrected ≡ t.corrected → u.chip ≡ c → c.address ≡ t.chip.address
    → unsure c ≡ false → Kept t u
kept_so t u c a n r h there w =
    record {
      ranges = (λ i. sound_by (n i) (r i)) ∙ a;
      address = ap (λ (x : Chip). x.address) h ∙ there;
      corrected = r;
      sure = ap unsure h ∙ w;
    }

-- a tuning's program that went through, from wherever it began
tune_leaves : (os : List ℕ) (address : ℕ) (kind : Kind) (notch : Bool) (p : Plan) (hz : ℕ) (rs : List ℕ) (u : Trace) → Long os u
    → (run in_list os (tune_steps address kind notch (Some p) hz rs) u).progress ≡ Going
    → p.number ≤ 5 → p.setting < 256 → p.sum < 65_536
    → Leaves p (repaired address kind notch p hz rs) (run in_list os (tune_steps address kind notch (Some p) hz rs) u).chip
tune_leaves os address kind notch p hz rs u long going n s f =
    record {
      divided = divider_there os address kind notch p hz rs u long going n;
      control = control_there os address kind notch p hz rs u long going;
      whole = whole_there os address kind notch p hz rs u long going s;
      low = low_there os address kind notch p hz rs u long going;
      high = high_there os address kind notch p hz rs u long going f;
    }

module _ (t : Tuner) (es : List Entry) (s : Sequence t es) where
  -- before a call both lists have their 27 elements
  long_there : (os : List ℕ) → Long os (line t.chip [] 0 Going false)
  long_there os =
      let follow : Tracks init_array t.chip es = follows init_array t.chip es (sequence_history t es s) in
      (follow.bytes, follow.marks)

  -- on a chip on which the entries were played, registers that are in no doubt hold what the record says
  says : (k : Call) → given k.order t ≡ true → (tr : Trace) → (tuner_after k t).chip ≡ tr.chip → tr.chip.address ≡ t.chip.address
      → (p : Plan) (number : ℕ) → Leaves p number tr.chip
      → (before now : Regs) → Played t.chip.address (es ++ entries k t) before now → Says p number now
  says k g tr same address p number w before now played =
      let there : (tuner_after k t).chip.address ≡ t.chip.address = ap (λ (c : Chip). c.address) same ∙ address in
      let mine : Played (tuner_after k t).chip.address (es ++ entries k t) before now =
      subst (λ (a : ℕ). Played a (es ++ entries k t) before now) (sym there) played in
      let holds : (i : ℕ) → i < 27 → get_or tr.chip.doubtful i true ≡ false → now (5 + i) ≡ get_or tr.chip.shadow i 0 = (λ i l q.
      sure_holds (tuner_after k t) (es ++ entries k t) (next t es s k g) before now mine i l (ap (λ (c : Chip). get_or c.doubtful i true) same ∙ q)
      ∙ ap (λ (c : Chip). get_or c.shadow i 0) same) in
      record {
        divided = ap (λ (x : ℕ). x / 32) (holds 11 (omega arith) w.divided.1) ∙ w.divided.0;
        control = (λ h. w.control.0 (sym (ap off (holds 13 (omega arith) w.control.1)) ∙ h));
        whole = holds 15 (omega arith) w.whole.1 ∙ w.whole.0;
        low = holds 16 (omega arith) w.low.1 ∙ w.low.0;
        high = holds 17 (omega arith) w.high.1 ∙ w.high.0;
      }

-- ---- the tuner's own

module _ (t : Tuner) (es : List Entry) (s : Sequence t es) (hz : ℕ) (rs os room : List ℕ) (g : given (Tuned (Tune hz rs)) t ≡ true) where
  abbrev tune : Call
  tune = call (Tuned (Tune hz rs)) os room

  -- answered done, a tuning has a plan, and on every chip the registers say it
  pub tuned_stands : is_done (result tune t).answer ≡ true → (before now : Regs) → Played t.chip.address (es ++ entries tune t) before now
      → (p : Plan) × (plan_for t hz ≡ Some p) × Says p (repaired t.chip.address t.kind t.notch p hz rs) now × Kept t (tuner_after tune t)
  unfolding trace
  tuned_stands h before now played = by (plan_for t hz) refl
    where
      start : Trace
      start = line t.chip [] 0 Going false

      number : ℕ
      number = refusal_of t (hz_refusal hz t.ifreq) 53 35 (length room) (length os) (length rs)

      by : (x : Option Plan) → plan_for t hz ≡ x
          → (p : Plan) × (plan_for t hz ≡ Some p) × Says p (repaired t.chip.address t.kind t.notch p hz rs) now × Kept t (tuner_after tune t)
      by None e =
          let is : result tune t ≡ by_plan t hz os rs room None = tune_by_plan t hz os rs room ∙ ap (by_plan t hz os rs room) e in
          let w =
          went number (Refused FREQUENCY) os (tune_of t None hz rs) t.chip (lock_kept t) t room (ap (λ (d : Called Tuner). is_done d.answer) (sym is) ∙ h) in
          absurd (false≢true w.0)
      by (Some p) e =
          let is : result tune t ≡ by_plan t hz os rs room (Some p) = tune_by_plan t hz os rs room ∙ ap (by_plan t hz os rs room) e in
          let ss : List Step = tune_of t (Some p) hz rs in
          let w = went number (Done hz) os ss t.chip (lock_kept t) t room (ap (λ (d : Called Tuner). is_done d.answer) (sym is) ∙ h) in
          let same : (tuner_after tune t).chip ≡ (run in_list os ss start).chip =
          ap (λ (d : Called Tuner). d.next.chip) is ∙ ap (λ (u : Tuner). u.chip) w.1.left in
          let kn : Known t.kind (hz + t.ifreq) t.corrected p = known t.kind (hz + t.ifreq) t.corrected p e in
          let leaves =
          tune_leaves os t.chip.address t.kind t.notch p hz rs start (long_there t es s os) w.1.going kn.number kn.setting kn.sum in
          let nominal : (tuner_after tune t).nominal ≡ t.nominal =
          ap (λ (d : Called Tuner). d.next.nominal) is ∙ ap (λ (u : Tuner). u.nominal) w.1.left in
          let corrected : (tuner_after tune t).corrected ≡ t.corrected = ap (λ (d : Called Tuner). d.next.corrected) is ∙ ap (λ (u : Tuner). u.corrected) w.1.left in (
            p,
            e,
            says t es s tune g (run in_list os ss start) same (run_address in_list os ss start) p _ leaves before now played,
            kept_so t (tuner_after tune t) (run in_list os ss start).chip (accepted (sound t) (hz_refusal hz t.ifreq) 53 35 (length room) (length os) (length rs) w.1.taken_up) nominal corrected same (run_address in_list os ss start)
                (leaves_sure p _ _ leaves),
          )

pub tune_done : (t : Tuner) (hz : ℕ) (rs os room : List ℕ) → number_of (result (call (Tuned (Tune hz rs)) os room) t).answer ≡ 0
    → is_done (result (call (Tuned (Tune hz rs)) os room) t).answer ≡ true
unfolding result_of left_by
tune_done t hz rs os room h = number_done _ (plan_for t hz) hz os _ t.chip (lock_kept t) t room h

-- ---- the board's

-- what stands before it stores single bytes alone
path_plain : (os : List ℕ) (kind : Kind) (route : Option Path) (rs : List ℕ) → every (plainly os) (path_part kind route rs) ≡ true
unfolding every output_steps bit_steps access_step
path_plain os R820T route rs = refl
path_plain os R828D None rs = refl
path_plain os R828D (Some Hf) rs = refl
path_plain os R828D (Some Vhf) rs = refl
path_plain os R828D (Some Uhf) rs = refl

-- and what stands after it stores none
abbrev quiet : Step → Bool
quiet Open = true
quiet Close = true
quiet (Send n bytes) = false
quiet (Mask r v m) = false
quiet (Plain e) = true

quiet_run : (os : List ℕ) (ss : List Step) (u : Trace) → every quiet ss ≡ true → (run in_list os ss u).chip ≡ u.chip
quiet_run os ss u g = run_keeps os (λ (w : Trace). w.chip ≡ u.chip) quiet keeps ss u g refl
  where
    keeps : (s : Step) (w : Trace) → quiet s ≡ true → acts s w.progress w.opened ≡ true → w.chip ≡ u.chip
        → (taken in_list os (ok_for os w.count s) s w).chip ≡ u.chip
    keeps Open w q e p = p
    keeps Close w q e p = p
    keeps (Send n bytes) w q e p = absurd (false≢true q)
    keeps (Mask r v m) w q e p = absurd (false≢true q)
    keeps (Plain x) w q e p = p

ddc_quiet : (inverted : Bool) → every quiet (ddc_steps inverted) ≡ true
unfolding every ddc_steps
ddc_quiet inverted = refl

-- a board-level tune by its plan
module _ (t : Tuner) (hz : ℕ) (table rs : List ℕ) (d : Driver) (os room : List ℕ) where
  abbrev pub by_hop : Option Plan → Called Both
  by_hop plan =
      call_of (refusal_with (sound t && sound_driver d) (hop_refusal (plan_by table hz) t.ifreq) 64 38 (length room) (length os) (length rs)) (tune_answer plan hz) os
      (hop_steps t.kind t.chip.address (plan_by table hz).plan plan rs) t.chip (hop_kept t d (plan_by table hz).plan (tune_answer plan hz) hz) (both t d) room

  pub hop_by_plan : hop_result (plan_by table hz) hz rs os t d room ≡ by_hop (plan_for t (plan_by table hz).plan.hz)
  unfolding hop_result left_by
  hop_by_plan = refl

module _ (t : Tuner) (es : List Entry) (s : Sequence t es) (hz : ℕ) (table rs : List ℕ) (d : Driver) (os room : List ℕ) (g : given (BoardTune hz table rs d) t ≡ true) where
  abbrev hop : Call
  hop = call (BoardTune hz table rs d) os room

  -- the table's plan, and the replies that are left for the tuning
  abbrev at : Planned
  at = plan_by table hz

  abbrev left : List ℕ
  left = drop (path_replies t.kind at.plan.path) rs

  -- answered done, a board-level tune has a plan of the frequency that the table planned, and on every chip the registers say it
  pub hopped_stands : is_done (result hop t).answer ≡ true → (before now : Regs) → Played t.chip.address (es ++ entries hop t) before now
      → (p : Plan) × (plan_for t at.plan.hz ≡ Some p)
      × Says p (repaired t.chip.address t.kind at.plan.notch p at.plan.hz left) now × Kept t (tuner_after hop t)
  unfolding trace
  hopped_stands h before now played = by (plan_for t at.plan.hz) refl
    where
      start : Trace
      start = line t.chip [] 0 Going false

      number : ℕ
      number = refusal_with (sound t && sound_driver d) (hop_refusal at t.ifreq) 64 38 (length room) (length os) (length rs)

      by : (x : Option Plan) → plan_for t at.plan.hz ≡ x
          → (p : Plan) × (plan_for t at.plan.hz ≡ Some p)
          × Says p (repaired t.chip.address t.kind at.plan.notch p at.plan.hz left) now × Kept t (tuner_after hop t)
      by None e =
          let is : hop_result at hz rs os t d room ≡ by_hop t hz table rs d os room None = hop_by_plan t hz table rs d os room ∙ ap (by_hop t hz table rs d os room) e in
          let w =
          went number (Refused FREQUENCY) os (hop_steps t.kind t.chip.address at.plan None rs) t.chip (hop_kept t d at.plan (Refused FREQUENCY) hz) (both t d) room
          (ap (λ (x : Called Both). is_done x.answer) (sym is) ∙ h) in
          absurd (false≢true w.0)
      by (Some p) e =
          let is : hop_result at hz rs os t d room ≡ by_hop t hz table rs d os room (Some p) = hop_by_plan t hz table rs d os room ∙ ap (by_hop t hz table rs d os room) e in
          let pre : List Step = path_part t.kind at.plan.path rs in
          let ss : List Step = tune_steps t.chip.address t.kind at.plan.notch (Some p) at.plan.hz left in
          let post : List Step = ddc_steps at.plan.inverted in
          let all : List Step = pre ++ (ss ++ post) in
          let w =
          went number (Done hz) os all t.chip (hop_kept t d at.plan (Done hz) hz) (both t d) room (ap (λ (x : Called Both). is_done x.answer) (sym is) ∙ h) in
          let u : Trace = run in_list os pre start in
          let v : Trace = run in_list os ss u in
          let app : run in_list os all start ≡ run in_list os post v = run_app in_list os pre (ss ++ post) start ∙ run_app in_list os ss post u in
          let going : v.progress ≡ Going = going_before os post v (ap (λ (z : Trace). z.progress) (sym app) ∙ w.1.going) in
          let end : (run in_list os all start).chip ≡ v.chip = ap (λ (z : Trace). z.chip) app ∙ quiet_run os post v (ddc_quiet at.plan.inverted) in
          let same : (tuner_after hop t).chip ≡ (run in_list os all start).chip =
          ap (λ (x : Called Both). x.next.tuner.chip) is ∙ ap (λ (b : Both). b.tuner.chip) w.1.left in
          let kn : Known t.kind (at.plan.hz + t.ifreq) t.corrected p = known t.kind (at.plan.hz + t.ifreq) t.corrected p e in
          let long : Long os u = long_run os pre start (path_plain os t.kind at.plan.path rs) (long_there t es s os) in
          let leaves = tune_leaves os t.chip.address t.kind at.plan.notch p at.plan.hz left u long going kn.number kn.setting kn.sum in
          let there = subst (Leaves p _) (sym end) leaves in
          let nominal : (tuner_after hop t).nominal ≡ t.nominal =
          ap (λ (x : Called Both). x.next.tuner.nominal) is ∙ ap (λ (b : Both). b.tuner.nominal) w.1.left in
          let corrected : (tuner_after hop t).corrected ≡ t.corrected =
          ap (λ (x : Called Both). x.next.tuner.corrected) is ∙ ap (λ (b : Both). b.tuner.corrected) w.1.left in
          let ranges : sound t ≡ true = and_left (sound t) (sound_driver d) (accepted (sound t && sound_driver d) (hop_refusal at t.ifreq) 64 38 (length room) (length os) (length rs) w.1.taken_up) in (
            p,
            e,
            says t es s hop g (run in_list os all start) same (run_address in_list os all start) p _ there before now played,
            kept_so t (tuner_after hop t) (run in_list os all start).chip ranges nominal corrected same (run_address in_list os all start) (leaves_sure p _ _ there),
          )

pub hop_done : (t : Tuner) (hz : ℕ) (table rs : List ℕ) (d : Driver) (os room : List ℕ)
    → number_of (result (call (BoardTune hz table rs d) os room) t).answer ≡ 0
    → is_done (result (call (BoardTune hz table rs d) os room) t).answer ≡ true
unfolding hop_result left_by
hop_done t hz table rs d os room h =
    number_done _ (plan_for t (plan_by table hz).plan.hz) hz os _ t.chip (hop_kept t d (plan_by table hz).plan _ hz) (both t d) room h
