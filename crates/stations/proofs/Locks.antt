-- After a tune or a board-level tune that is answered done, lock and tries of the entries are what it told (#101), whatever was sent before it.
-- Assumes nothing.
use Prim.Native.Nat.{ℕ}
use mathlib.Core.Path.{◌≡◌, refl, sym, ap, ◌∙◌}
use mathlib.Core.Bool.{Bool, true, false, ◌&&◌, false≢true}
use mathlib.Core.List.{List, [], ◌++◌}
use lib.ListN.{drop, length}
use Rattle.transcript.specs.declared.Entry.{Entry}
use Rattle.attempts.specs.Attempts.{names}
use Rattle.bands.specs.declared.Planned.{Planned}
use Rattle.bands.specs.Tables.{plan_by}
use Rattle.boards.specs.Hops.{hop_kept, hop_lock_tries, hop_refusal, hop_result, hop_steps, path_part, path_replies}
use Rattle.refusals.specs.declared.Answer.{Answer}
use Rattle.refusals.specs.declared.Answer.TheVariants.{Done, Refused, Stopped}
use Rattle.refusals.specs.Table.{FREQUENCY}
use Rattle.chip.specs.declared.Chip.{Chip}
use Rattle.chip.specs.declared.LockTries.{LockTries}
use Rattle.chip.specs.declared.Progress.TheVariants.{Going}
use Rattle.chip.specs.Calls.{Called, refusal_with}
use Rattle.chip.specs.Steps.{Step, line, trace}
use Rattle.demod.specs.Programs.{ddc_steps}
use Rattle.driver.specs.declared.Driver.{Driver}
use Rattle.driver.specs.Calls.{Both, both}
use Rattle.driver.specs.Record.{sound_driver}
use Rattle.std.specs.Prelude.{Option, Some, None}
use Rattle.pll.specs.declared.Plan.{Plan}
use Rattle.r82xx.specs.declared.Tuner.{Tuner}
use Rattle.r82xx.specs.Calls.{hz_refusal, plan_for, refusal_of}
use Rattle.r82xx.specs.Orders.{lock_kept, lock_tries_of, result_of, tune_of}
use Rattle.r82xx.specs.Orders.Order.{Tune}
use Rattle.r82xx.specs.Record.{sound}
use Rattle.tuning.specs.Program.{tune_steps}
use Rattle.sequences.specs.Calls.{call, entries, result}
use Rattle.sequences.specs.Calls.Order.{BoardTune, Tuned}
use Rattle.sequences.specs.Waited.{waited_from}
use Rattle.sequences.proofs.Most.{by_plan, tune_by_plan}
use Rattle.sequences.proofs.Tried.{board_told_when_done, told_when_done}
use Rattle.sequences.proofs.Tunings.{by_hop, hop_by_plan, is_done, went}
use Rattle.evidence.proofs.Heard.{Heard, heard, heard_append, heard_none, heard_from}
use Rattle.stations.specs.Locks.{LockTold}
use Rattle.stations.proofs.Waits.{at_tune, effects, effects_app, ended, run_heard}

-- a call answered done has a value
value_of : (a : Answer) → is_done a ≡ true → (value : ℕ) × (a ≡ Done value)
value_of (Done value) h = (value, refl)
value_of (Refused number) h = absurd (false≢true h)
value_of (Stopped index) h = absurd (false≢true h)

-- entries whose last part is a program that went through
module _ (address : ℕ) (os : List ℕ) (ss : List Step) (c : Chip) (there : c.address ≡ address) (going : (trace os ss c).progress ≡ Going) (es : List Entry) where
  heard_call : heard_from address (heard 0 0) (es ++ (trace os ss c).log) ≡ effects address ss (heard_from address (heard 0 0) es)
  unfolding trace
  heard_call =
      let h : Heard = heard_from address (heard 0 0) es in
      heard_append address (heard 0 0) es (trace os ss c).log
      ∙ run_heard address os h ss (line c [] 0 Going false) there going
      ∙ ap (effects address ss) (heard_none address h)

told_by_lem : (address : ℕ) (es : List Entry) (w told : LockTries) → heard_from address (heard 0 0) es ≡ ended w → told ≡ w → LockTold address told es
told_by_lem address es w told h e =
    record {
      mark = ap (λ (x : Heard). x.mark) (h ∙ ap ended (sym e));
      tries = ap (λ (x : Heard). x.count) (h ∙ ap ended (sym e));
    }

module _ (t : Tuner) (hz : ℕ) (rs os room : List ℕ) where
  -- the tuner's own
  pub lock_told : is_done (result (call (Tuned (Tune hz rs)) os room) t).answer ≡ true → (es : List Entry)
      → LockTold t.chip.address (lock_tries_of (Tune hz rs) os t room) (es ++ entries (call (Tuned (Tune hz rs)) os room) t)
  lock_told h es = by (plan_for t hz) refl
    where
      number : ℕ
      number = refusal_of t (hz_refusal hz t.ifreq) 53 35 (length room) (length os) (length rs)

      by : (x : Option Plan) → plan_for t hz ≡ x
          → LockTold t.chip.address (lock_tries_of (Tune hz rs) os t room) (es ++ entries (call (Tuned (Tune hz rs)) os room) t)
      by None e =
          let is = tune_by_plan t hz os rs room ∙ ap (by_plan t hz os rs room) e in
          absurd (false≢true (went number (Refused FREQUENCY) os (tune_of t None hz rs) t.chip (lock_kept t) t room (ap (λ (d : Called Tuner). is_done d.answer) (sym is) ∙ h)).0)
      by (Some p) e =
          let is = tune_by_plan t hz os rs room ∙ ap (by_plan t hz os rs room) e in
          let ss : List Step = tune_of t (Some p) hz rs in
          let w = (went number (Done hz) os ss t.chip (lock_kept t) t room (ap (λ (d : Called Tuner). is_done d.answer) (sym is) ∙ h)).1 in
          let log : entries (call (Tuned (Tune hz rs)) os room) t ≡ (trace os ss t.chip).log = rw (w.taken_up, e) in
          let told = value_of (result_of (Tune hz rs) os t room).answer h in
          told_by_lem t.chip.address (es ++ entries (call (Tuned (Tune hz rs)) os room) t) (waited_from rs 10 0) (lock_tries_of (Tune hz rs) os t room)
          (ap (λ (l : List Entry). heard_from t.chip.address (heard 0 0) (es ++ l)) log
          ∙ heard_call t.chip.address os ss t.chip refl w.going es
          ∙ at_tune t.chip.address rs t.kind t.notch p hz (heard_from t.chip.address (heard 0 0) es))
          (told_when_done hz told.0 rs os room t told.1)

module _ (t : Tuner) (hz : ℕ) (table rs : List ℕ) (d : Driver) (os room : List ℕ) where
  abbrev at : Planned
  at = plan_by table hz

  abbrev left : List ℕ
  left = drop (path_replies t.kind at.plan.path) rs

  abbrev number : ℕ
  number = refusal_with (sound t && sound_driver d) (hop_refusal at t.ifreq) 64 38 (length room) (length os) (length rs)

  -- the DDC byte after it is the demodulator's
  at_ddc : (inverted : Bool) (h : Heard) → effects t.chip.address (ddc_steps inverted) h ≡ h
  unfolding names ddc_steps
  at_ddc inverted h = refl

  -- the board's: its waiting takes the replies that the path left
  pub lock_told_board : is_done (result (call (BoardTune hz table rs d) os room) t).answer ≡ true → (es : List Entry)
      → LockTold t.chip.address (hop_lock_tries at hz rs os t d room) (es ++ entries (call (BoardTune hz table rs d) os room) t)
  lock_told_board h es = by (plan_for t at.plan.hz) refl
    where
      by : (x : Option Plan) → plan_for t at.plan.hz ≡ x
          → LockTold t.chip.address (hop_lock_tries at hz rs os t d room) (es ++ entries (call (BoardTune hz table rs d) os room) t)
      by None e =
          let is = hop_by_plan t hz table rs d os room ∙ ap (by_hop t hz table rs d os room) e in
          absurd (false≢true (went number (Refused FREQUENCY) os (hop_steps t.kind t.chip.address at.plan None rs) t.chip (hop_kept t d at.plan (Refused FREQUENCY) hz) (both t d) room
          (ap (λ (x : Called Both). is_done x.answer) (sym is) ∙ h)).0)
      by (Some p) e =
          let address : ℕ = t.chip.address in
          let is = hop_by_plan t hz table rs d os room ∙ ap (by_hop t hz table rs d os room) e in
          let pre : List Step = path_part t.kind at.plan.path rs in
          let ss : List Step = tune_steps address t.kind at.plan.notch (Some p) at.plan.hz left in
          let post : List Step = ddc_steps at.plan.inverted in
          let all : List Step = pre ++ (ss ++ post) in
          let w = (went number (Done hz) os all t.chip (hop_kept t d at.plan (Done hz) hz) (both t d) room (ap (λ (x : Called Both). is_done x.answer) (sym is) ∙ h)).1 in
          let log : entries (call (BoardTune hz table rs d) os room) t ≡ (trace os all t.chip).log = rw (w.taken_up, e) in
          let told = value_of (hop_result at hz rs os t d room).answer h in
          let x : Heard = heard_from address (heard 0 0) es in
          told_by_lem address (es ++ entries (call (BoardTune hz table rs d) os room) t) (waited_from left 10 0) (hop_lock_tries at hz rs os t d room)
          (ap (λ (l : List Entry). heard_from address (heard 0 0) (es ++ l)) log
          ∙ heard_call address os all t.chip refl w.going es
          ∙ effects_app address pre (ss ++ post) x
          ∙ effects_app address ss post (effects address pre x)
          ∙ at_ddc at.plan.inverted (effects address ss (effects address pre x))
          ∙ at_tune address left t.kind at.plan.notch p at.plan.hz (effects address pre x))
          (board_told_when_done hz told.0 table rs os room d t told.1)
