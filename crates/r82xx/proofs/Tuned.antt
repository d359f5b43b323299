-- A tuning's call over the code, and the calls that are told by cases: path, correction. Assumes nothing.
use Prim.Native.Nat.{ℕ, ◌≤◌, ◌<◌}
use mathlib.Core.Path.{◌≡◌, refl, sym, ap, ◌∙◌}
use mathlib.Core.Bool.{Bool, true, false, cond}
use mathlib.Core.List.{List, [], map}
use native.Mathlib.Omega.{arith}
use lib.Ieee.{Float, binary32, to_bits}
use lib.IntN.{ℤ, pos}
use lib.ListN.{length, replicate}
use Rattle.std.specs.Prelude.{Option, Some, None}
use Rattle.board.specs.declared.Path.{Path}
use Rattle.refusals.specs.declared.Answer.{Answer}
use Rattle.refusals.specs.declared.Answer.TheVariants.{Done, Refused}
use Rattle.refusals.specs.Table.{SETUP}
use Rattle.chip.specs.declared.Update.{Update}
use Rattle.chip.specs.declared.Flow.{Flow}
use Rattle.chip.specs.declared.LockTries.{LockTries}
use Rattle.chip.specs.declared.Progress.TheVariants.{Going}
use Rattle.chip.specs.Calls.{Called, answer_of, called, performed, lock_tries_in}
use Rattle.chip.specs.Entries.{no_tries}
use Rattle.chip.specs.InCode.{laid_out, sealed, Logged, in_room, logged, on_room}
use Rattle.chip.specs.Steps.{Line, Step, Trace, eight, every, line, run, trace}
use Rattle.chip.proofs.Taken.{handed, performs, seen_in, stands, tried, untried}
use Rattle.gain.specs.Steps.{chosen_of, clamped, steps}
use Rattle.gain.proofs.Steps.{chosen_lt}
use Rattle.pll.specs.declared.Kind.{Kind}
use Rattle.pll.specs.declared.Kind.TheVariants.{R820T, R828D}
use Rattle.std.specs.Prelude.{Option, Some, None}
use Rattle.pll.specs.declared.Plan.{Plan}
use Rattle.pll.specs.Plan.{plan_of}
use Rattle.pll.proofs.Plans.{known}
use Rattle.tuning.specs.Program.{inner_steps, divider_number, tune_answer}
use Rattle.tuning.specs.Tries.{lock_by}
use Rattle.tuning.proofs.Programs.{eight_inner}
use Rattle.writes.specs.Lists.{path_updates}
use Rattle.writes.proofs.Lists.{path_two}
use Rattle.r82xx.specs.declared.Tuner.{Tuner}
use Rattle.r82xx.specs.Record.{sound, with_chip, with_lock, with_notch}
use Rattle.chip.specs.Courses.{left_by}
use Rattle.r82xx.specs.InCode.{kept_notch, sound_answer}
use Rattle.r82xx.specs.Calls.{hz_refusal, plan_for, refusal_of}
use Rattle.r82xx.specs.Orders.{lock_kept, path_row, quietly, result_of, lock_tries_of, table_of, tune_of}
use Rattle.r82xx.specs.Orders.Order.{Tune, Notch, GainTold, IfTold, TableTold}
use Rattle.r82xx.proofs.Whole.{behind_eight, bracket_by, bracket_call, refuse_by, step_call}

-- a plan's divider number
pub number_small : (kind : Kind) (lo r : ℕ) → divider_number (plan_of kind lo r) ≤ 5
number_small kind lo r = go (plan_of kind lo r) refl
  where
    go : (p : Option Plan) → plan_of kind lo r ≡ p → divider_number p ≤ 5
    go (Some p) e = (known kind lo r p e).number
    go None e = omega arith

-- a tuning's steps by its plan: what is handed back, and what is told of the lock
pub tune_by : (os rs room : List ℕ) (hz : ℕ) (t : Tuner) (plan : Option Plan) (f : Flow) (mid after : List ℕ) (answer whole : Answer) (lock : Bool)
    → on_room f mid ≡ run in_room os (tune_of t plan hz rs) (line t.chip (logged room no_tries) 0 Going false)
    → whole ≡ tune_answer plan hz → after ≡ sealed mid f.log.count → answer ≡ answer_of whole f.log.progress
    → lock ≡ lock_by f.log.lock t.lock → f.log.count ≤ 53
    → (called (with_lock (with_chip t f.chip) lock) after f.log.count answer
    ≡ performed (tune_answer plan hz) (lock_kept t) room (trace os (tune_of t plan hz rs) t.chip))
    × (f.log.lock ≡ lock_tries_in (trace os (tune_of t plan hz rs) t.chip).log)
tune_by os rs room hz t plan f mid after answer whole lock k w q a l few =
    let ss : List Step = tune_of t plan hz rs in
    let tr : Trace = trace os ss t.chip in
    let eights : every eight ss ≡ true =
    behind_eight (inner_steps t.chip.address t.kind t.notch plan hz rs)
    (eight_inner t.chip.address t.kind t.notch plan hz rs) in
    let all : on_room f mid ≡ laid_out room tr = stands os room ss t.chip f mid eights k in
    let count : f.log.count ≡ length tr.log = ap (λ (x : Line Logged). x.count) all in
    let seen : f.log.lock ≡ lock_tries_in tr.log = ap (λ (x : Line Logged). x.log.lock) all ∙ seen_in tr.log (omega arith) in
    let chip : f.chip ≡ tr.chip = ap (λ (x : Line Logged). x.chip) all in
    let same : with_lock (with_chip t f.chip) lock ≡ lock_kept t tr = λ i. with_lock (with_chip t (chip i)) ((l ∙ ap (λ (s : LockTries). lock_by s t.lock) seen) i) in (
      handed os room ss t.chip (lock_kept t) (tune_answer plan hz) (with_lock (with_chip t f.chip) lock) f mid after answer eights k q
          (a ∙ ap (λ (x : Answer). answer_of x f.log.progress) w) same,
      seen,
    )

-- a tuning refused before any step, and one that is taken
pub tune_refused : (os rs room : List ℕ) (hz given : ℕ) (t : Tuner)
    → given ≡ refusal_of t (hz_refusal hz t.ifreq) 53 35 (length room) (length os) (length rs) → (given ≡ 0 → ⊥)
    → (called t room 0 (Refused given) ≡ result_of (Tune hz rs) os t room) × (no_tries ≡ lock_tries_of (Tune hz rs) os t room)
unfolding result_of left_by lock_tries_of
tune_refused os rs room hz given t e h =
    (refuse_by _ given _ os _ t.chip _ t room e h, untried _ os _ t.chip (λ z. h (e ∙ z)))

pub tune_taken : (os rs room : List ℕ) (hz given : ℕ) (t : Tuner) (plan : Option Plan) (x : Called Tuner) (s : LockTries)
    → given ≡ refusal_of t (hz_refusal hz t.ifreq) 53 35 (length room) (length os) (length rs) → given ≡ 0 → plan ≡ plan_for t hz
    → (x ≡ performed (tune_answer plan hz) (lock_kept t) room (trace os (tune_of t plan hz rs) t.chip)) × (s ≡ lock_tries_in (trace os (tune_of t plan hz rs) t.chip).log)
    → (x ≡ result_of (Tune hz rs) os t room) × (s ≡ lock_tries_of (Tune hz rs) os t room)
unfolding result_of left_by lock_tries_of
tune_taken os rs room hz given t plan x s e z p h =
    let zero : refusal_of t (hz_refusal hz t.ifreq) 53 35 (length room) (length os) (length rs) ≡ 0 = sym e ∙ z in (
      h.0 ∙ ap (λ (q : Option Plan). performed (tune_answer q hz) (lock_kept t) room (trace os (tune_of t q hz rs) t.chip)) p ∙ performs _ _ os _ t.chip _ t room zero,
      h.1 ∙ ap (λ (q : Option Plan). lock_tries_in (trace os (tune_of t q hz rs) t.chip).log) p ∙ tried _ os _ t.chip zero,
    )

-- the input path's three ways
abbrev path_left : Option Path → Kind → List ℕ → Tuner → List ℕ → Called Tuner
path_left p kind os t room = left_by (sound t) (path_row p kind t) os t.chip t room

-- a refusal by 1 is the same whether or not the record is in its ranges
pub either_one : (b : Bool) (t : Tuner) (room : List ℕ) → called t room 0 (Refused SETUP) ≡ cond b (called t room 0 (Refused SETUP)) (called t room 0 (Refused SETUP))
either_one true t room = refl
either_one false t room = refl

pub path_none : (p : Option Path) (kind : Kind) (os : List ℕ) (t : Tuner) (room : List ℕ) → p ≡ None → called t room 0 (Refused SETUP) ≡ path_left p kind os t room
unfolding left_by
path_none p kind os t room e = rw e (either_one (sound t) t room)

-- the answer of a call without steps
still_answered : (b : Bool) (t u : Tuner) (room : List ℕ) (value : ℕ) → called t room 0 (cond b (Done value) (Refused SETUP)) ≡ cond b (called t room 0 (Done value)) (called t room 0 (Refused SETUP))
still_answered true t u room value = refl
still_answered false t u room value = refl

pub path_still : (p : Option Path) (path : Path) (kind : Kind) (os : List ℕ) (t : Tuner) (room : List ℕ) (answer : Answer)
    → p ≡ Some path → kind ≡ R820T → answer ≡ sound_answer t.nominal t.corrected 0 → called t room 0 answer ≡ path_left p kind os t room
unfolding sound_answer left_by
path_still p path kind os t room answer e k a = ap (called t room 0) a ∙ rw (e, k) (still_answered (sound t) t t room 0)

pub path_by : (p : Option Path) (path : Path) (kind : Kind) (us : List Update) (os : List ℕ) (t : Tuner) (room : List ℕ) (x : Called Tuner)
    → p ≡ Some path → kind ≡ R828D → us ≡ path_updates path → x ≡ bracket_call t t (Done 0) us (length us) os t room → x ≡ path_left p kind os t room
path_by p path kind us os t room x e k u h = bracket_by t t (Done 0) us (path_updates path) 2 os t room x u (path_two path) h ∙ rw (e, k)

-- a gain's row at a step that was worked out apart
pub at_step : (os : List ℕ) (k l : ℕ) (t : Tuner) (room : List ℕ) (x : Called Tuner) → k ≡ l → x ≡ step_call os k t room → x ≡ step_call os l t room
at_step os k l t room x e h = h ∙ ap (λ (n : ℕ). step_call os n t room) e

-- the step chosen for a gain in dB is an index that no clamping changes
pub chosen_step : (db : Float) (k : ℕ) → k ≡ chosen_of db → clamped k ≡ chosen_of db
chosen_step db k e = ap clamped e ∙ within (chosen_of db) (chosen_lt db)
  where
    within : (n : ℕ) → n < 29 → clamped n ≡ n
    within n h = omega arith

-- what is stored and answered on numbers is what the rows leave
told_still : (b : Bool) (t : Tuner) (value : ℕ) → cond b (Done value) (Refused SETUP) ≡ (cond b (called t [] 0 (Done value)) (called t [] 0 (Refused SETUP))).answer
told_still true t value = refl
told_still false t value = refl

pub gain_told : (t : Tuner) → sound_answer t.nominal t.corrected (to_bits binary32 t.gain) ≡ (quietly GainTold t).answer
unfolding result_of left_by sound_answer
gain_told t = told_still (sound t) t (to_bits binary32 t.gain)

pub if_told : (t : Tuner) → sound_answer t.nominal t.corrected t.ifreq ≡ (quietly IfTold t).answer
unfolding result_of left_by sound_answer
if_told t = told_still (sound t) t t.ifreq

pub table_told : (t : Tuner) → sound_answer t.nominal t.corrected 0 ≡ (quietly TableTold t).answer
unfolding result_of left_by sound_answer
table_told t = told_still (sound t) t 0

pub notch_left : (t : Tuner) (on : Bool) → called (with_notch t (kept_notch t.nominal t.corrected t.notch on)) [] 0 (sound_answer t.nominal t.corrected 0) ≡ quietly (Notch on) t
unfolding result_of left_by kept_notch sound_answer
notch_left t on = go (sound t)
  where
    go : (b : Bool) → called (with_notch t (cond b on t.notch)) [] 0 (cond b (Done 0) (Refused SETUP)) ≡ cond b (called (with_notch t on) [] 0 (Done 0)) (called t [] 0 (Refused SETUP))
    go true = refl
    go false = refl

-- a call without steps makes no entry, and leaves no room
alone : (q x : Called Tuner) → called x.next [] 0 x.answer ≡ q → called q.next [] 0 q.answer ≡ q
alone q x e = ap (λ (y : Called Tuner). called y.next [] 0 y.answer) (sym e) ∙ e

pub notch_alone : (t : Tuner) (on : Bool) → called (quietly (Notch on) t).next [] 0 (quietly (Notch on) t).answer ≡ quietly (Notch on) t
notch_alone t on = alone (quietly (Notch on) t) (called (with_notch t (kept_notch t.nominal t.corrected t.notch on)) [] 0 (sound_answer t.nominal t.corrected 0)) (notch_left t on)

-- the gain table, refused and told
pub table_refused : (t : Tuner) (answer : Answer) → answer ≡ sound_answer t.nominal t.corrected 0 → sound t ≡ false
    → record { answer = answer; steps = replicate 29 (pos 0) } ≡ table_of t
unfolding table_of
table_refused t answer e h =
    ap (λ (a : Answer). record { answer = a; steps = replicate 29 (pos 0) }) (e ∙ table_told t) ∙ rw h

pub table_given : (t : Tuner) (answer : Answer) (given : List ℤ) → answer ≡ sound_answer t.nominal t.corrected 0 → given ≡ map pos steps → sound t ≡ true
    → record { answer = answer; steps = given } ≡ table_of t
unfolding table_of
table_given t answer given e k h =
    (λ i. record { answer = (e ∙ table_told t) i; steps = k i }) ∙ rw h
