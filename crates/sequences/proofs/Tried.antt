-- #101: what a tuning tells of its tries and the lock, over the entries that demand 3 speaks of; what a refusal tells; and runs worked out.
-- Assumes nothing.
use Prim.Native.Nat.{ℕ, zero, suc, ◌+◌, ◌*◌}
use mathlib.Core.Path.{◌≡◌, refl, sym, ap, ◌∙◌}
use mathlib.Core.Bool.{Bool, true, false, false≢true, cond, not, ◌&&◌, ◌||◌, or_assoc, or-false}
use mathlib.Core.List.{List, [], ◌∷◌, ◌++◌}
use native.Mathlib.Omega.{arith}
use borrow.Author.Tests.{eqb-false}
use lib.Dec.{eqb}
use lib.ListN.{drop, get_or, length, replicate, take}
use lib.Seq.{get_or-drop, sets}
use Rattle.std.specs.Prelude.{Option, Some, None}
use Rattle.transcript.specs.declared.Entry.{Entry}
use Rattle.transcript.specs.Entries.{zeros8}
use Rattle.refusals.specs.declared.Answer.TheVariants.{Done, Refused, Stopped}
use Rattle.refusals.specs.Table.{FREQUENCY}
use Rattle.chip.specs.declared.Chip.{Chip}
use Rattle.chip.specs.declared.LockTries.{LockTries}
use Rattle.chip.specs.declared.Update.{Update}
use Rattle.chip.specs.declared.Progress.TheVariants.{Going}
use Rattle.bands.specs.declared.Planned.{Planned}
use Rattle.bands.specs.Tables.{plan_by}
use Rattle.board.specs.declared.Path.{Path}
use Rattle.board.specs.declared.Plan as board
use Rattle.board.specs.declared.Path.TheVariants.{Hf, Vhf, Uhf}
use Rattle.boards.specs.Hops.{hop_kept, hop_lock_tries, hop_refusal, hop_result, hop_steps, path_part, path_replies}
use Rattle.demod.specs.Programs.{ddc_steps}
use Rattle.device.specs.Accesses.{access_step}
use Rattle.device.specs.Gpio.{bit_steps, output_steps}
use Rattle.driver.specs.declared.Driver.{Driver}
use Rattle.driver.specs.Calls.{both}
use Rattle.driver.specs.Record.{sound_driver}
use Rattle.chip.specs.Calls.{call_entries, call_of, too_short, locked_in, lock_tries_in, refusal_with, tries_in}
use Rattle.chip.specs.Courses.{left_by}
use Rattle.chip.specs.Entries.{flag_of, is_try, lock_bit, pointer, read_entry, lock_tries, no_tries, wait}
use Rattle.status.specs.Reversal.{locked_by}
use Rattle.chip.specs.Steps.{Step, Trace, emit, every, goes, in_list, line, ok_for, run, step, trace, updates}
use Rattle.chip.specs.Steps.Step.{Open, Close, Send, Mask, Plain}
use Rattle.chip.proofs.Laws.{active, run_app}
use Rattle.chip.proofs.Taken.{untried}
use Rattle.pll.specs.declared.Kind.{Kind}
use Rattle.pll.specs.declared.Kind.TheVariants.{R820T, R828D}
use Rattle.pll.specs.declared.Plan.{Plan}
use Rattle.std.specs.Prelude.{Option, Some, None}
use Rattle.pll.specs.Divide.{first_mixer, in_vco}
use Rattle.pll.specs.Fraction.{turn_of, turns_of}
use Rattle.pll.specs.Plan.{plan_of as pllOf, plan_with}
use Rattle.pll.specs.Setting.{setting_of}
use Rattle.status.specs.Reversal.{reversed}
use Rattle.tuning.specs.Mux.{mux_updates, pll_updates, range_of}
use Rattle.tuning.specs.Program.{inner_steps, tune_steps, tune_answer}
use Rattle.tuning.specs.Tries.{after_try, again, locked, locks_at, repair_updates, reply_bytes, status_steps, tries_from, try_read}
use Rattle.tuning.proofs.Programs.{every_app}
use Rattle.r82xx.specs.declared.Tuner.{Tuner}
use Rattle.r82xx.specs.Calls.{hz_refusal, plan_for, refusal_of}
use Rattle.r82xx.specs.Orders.{lock_kept, result_of, lock_tries_of, tune_of}
use Rattle.r82xx.specs.Orders.Order.{Tune}
use Rattle.r82xx.specs.Record.{fresh_tuner, sound}
use Rattle.history.specs.Histories.{is_done}
use Rattle.history.proofs.Calls.{went}
use Rattle.history.proofs.Runs.{done_by, going_before, run_keeps}
use Rattle.sequences.specs.Calls.{call, entries}
use Rattle.sequences.specs.Calls.Order.{BoardTune, Tuned}
use Rattle.sequences.specs.Waited.{waited_from}

-- "Tries equal the three-byte reads in the transcript that were done": of the very entries that the reader finds in the room
pub told_by_entries : (hz : ℕ) (rs os room : List ℕ) (t : Tuner) → lock_tries_of (Tune hz rs) os t room ≡ lock_tries_in (entries (call (Tuned (Tune hz rs)) os room) t)
unfolding lock_tries_of
told_by_entries hz rs os room t = refl

-- and so of a board-level tune's (#113)
pub board_told_by_entries : (hz : ℕ) (table rs os room : List ℕ) (d : Driver) (t : Tuner)
    → hop_lock_tries (plan_by table hz) hz rs os t d room ≡ lock_tries_in (entries (call (BoardTune hz table rs d) os room) t)
unfolding hop_lock_tries
board_told_by_entries hz table rs os room d t = refl

-- ---- a refusal tells of no try

-- before any step, whatever its number
pub refused_before : (hz : ℕ) (rs os room : List ℕ) (t : Tuner) → (refusal_of t (hz_refusal hz t.ifreq) 53 35 (length room) (length os) (length rs) ≡ 0 → ⊥)
    → lock_tries_of (Tune hz rs) os t room ≡ no_tries
unfolding lock_tries_of
refused_before hz rs os room t h = sym (untried _ os _ t.chip h)

pub board_refused_before : (hz : ℕ) (table rs os room : List ℕ) (d : Driver) (t : Tuner)
    → (refusal_with (sound t && sound_driver d) (hop_refusal (plan_by table hz) t.ifreq) 64 38 (length room) (length os) (length rs) ≡ 0 → ⊥)
    → hop_lock_tries (plan_by table hz) hz rs os t d room ≡ no_tries
unfolding hop_lock_tries
board_refused_before hz table rs os room d t h = sym (untried _ os _ t.chip h)

-- a step whose entry is no try, however it goes
abbrev pub quiet : Step → Bool
quiet Open = true
quiet Close = true
quiet (Send n bytes) = true
quiet (Mask register value mask) = true
quiet (Plain e) = not (eqb e.n 3)

no_three : (a b c : Bool) → not b ≡ true → (a && b && c) ≡ false
no_three true true c h = absurd (false≢true h)
no_three false true c h = absurd (false≢true h)
no_three true false c h = refl
no_three false false c h = refl

pub no_try : (s : Step) (c : Chip) (ok : Bool) → quiet s ≡ true → is_try (emit s c ok) ≡ false
no_try Open c ok h = refl
no_try Close c ok h = refl
no_try (Send n bytes) c ok h = refl
no_try (Mask r v m) c ok h = refl
no_try (Plain e) c ok h = no_three (eqb e.kind 3) (eqb e.n 3) (eqb (flag_of ok) 0) h

-- what one entry more says
pub tries_next : (es : List Entry) (e : Entry) → tries_in (es ++ (e ∷ [])) ≡ tries_in es + cond (is_try e) 1 0
unfolding tries_in
tries_next [] e = omega arith
tries_next (x ∷ es) e = let ih = tries_next es e in omega (arith, ih)

pub locked_next : (es : List Entry) (e : Entry) → locked_in (es ++ (e ∷ [])) ≡ (locked_in es || (is_try e && lock_bit e))
unfolding locked_in
locked_next [] e = or-false (is_try e && lock_bit e)
locked_next (x ∷ es) e =
    ap (λ (b : Bool). (is_try x && lock_bit x) || b) (locked_next es e) ∙ sym (or_assoc (is_try x && lock_bit x) (locked_in es) (is_try e && lock_bit e))

-- one that is no try says nothing
seen_past : (es : List Entry) (e : Entry) → is_try e ≡ false → lock_tries_in (es ++ (e ∷ [])) ≡ lock_tries_in es
seen_past es e h =
    (λ i. lock_tries ((tries_next es e ∙ ap (λ (b : Bool). tries_in es + cond b 1 0) h) i) ((locked_next es e ∙ ap (λ (b : Bool). locked_in es || (b && lock_bit e)) h) i))
    ∙ (λ i. lock_tries (more i) (or-false (locked_in es) i))
  where
    more : tries_in es + 0 ≡ tries_in es
    more = omega arith

module _ (os : List ℕ) where
  quiet_run : (ss : List Step) (t : Trace) → every quiet ss ≡ true → lock_tries_in (run in_list os ss t).log ≡ lock_tries_in t.log
  quiet_run ss t h =
      run_keeps os (λ (u : Trace). lock_tries_in u.log ≡ lock_tries_in t.log) quiet
      (λ s u g a q. seen_past u.log (emit s u.chip (ok_for os u.count s)) (no_try s u.chip (ok_for os u.count s) g) ∙ q) ss t h refl

  quiet_trace : (ss : List Step) (c : Chip) → every quiet ss ≡ true → lock_tries_in (trace os ss c).log ≡ no_tries
  unfolding trace tries_in locked_in
  quiet_trace ss c h = quiet_run ss (line c [] 0 Going false) h

-- without a plan there is no waiting, only the mux's writes behind an open repeater
pub mux_writes : (address hz : ℕ) (kind : Kind) (notch : Bool) (rs : List ℕ) → every quiet (tune_steps address kind notch None hz rs) ≡ true
unfolding every inner_steps
mux_writes address hz kind notch rs = refl

none_said : (number : ℕ) (os : List ℕ) (ss : List Step) (c : Chip) → every quiet ss ≡ true → lock_tries_in (call_entries number os ss c) ≡ no_tries
none_said number os ss c h = go (eqb number 0) refl
  where
    go : (b : Bool) → eqb number 0 ≡ b → lock_tries_in (call_entries number os ss c) ≡ no_tries
    go true e = rw e (quiet_trace os ss c h)
    go false e = sym (untried number os ss c (eqb-false number 0 e))

-- 2 in the PLL, whatever the outcomes: 0 tries, not locked
pub refused_in_the_pll_untried : (hz : ℕ) (rs os room : List ℕ) (t : Tuner) → plan_for t hz ≡ None → lock_tries_of (Tune hz rs) os t room ≡ no_tries
unfolding lock_tries_of
refused_in_the_pll_untried hz rs os room t p =
    let number : ℕ = refusal_of t (hz_refusal hz t.ifreq) 53 35 (length room) (length os) (length rs) in
    ap (λ (q : Option Plan). lock_tries_in (call_entries number os (tune_of t q hz rs) t.chip)) p
    ∙ none_said number os (tune_of t None hz rs) t.chip (mux_writes t.chip.address hz t.kind t.notch rs)

-- the board's path and the DDC byte have no try, and without a plan there is no waiting between them
pub quiet_path : (kind : Kind) (route : Option Path) (rs : List ℕ) → every quiet (path_part kind route rs) ≡ true
unfolding every output_steps bit_steps access_step
quiet_path R820T route rs = refl
quiet_path R828D None rs = refl
quiet_path R828D (Some Hf) rs = refl
quiet_path R828D (Some Vhf) rs = refl
quiet_path R828D (Some Uhf) rs = refl

pub quiet_ddc : (inverted : Bool) → every quiet (ddc_steps inverted) ≡ true
unfolding every ddc_steps
quiet_ddc inverted = refl

pub quiet_hop : (kind : Kind) (address : ℕ) (plan : board.Plan) (rs : List ℕ) → every quiet (hop_steps kind address plan None rs) ≡ true
unfolding every
quiet_hop kind address plan rs =
    let left : List ℕ = drop (path_replies kind plan.path) rs in
    every_app quiet (path_part kind plan.path rs) (tune_steps address kind plan.notch None plan.hz left ++ []) (quiet_path kind plan.path rs)
    (every_app quiet (tune_steps address kind plan.notch None plan.hz left) [] (mux_writes address plan.hz kind plan.notch left) refl)

pub board_refused_in_the_pll_untried : (hz : ℕ) (table rs os room : List ℕ) (d : Driver) (t : Tuner) → plan_for t (plan_by table hz).plan.hz ≡ None
    → hop_lock_tries (plan_by table hz) hz rs os t d room ≡ no_tries
unfolding hop_lock_tries
board_refused_in_the_pll_untried hz table rs os room d t p =
    let at : Planned = plan_by table hz in
    let number : ℕ = refusal_with (sound t && sound_driver d) (hop_refusal at t.ifreq) 64 38 (length room) (length os) (length rs) in
    ap (λ (q : Option Plan). lock_tries_in (call_entries number os (hop_steps t.kind t.chip.address at.plan q rs) t.chip)) p
    ∙ none_said number os (hop_steps t.kind t.chip.address at.plan None rs) t.chip (quiet_hop t.kind t.chip.address at.plan rs)

-- ---- where no step failed: the tries by the replies

-- the third byte of a try's entry is its third reply
third_of : (ds : List ℕ) → get_or (sets zeros8 0 (take 3 ds)) 2 0 ≡ get_or ds 2 0
third_of [] = refl
third_of (a ∷ []) = refl
third_of (a ∷ b ∷ []) = refl
third_of (a ∷ b ∷ d ∷ ds) = refl

pub reply_bit : (rs : List ℕ) (i : ℕ) → locked_by (get_or (reply_bytes rs (5 + 3 * i) 3) 2 0) ≡ locks_at rs i
unfolding reply_bytes
reply_bit rs i =
    let place : (5 + 3 * i) + 2 ≡ 7 + 3 * i = omega arith in
    ap locked_by (third_of (drop (5 + 3 * i) rs) ∙ get_or-drop (5 + 3 * i) rs 2 0 ∙ ap (λ (k : ℕ). get_or rs k 0) place)

pub quiet_updates : (us : List Update) → every quiet (updates us) ≡ true
unfolding every
quiet_updates [] = refl
quiet_updates (u ∷ us) = quiet_updates us

pub quiet_after : (i : ℕ) → every quiet (after_try i) ≡ true
unfolding every
quiet_after i = every_app quiet (updates (again i)) (Plain (wait 1) ∷ []) (quiet_updates (again i)) refl

module _ (os : List ℕ) where
  -- a read of three bytes that was done is a try, and says what its third byte says
  try_done : (address : ℕ) (bytes : List ℕ) (t : Trace) → t.progress ≡ Going → (step in_list os (Plain (read_entry address 3 bytes)) t).progress ≡ Going
      → lock_tries_in (step in_list os (Plain (read_entry address 3 bytes)) t).log ≡ lock_tries (tries_in t.log + 1) (locked_in t.log || locked_by (get_or bytes 2 0))
  try_done address bytes t g h =
      let s : Step = Plain (read_entry address 3 bytes) in
      let ok : Bool = ok_for os t.count s in
      let is = active in_list os s t (ap goes g) in
      let fine : ok ≡ true = done_by ok t.count (ap (λ (u : Trace). u.progress) is ∙ h) in
      sym (ap (λ (u : Trace). lock_tries_in u.log) is)
      ∙ ap (λ (b : Bool). lock_tries_in (t.log ++ (emit s t.chip b ∷ []))) fine
      ∙ (λ i. lock_tries (tries_next t.log (emit s t.chip true) i) (locked_next t.log (emit s t.chip true) i))

  module _ (address : ℕ) (rs : List ℕ) where
    -- a try's two steps
    try_said : (i n : ℕ) (t : Trace) → (run in_list os (try_read address rs i) t).progress ≡ Going → lock_tries_in t.log ≡ lock_tries n false
        → lock_tries_in (run in_list os (try_read address rs i) t).log ≡ lock_tries (n + 1) (locks_at rs i)
    unfolding run every
    try_said i n t h e =
        let u : Trace = step in_list os (Plain (pointer address)) t in
        let same : lock_tries_in u.log ≡ lock_tries n false = quiet_run os (Plain (pointer address) ∷ []) t refl ∙ e in
        let goes_on : u.progress ≡ Going = going_before os (Plain (read_entry address 3 (reply_bytes rs (5 + 3 * i) 3)) ∷ []) u h in
        try_done address (reply_bytes rs (5 + 3 * i) 3) u goes_on h
        ∙ (λ j. lock_tries ((same j).tries + 1) ((same j).locked || reply_bit rs i j))

    -- one turn: a try, then what follows it
    turn_said : (i : ℕ) (more : List Step) (t : Trace) (b : Bool) (end : LockTries) → locks_at rs i ≡ b → lock_tries_in t.log ≡ lock_tries i false
        → ((u : Trace) → (run in_list os more u).progress ≡ Going → lock_tries_in u.log ≡ lock_tries (i + 1) false → lock_tries_in (run in_list os more u).log ≡ end)
        → (run in_list os (try_read address rs i ++ cond b (updates locked) (after_try i ++ more)) t).progress ≡ Going
        → lock_tries_in (run in_list os (try_read address rs i ++ cond b (updates locked) (after_try i ++ more)) t).log ≡ cond b (lock_tries (i + 1) true) end
    turn_said i more t true end l e ih h =
        let after : Trace = run in_list os (try_read address rs i) t in
        let split = run_app in_list os (try_read address rs i) (updates locked) t in
        let ended : (run in_list os (updates locked) after).progress ≡ Going = ap (λ (u : Trace). u.progress) (sym split) ∙ h in
        ap (λ (u : Trace). lock_tries_in u.log) split
        ∙ quiet_run os (updates locked) after (quiet_updates locked)
        ∙ try_said i i t (going_before os (updates locked) after ended) e
        ∙ ap (lock_tries (i + 1)) l
    turn_said i more t false end l e ih h =
        let after : Trace = run in_list os (try_read address rs i) t in
        let mid : Trace = run in_list os (after_try i) after in
        let split = run_app in_list os (try_read address rs i) (after_try i ++ more) t ∙ run_app in_list os (after_try i) more after in
        let ended : (run in_list os more mid).progress ≡ Going = ap (λ (u : Trace). u.progress) (sym split) ∙ h in
        let before : after.progress ≡ Going = going_before os (after_try i) after (going_before os more mid ended) in
        ap (λ (u : Trace). lock_tries_in u.log) split
        ∙ ih mid ended (quiet_run os (after_try i) after (quiet_after i) ∙ try_said i i t before e ∙ ap (lock_tries (i + 1)) l)

    tries_said : (left i : ℕ) (t : Trace) → (run in_list os (tries_from address rs left i) t).progress ≡ Going → lock_tries_in t.log ≡ lock_tries i false
        → lock_tries_in (run in_list os (tries_from address rs left i) t).log ≡ waited_from rs left i
    unfolding run tries_from waited_from
    tries_said zero i t h e = e
    tries_said (suc left) i t h e =
        turn_said i (tries_from address rs left (i + 1)) t (locks_at rs i) (waited_from rs left (i + 1)) refl e (λ u g q. tries_said left (i + 1) u g q) h

-- a whole tuning by its plan, from a trace without a try
tune_said : (os : List ℕ) (address : ℕ) (kind : Kind) (notch : Bool) (p : Plan) (hz : ℕ) (rs : List ℕ) (start : Trace)
    → (run in_list os (tune_steps address kind notch (Some p) hz rs) start).progress ≡ Going → lock_tries_in start.log ≡ no_tries
    → lock_tries_in (run in_list os (tune_steps address kind notch (Some p) hz rs) start).log ≡ waited_from rs 10 0
unfolding run every inner_steps
tune_said os address kind notch p hz rs start h e =
    let mux : List Step = updates (mux_updates notch (range_of hz) ++ pll_updates p) in
    let status : List Step = status_steps address rs in
    let fix : List Step = updates (repair_updates kind p.number (get_or rs 4 0)) in
    let tries : List Step = tries_from address rs 10 0 in
    let opened : Trace = step in_list os Open start in
    let written : Trace = run in_list os mux opened in
    let probed : Trace = run in_list os status written in
    let repaired : Trace = run in_list os fix probed in
    let waited : Trace = run in_list os tries repaired in
    let split =
    run_app in_list os (mux ++ (status ++ (fix ++ tries))) (Close ∷ []) opened
    ∙ ap (λ (u : Trace). run in_list os (Close ∷ []) u)
    (run_app in_list os mux (status ++ (fix ++ tries)) opened ∙ run_app in_list os status (fix ++ tries) written ∙ run_app in_list os fix tries probed) in
    let ended : waited.progress ≡ Going = going_before os (Close ∷ []) waited (ap (λ (u : Trace). u.progress) (sym split) ∙ h) in
    ap (λ (u : Trace). lock_tries_in u.log) split
    ∙ quiet_run os (Close ∷ []) waited refl
    ∙ tries_said os address rs 10 0 repaired ended
    (quiet_run os fix probed (quiet_updates (repair_updates kind p.number (get_or rs 4 0)))
    ∙ quiet_run os status written refl
    ∙ quiet_run os mux opened (quiet_updates (mux_updates notch (range_of hz) ++ pll_updates p))
    ∙ quiet_run os (Open ∷ []) start refl
    ∙ e)

planned_said : (os rs : List ℕ) (hz : ℕ) (t : Tuner) (p : Plan) → (trace os (tune_of t (Some p) hz rs) t.chip).progress ≡ Going
    → lock_tries_in (trace os (tune_of t (Some p) hz rs) t.chip).log ≡ waited_from rs 10 0
unfolding trace tries_in locked_in
planned_said os rs hz t p h = tune_said os t.chip.address t.kind t.notch p hz rs (line t.chip [] 0 Going false) h refl

-- by the plan: a tuning that is answered done has one
by_plan_lem : (number : ℕ) (os rs room : List ℕ) (hz : ℕ) (t : Tuner) (plan : Option Plan)
    → is_done (call_of number (tune_answer plan hz) os (tune_of t plan hz rs) t.chip (lock_kept t) t room).answer ≡ true
    → lock_tries_in (call_entries number os (tune_of t plan hz rs) t.chip) ≡ waited_from rs 10 0
by_plan_lem number os rs room hz t None h =
    absurd (false≢true (went number (Refused FREQUENCY) os (tune_of t None hz rs) t.chip (lock_kept t) t room h).0)
by_plan_lem number os rs room hz t (Some p) h =
    let w = (went number (Done hz) os (tune_of t (Some p) hz rs) t.chip (lock_kept t) t room h).1 in
    rw w.taken_up (planned_said os rs hz t p w.going)

-- a tuning that is done tells the try whose reply has the lock bit, or all ten
pub told_when_done : (hz value : ℕ) (rs os room : List ℕ) (t : Tuner) → (result_of (Tune hz rs) os t room).answer ≡ Done value
    → lock_tries_of (Tune hz rs) os t room ≡ waited_from rs 10 0
unfolding result_of left_by lock_tries_of
told_when_done hz value rs os room t h = by_plan_lem _ os rs room hz t (plan_for t hz) (ap is_done h)

-- a board-level tune's waiting takes the replies that the board's path left
hop_said : (os rs : List ℕ) (at : board.Plan) (t : Tuner) (p : Plan) → (trace os (hop_steps t.kind t.chip.address at (Some p) rs) t.chip).progress ≡ Going
    → lock_tries_in (trace os (hop_steps t.kind t.chip.address at (Some p) rs) t.chip).log
    ≡ waited_from (drop (path_replies t.kind at.path) rs) 10 0
unfolding trace tries_in locked_in
hop_said os rs at t p h =
    let left : List ℕ = drop (path_replies t.kind at.path) rs in
    let pre : List Step = path_part t.kind at.path rs in
    let ss : List Step = tune_steps t.chip.address t.kind at.notch (Some p) at.hz left in
    let post : List Step = ddc_steps at.inverted in
    let u : Trace = run in_list os pre (line t.chip [] 0 Going false) in
    let v : Trace = run in_list os ss u in
    let split = run_app in_list os pre (ss ++ post) (line t.chip [] 0 Going false) ∙ run_app in_list os ss post u in
    let ended : v.progress ≡ Going = going_before os post v (ap (λ (w : Trace). w.progress) (sym split) ∙ h) in
    ap (λ (w : Trace). lock_tries_in w.log) split
    ∙ quiet_run os post v (quiet_ddc at.inverted)
    ∙ tune_said os t.chip.address t.kind at.notch p at.hz left u ended (quiet_run os pre (line t.chip [] 0 Going false) (quiet_path t.kind at.path rs))

hop_by : (number : ℕ) (os rs room : List ℕ) (hz : ℕ) (at : board.Plan) (t : Tuner) (d : Driver) (plan : Option Plan)
    → is_done (call_of number (tune_answer plan hz) os (hop_steps t.kind t.chip.address at plan rs) t.chip (hop_kept t d at (tune_answer plan hz) hz) (both t d) room).answer ≡ true
    → lock_tries_in (call_entries number os (hop_steps t.kind t.chip.address at plan rs) t.chip) ≡ waited_from (drop (path_replies t.kind at.path) rs) 10 0
hop_by number os rs room hz at t d None h =
    absurd (false≢true (went number (Refused FREQUENCY) os (hop_steps t.kind t.chip.address at None rs) t.chip (hop_kept t d at (Refused FREQUENCY) hz) (both t d) room h).0)
hop_by number os rs room hz at t d (Some p) h =
    let w = (went number (Done hz) os (hop_steps t.kind t.chip.address at (Some p) rs) t.chip (hop_kept t d at (Done hz) hz) (both t d) room h).1 in
    rw w.taken_up (hop_said os rs at t p w.going)

pub board_told_when_done : (hz value : ℕ) (table rs os room : List ℕ) (d : Driver) (t : Tuner) → (hop_result (plan_by table hz) hz rs os t d room).answer ≡ Done value
    → hop_lock_tries (plan_by table hz) hz rs os t d room ≡ waited_from (drop (path_replies t.kind (plan_by table hz).plan.path) rs) 10 0
unfolding hop_result left_by hop_lock_tries
board_told_when_done hz value table rs os room d t h = hop_by _ os rs room hz (plan_by table hz).plan t d (plan_for t (plan_by table hz).plan.hz) (ap is_done h)

-- ---- worked out, on a fresh R828D at 100,000,000 Hz: entries 21 and 22 are the first try, 25 and 26 the second, 28 and 29 the third

abbrev start : Tuner
start = fresh_tuner R828D 0x74 28_800_000

abbrev told : List ℕ → List ℕ → LockTries
told os rs = lock_tries_of (Tune 100_000_000 rs) os start (replicate 856 0)

-- the lock bit in the reply of the third try
abbrev third : List ℕ
third = replicate 13 0 ++ (0x02 ∷ replicate 21 0)

pub locked_at_the_third : told (replicate 53 0) third ≡ lock_tries 3 true
unfolding lock_tries_of tries_in locked_in trace run step too_short in_vco first_mixer setting_of turn_of turns_of plan_with pllOf inner_steps repair_updates reply_bytes tries_from reversed
locked_at_the_third = refl

pub not_locked_in_ten : told (replicate 53 0) (replicate 35 0) ≡ lock_tries 10 false
unfolding lock_tries_of tries_in locked_in trace run step too_short in_vco first_mixer setting_of turn_of turns_of plan_with pllOf inner_steps repair_updates reply_bytes tries_from reversed
not_locked_in_ten = refl

-- "On refusal 11 the tries are those counted so far": the third read fails, so there were two, though its reply would have had the bit
pub cut_at_the_third : told (replicate 29 0 ++ (1 ∷ replicate 23 0)) third ≡ lock_tries 2 false
unfolding lock_tries_of tries_in locked_in trace run step too_short in_vco first_mixer setting_of turn_of turns_of plan_with pllOf inner_steps repair_updates reply_bytes tries_from reversed
cut_at_the_third = refl

-- the write of 0x1a behind the lock fails: 11, and locked all the same
pub cut_behind_the_lock : told (replicate 30 0 ++ (1 ∷ replicate 22 0)) third ≡ lock_tries 3 true
unfolding lock_tries_of tries_in locked_in trace run step too_short in_vco first_mixer setting_of turn_of turns_of plan_with pllOf inner_steps repair_updates reply_bytes tries_from reversed
cut_behind_the_lock = refl

pub cut_behind_the_lock_answer : (result_of (Tune 100_000_000 third) (replicate 30 0 ++ (1 ∷ replicate 22 0)) start (replicate 856 0)).answer ≡ Stopped 30
unfolding result_of left_by call_of trace run step too_short in_vco first_mixer setting_of turn_of turns_of plan_with pllOf inner_steps repair_updates reply_bytes tries_from reversed
cut_behind_the_lock_answer = refl
