-- "Up to ten tries" of every tuning, by itself or on a board, with any outcomes: a cut one has at most ten too, and none stands after one with the lock bit.
-- Assumes nothing.
use Prim.Native.Nat.{ℕ, zero, suc, ◌+◌, ◌*◌, ◌≤◌}
use mathlib.Core.Path.{◌≡◌, refl, sym, ap, subst, ◌∙◌}
use mathlib.Core.Bool.{Bool, true, false, cond, not, ◌&&◌, ◌||◌, and_assoc, and-true, or_assoc, or-false}
use mathlib.Core.List.{List, [], ◌∷◌, ◌++◌}
use native.Mathlib.Omega.{arith}
use lib.Dec.{eqb}
use lib.ListN.{drop, get_or, length}
use Rattle.transcript.specs.declared.Entry.{Entry}
use Rattle.bands.specs.declared.Planned.{Planned}
use Rattle.bands.specs.Tables.{plan_by}
use Rattle.board.specs.declared.Plan as board
use Rattle.boards.specs.Hops.{ddc_part, hop_refusal, hop_steps, path_part, path_replies}
use Rattle.chip.specs.declared.Progress.TheVariants.{Going}
use Rattle.chip.specs.Calls.{locked_in, refusal_with, tries_in}
use Rattle.chip.specs.Entries.{is_try, lock_bit, pointer, read_entry}
use Rattle.chip.specs.Steps.{Step, Trace, acts, emit, every, in_list, line, ok_for, run, step, trace, updates}
use Rattle.chip.specs.Steps.Step.{Open, Close, Plain}
use Rattle.chip.proofs.Laws.{active, idle, run_app}
use Rattle.driver.specs.declared.Driver.{Driver}
use Rattle.driver.specs.Record.{sound_driver}
use Rattle.history.proofs.Runs.{run_keeps}
use Rattle.pll.specs.declared.Kind.{Kind}
use Rattle.std.specs.Prelude.{Option, Some, None}
use Rattle.pll.specs.declared.Plan.{Plan}
use Rattle.r82xx.specs.declared.Tuner.{Tuner}
use Rattle.r82xx.specs.Calls.{hz_refusal, plan_for, refusal_of}
use Rattle.r82xx.specs.Orders.{tune_of}
use Rattle.r82xx.specs.Orders.Order.{Tune}
use Rattle.r82xx.specs.Record.{sound}
use Rattle.status.specs.Reversal.{locked_by}
use Rattle.tuning.specs.Mux.{mux_updates, pll_updates, range_of}
use Rattle.tuning.specs.Program.{inner_steps, tune_steps}
use Rattle.tuning.specs.Tries.{after_try, locked, locks_at, repair_updates, reply_bytes, status_steps, tries_from, try_read}
use Rattle.sequences.specs.Calls.{call, entries}
use Rattle.sequences.specs.Calls.Order.{BoardTune, Tuned}
use Rattle.sequences.specs.Waited.{Waited, bit_last}
use Rattle.sequences.proofs.Tried.{locked_next, mux_writes, no_try, quiet, quiet_after, quiet_ddc, quiet_path, quiet_updates, reply_bit, tries_next}

-- before a lock: so many tries at most, none of them with the bit
record Waiting (most : ℕ) (es : List Entry) : Type 0 where
  pub few : tries_in es ≤ most
  pub none : locked_in es ≡ false
  pub last : bit_last false es ≡ true

more : (n m : ℕ) (es : List Entry) → n ≤ m → Waiting n es → Waiting m es
more n m es h w = record { few = omega (arith, w.few); none = w.none; last = w.last }

over : (n m : ℕ) (es : List Entry) → n ≤ m → Waited n es → Waited m es
over n m es h w = record { few = omega (arith, w.few); last = w.last }

waited : (n : ℕ) (es : List Entry) → Waiting n es → Waited n es
waited n es w = record { few = w.few; last = w.last }

-- one entry more
bit_next : (seen : Bool) (es : List Entry) (e : Entry) → bit_last seen (es ++ (e ∷ [])) ≡ (bit_last seen es && not (is_try e && (seen || locked_in es)))
unfolding bit_last locked_in
bit_next seen [] e = and-true (not (is_try e && seen)) ∙ ap (λ (s : Bool). not (is_try e && s)) (sym (or-false seen))
bit_next seen (x ∷ es) e =
    let bit : Bool = is_try x && lock_bit x in
    ap (λ (b : Bool). not (is_try x && seen) && b) (bit_next (seen || bit) es e)
    ∙ sym (and_assoc (not (is_try x && seen)) (bit_last (seen || bit) es) (not (is_try e && (seen || bit || locked_in es))))
    ∙ ap (λ (b : Bool). not (is_try x && seen) && bit_last (seen || bit) es && not (is_try e && b)) (or_assoc seen bit (locked_in es))

-- one that is no try
module _ (es : List Entry) (e : Entry) (h : is_try e ≡ false) where
  tries_past : tries_in (es ++ (e ∷ [])) ≡ tries_in es
  tries_past = tries_next es e ∙ ap (λ (b : Bool). tries_in es + cond b 1 0) h ∙ same
    where
      same : tries_in es + 0 ≡ tries_in es
      same = omega arith

  locked_past : locked_in (es ++ (e ∷ [])) ≡ locked_in es
  locked_past = locked_next es e ∙ ap (λ (b : Bool). locked_in es || (b && lock_bit e)) h ∙ or-false (locked_in es)

  bit_past : bit_last false (es ++ (e ∷ [])) ≡ bit_last false es
  bit_past = bit_next false es e ∙ ap (λ (b : Bool). bit_last false es && not (b && locked_in es)) h ∙ and-true (bit_last false es)

  waiting_past : (n : ℕ) → Waiting n es → Waiting n (es ++ (e ∷ []))
  waiting_past n w = record { few = omega (arith, w.few, tries_past); none = locked_past ∙ w.none; last = bit_past ∙ w.last }

  waited_past : (n : ℕ) → Waited n es → Waited n (es ++ (e ∷ []))
  waited_past n w = record { few = omega (arith, w.few, tries_past); last = bit_past ∙ w.last }

-- and one that is, with or without the bit
module _ (es : List Entry) (e : Entry) (h : is_try e ≡ true) (n : ℕ) (w : Waiting n es) where
  tries_one : tries_in (es ++ (e ∷ [])) ≡ tries_in es + 1
  tries_one = tries_next es e ∙ ap (λ (b : Bool). tries_in es + cond b 1 0) h

  bit_one : bit_last false (es ++ (e ∷ [])) ≡ true
  bit_one =
      bit_next false es e
      ∙ (λ i. w.last i && not (h i && w.none i))

  waited_one : Waited (n + 1) (es ++ (e ∷ []))
  waited_one = record { few = omega (arith, w.few, tries_one); last = bit_one }

  waiting_one : lock_bit e ≡ false → Waiting (n + 1) (es ++ (e ∷ []))
  waiting_one dark = record { few = omega (arith, w.few, tries_one); none = locked_next es e ∙ (λ i. w.none i || (h i && dark i)); last = bit_one }

module _ (os : List ℕ) where
  quiet_waiting : (n : ℕ) (ss : List Step) (t : Trace) → every quiet ss ≡ true → Waiting n t.log → Waiting n (run in_list os ss t).log
  quiet_waiting n ss t h w =
      run_keeps os (λ (u : Trace). Waiting n u.log) quiet
      (λ s u g a q. waiting_past u.log (emit s u.chip (ok_for os u.count s)) (no_try s u.chip (ok_for os u.count s) g) n q) ss t h w

  quiet_waited : (n : ℕ) (ss : List Step) (t : Trace) → every quiet ss ≡ true → Waited n t.log → Waited n (run in_list os ss t).log
  quiet_waited n ss t h w =
      run_keeps os (λ (u : Trace). Waited n u.log) quiet
      (λ s u g a q. waited_past u.log (emit s u.chip (ok_for os u.count s)) (no_try s u.chip (ok_for os u.count s) g) n q) ss t h w

  -- a read of three bytes: not taken, failed, or a try
  module _ (address : ℕ) (bytes : List ℕ) (t : Trace) (n : ℕ) (w : Waiting n t.log) where
    abbrev reads : Step
    reads = Plain (read_entry address 3 bytes)

    abbrev after : Trace
    after = step in_list os reads t

    -- what is left where it was tried
    tried_waited : (ok : Bool) → Waited (n + 1) (t.log ++ (emit reads t.chip ok ∷ []))
    tried_waited true = waited_one t.log (emit reads t.chip true) refl n w
    tried_waited false = over n (n + 1) _ (omega arith) (waited_past t.log (emit reads t.chip false) refl n (waited n t.log w))

    tried_waiting : locked_by (get_or bytes 2 0) ≡ false → (ok : Bool) → Waiting (n + 1) (t.log ++ (emit reads t.chip ok ∷ []))
    tried_waiting dark true = waiting_one t.log (emit reads t.chip true) refl n w dark
    tried_waiting dark false = more n (n + 1) _ (omega arith) (waiting_past t.log (emit reads t.chip false) refl n w)

    read_waited : Waited (n + 1) after.log
    read_waited = go (acts reads t.progress t.opened) refl
      where
        go : (a : Bool) → acts reads t.progress t.opened ≡ a → Waited (n + 1) after.log
        go true e = subst (λ (u : Trace). Waited (n + 1) u.log) (active in_list os reads t e) (tried_waited (ok_for os t.count reads))
        go false e = subst (λ (u : Trace). Waited (n + 1) u.log) (idle in_list os reads t e) (over n (n + 1) t.log (omega arith) (waited n t.log w))

    read_waiting : locked_by (get_or bytes 2 0) ≡ false → Waiting (n + 1) after.log
    read_waiting dark = go (acts reads t.progress t.opened) refl
      where
        go : (a : Bool) → acts reads t.progress t.opened ≡ a → Waiting (n + 1) after.log
        go true e = subst (λ (u : Trace). Waiting (n + 1) u.log) (active in_list os reads t e) (tried_waiting dark (ok_for os t.count reads))
        go false e = subst (λ (u : Trace). Waiting (n + 1) u.log) (idle in_list os reads t e) (more n (n + 1) t.log (omega arith) w)

  module _ (address : ℕ) (rs : List ℕ) where
    -- a try's two steps
    module _ (i : ℕ) (t : Trace) (w : Waiting i t.log) where
      pointed : Waiting i (step in_list os (Plain (pointer address)) t).log
      unfolding run every
      pointed = quiet_waiting i (Plain (pointer address) ∷ []) t refl w

      turn_waited : Waited (i + 1) (run in_list os (try_read address rs i) t).log
      unfolding run
      turn_waited = read_waited address (reply_bytes rs (5 + 3 * i) 3) (step in_list os (Plain (pointer address)) t) i pointed

      turn_waiting : locks_at rs i ≡ false → Waiting (i + 1) (run in_list os (try_read address rs i) t).log
      unfolding run
      turn_waiting dark =
          read_waiting address (reply_bytes rs (5 + 3 * i) 3) (step in_list os (Plain (pointer address)) t) i pointed (reply_bit rs i ∙ dark)

    -- one turn: a try, then what follows it
    turn_over : (left i : ℕ) (later : List Step) (t : Trace) → Waiting i t.log
        → ((u : Trace) → Waiting (i + 1) u.log → Waited (i + 1 + left) (run in_list os later u).log)
        → (b : Bool) → locks_at rs i ≡ b → Waited (i + suc left) (run in_list os (try_read address rs i ++ cond b (updates locked) (after_try i ++ later)) t).log
    turn_over left i later t w ih true e =
        subst (λ (u : Trace). Waited (i + suc left) u.log) (sym (run_app in_list os (try_read address rs i) (updates locked) t))
        (over (i + 1) (i + suc left) _ (omega arith)
        (quiet_waited (i + 1) (updates locked) (run in_list os (try_read address rs i) t) (quiet_updates locked) (turn_waited i t w)))
    turn_over left i later t w ih false e =
        let mid : Trace = run in_list os (try_read address rs i) t in
        let split = run_app in_list os (try_read address rs i) (after_try i ++ later) t ∙ run_app in_list os (after_try i) later mid in
        subst (λ (u : Trace). Waited (i + suc left) u.log) (sym split)
        (over (i + 1 + left) (i + suc left) _ (omega arith) (ih (run in_list os (after_try i) mid) (quiet_waiting (i + 1) (after_try i) mid (quiet_after i) (turn_waiting i t w e))))

    tries_waited : (left i : ℕ) (t : Trace) → Waiting i t.log → Waited (i + left) (run in_list os (tries_from address rs left i) t).log
    unfolding run tries_from
    tries_waited zero i t w = over i (i + 0) t.log (omega arith) (waited i t.log w)
    tries_waited (suc left) i t w = turn_over left i (tries_from address rs left (i + 1)) t w (λ u v. tries_waited left (i + 1) u v) (locks_at rs i) refl

  -- a tuning's program, with a plan or without, from a trace without a try
  tune_waited : (address : ℕ) (kind : Kind) (notch : Bool) (plan : Option Plan) (hz : ℕ) (rs : List ℕ) (start : Trace) → Waiting 0 start.log
      → Waited 10 (run in_list os (tune_steps address kind notch plan hz rs) start).log
  unfolding run every inner_steps
  tune_waited address kind notch None hz rs start w =
      over 0 10 _ (omega arith)
      (quiet_waited 0 (tune_steps address kind notch None hz rs) start (mux_writes address hz kind notch rs) (waited 0 start.log w))
  tune_waited address kind notch (Some p) hz rs start w =
      let mux : List Step = updates (mux_updates notch (range_of hz) ++ pll_updates p) in
      let status : List Step = status_steps address rs in
      let fix : List Step = updates (repair_updates kind p.number (get_or rs 4 0)) in
      let tries : List Step = tries_from address rs 10 0 in
      let opened : Trace = step in_list os Open start in
      let written : Trace = run in_list os mux opened in
      let probed : Trace = run in_list os status written in
      let mended : Trace = run in_list os fix probed in
      let split =
      run_app in_list os (mux ++ (status ++ (fix ++ tries))) (Close ∷ []) opened
      ∙ ap (λ (u : Trace). run in_list os (Close ∷ []) u)
      (run_app in_list os mux (status ++ (fix ++ tries)) opened ∙ run_app in_list os status (fix ++ tries) written ∙ run_app in_list os fix tries probed) in
      let first = quiet_waiting 0 mux opened (quiet_updates (mux_updates notch (range_of hz) ++ pll_updates p)) (quiet_waiting 0 (Open ∷ []) start refl w) in
      let second = quiet_waiting 0 fix probed (quiet_updates (repair_updates kind p.number (get_or rs 4 0))) (quiet_waiting 0 status written refl first) in
      subst (λ (u : Trace). Waited 10 u.log) (sym split)
      (quiet_waited 10 (Close ∷ []) (run in_list os tries mended) refl (tries_waited address rs 10 0 mended second))

  quiet_rest : (plan : Option Plan) (inverted : Bool) → every quiet (ddc_part plan inverted) ≡ true
  unfolding every
  quiet_rest None inverted = refl
  quiet_rest (Some p) inverted = quiet_ddc inverted

  hop_waited : (kind : Kind) (address : ℕ) (at : board.Plan) (plan : Option Plan) (rs : List ℕ) (start : Trace) → Waiting 0 start.log
      → Waited 10 (run in_list os (hop_steps kind address at plan rs) start).log
  hop_waited kind address at plan rs start w =
      let left : List ℕ = drop (path_replies kind at.path) rs in
      let pre : List Step = path_part kind at.path rs in
      let ss : List Step = tune_steps address kind at.notch plan at.hz left in
      let post : List Step = ddc_part plan at.inverted in
      let u : Trace = run in_list os pre start in
      let v : Trace = run in_list os ss u in
      let split = run_app in_list os pre (ss ++ post) start ∙ run_app in_list os ss post u in
      subst (λ (x : Trace). Waited 10 x.log) (sym split)
      (quiet_waited 10 post v (quiet_rest plan at.inverted)
      (tune_waited address kind at.notch plan at.hz left u (quiet_waiting 0 pre start (quiet_path kind at.path rs) w)))

none_yet : Waiting 0 []
unfolding tries_in locked_in bit_last
none_yet = record { few = omega arith; none = refl; last = refl }

pub nothing_waited : Waited 10 []
nothing_waited = over 0 10 [] (omega arith) (waited 0 [] none_yet)

-- of every tuning and board-level tune, whatever its outcomes, replies and room: at most ten tries, and none after one with the lock bit
pub tune_ten : (hz : ℕ) (rs os room : List ℕ) (t : Tuner) → Waited 10 (entries (call (Tuned (Tune hz rs)) os room) t)
unfolding trace
tune_ten hz rs os room t = go (eqb (refusal_of t (hz_refusal hz t.ifreq) 53 35 (length room) (length os) (length rs)) 0)
  where
    go : (b : Bool) → Waited 10 (cond b (trace os (tune_of t (plan_for t hz) hz rs) t.chip).log [])
    go true = tune_waited os t.chip.address t.kind t.notch (plan_for t hz) hz rs (line t.chip [] 0 Going false) none_yet
    go false = nothing_waited

pub hop_ten : (hz : ℕ) (table rs : List ℕ) (d : Driver) (os room : List ℕ) (t : Tuner) → Waited 10 (entries (call (BoardTune hz table rs d) os room) t)
unfolding trace
hop_ten hz table rs d os room t =
    go (eqb (refusal_with (sound t && sound_driver d) (hop_refusal at t.ifreq) 64 38 (length room) (length os) (length rs)) 0)
  where
    at : Planned
    at = plan_by table hz

    go : (b : Bool) → Waited 10 (cond b (trace os (hop_steps t.kind t.chip.address at.plan (plan_for t at.plan.hz) rs) t.chip).log [])
    go true = hop_waited os t.kind t.chip.address at.plan (plan_for t at.plan.hz) rs (line t.chip [] 0 Going false) none_yet
    go false = nothing_waited
