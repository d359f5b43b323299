-- No call leaves the repeater open, whatever fails (`shut`), and none closes one that is not open (`only_open`): so behind a failing step the closing is there
-- exactly where the repeater is open (`closing_there`, `closing_not_there`).
-- Assumes nothing.
use Prim.Native.Nat.{ℕ, zero, suc, ◌+◌}
use mathlib.Core.Path.{◌≡◌, refl, sym, ap, subst, ◌∙◌}
use mathlib.Core.Bool.{Bool, true, false, not, ◌&&◌, ◌||◌, cond, false≢true, true≢false}
use mathlib.Core.List.{List, [], ◌∷◌, ◌++◌, map}
use lib.Dec.{eqb, leb}
use lib.ListN.{get_or, drop, length, take}
use lib.Seq.{append_snoc}
use Rattle.std.specs.Prelude.{Option, Some, None}
use Rattle.transcript.specs.declared.Entry.{Entry}
use Rattle.attempts.specs.Attempts.{done, first_of}
use Rattle.board.specs.declared.Path.{Path}
use Rattle.board.specs.declared.Plan as board-plan
use Rattle.board.specs.Numbers.{path_of}
use Rattle.bands.specs.Tables.{plan_by}
use Rattle.boards.specs.Hops.{ddc_part, hop_steps, path_part, path_replies}
use Rattle.refusals.specs.declared.Answer.{Answer}
use Rattle.chip.specs.declared.Chip.{Chip}
use Rattle.chip.specs.declared.Update.{Update}
use Rattle.chip.specs.declared.Progress.TheVariants.{Going}
use Rattle.chip.specs.Calls.{call_entries}
use Rattle.chip.specs.Courses.{Course, steps_of}
use Rattle.chip.specs.Courses.Course.{Still}
use Rattle.chip.specs.Entries.{repeater, wait}
use Rattle.chip.specs.Steps.{Step, Trace, acts, while_open, chunk_step, chunk_table, emit, every, in_list, line, ok_for, run, step, taken, trace, tuner_write, update_step, updates}
use Rattle.chip.specs.Steps.Step.{Open, Close, Send, Mask, Plain}
use Rattle.chip.proofs.Laws.{active, and_right, idle}
use Rattle.history.specs.Programs.{fine}
use Rattle.history.specs.Histories.{Closing, Cut, is_closing}
use Rattle.history.specs.Histories.Closing.{nothing, closed}
use Rattle.history.proofs.Fine.{every_append}
use Rattle.history.proofs.Runs.{run_keeps}
use Rattle.history.proofs.Tracked.{aside_of}
use Rattle.demod.specs.Calls.Order.{Baseband, LowIf, ZeroIf, Reset, Direct as DirectWrite, Start, Stop, IfXtal, RateXtal}
use Rattle.demod.specs.Programs.{ddc_steps, direct_steps, fir_steps, if_steps, init_steps as demodSteps, low_if_steps, mode_steps, power_steps, rate_steps, reset_steps, start_steps, stop_steps, upward, zero_if_steps}
use Rattle.device.specs.Accesses.{access_step}
use Rattle.device.specs.Calls.{no_chip}
use Rattle.device.specs.Gpio.{bit_steps, output_steps}
use Rattle.device.specs.Gpio.Order.{Output, Bit}
use Rattle.fir.specs.Packing.{pack_of}
use Rattle.sequences.specs.Asides.{Aside, Other, aside_asked, aside_entries, aside_given, aside_row}
use Rattle.sequences.specs.Asides.Other.{Pin, Demod}
use Rattle.sequences.proofs.Asides.{aside_stepping}
use Rattle.driver.specs.Calls.{Both, board_row}
use Rattle.driver.specs.Programs.{demod_setup, board_path_steps, filter_steps, if_for, sample_rate_steps}
use Rattle.driver.specs.Record.{xtal_by, xtal_of}
use Rattle.gain.specs.Steps.{chosen_of, clamped}
use Rattle.pll.specs.declared.Kind.{Kind}
use Rattle.pll.specs.declared.Kind.TheVariants.{R820T, R828D}
use Rattle.std.specs.Prelude.{Option, Some, None}
use Rattle.pll.specs.declared.Plan.{Plan}
use Rattle.r82xx.specs.declared.Tuner.{Tuner}
use Rattle.r82xx.specs.Calls.{plan_for}
use Rattle.r82xx.specs.Orders.{bracket, gain_row, path_row}
use Rattle.r82xx.specs.Orders.Order.{Initialize, Reload, Bandwidth, IfFreq, Gain, GainIndex, InputPath, Tune, Notch, GainTold, IfTold, TableTold}
use Rattle.tuning.specs.Mux.{mux_updates, pll_updates, range_of}
use Rattle.tuning.specs.Tries.{after_try, again, locked, locks_at, repair_updates, status_steps, tries_from, try_read}
use Rattle.tuning.specs.Program.{inner_steps, pll_steps, tune_steps}
use Rattle.writes.specs.Lists.{bandwidth_updates, gain_updates, if_updates, init_array, init_updates, path_updates}
use Rattle.writes.specs.Programs.{init_steps, send_all}
use Rattle.sequences.specs.Calls.{Call, Order, asked, entries, given, row_of, sound_for, tuner_part, uncut}
use Rattle.sequences.specs.Calls.Order.{Tuned, SampleRate, Correction, BoardPath, BoardTune}
use Rattle.sequences.specs.Sequences.{Sequence}
use Rattle.sequences.proofs.Views.{Proper, asked_steps, proper}
use Rattle.sequences.proofs.Views.Proper.{resting, stepping}
use Rattle.sequences.proofs.Demand.{small}
use Rattle.sequences.specs.Repeater.{closes_open, opened_by, opened_from, opened_in}

-- ---- entries

opened_snoc : (opened : Bool) (es : List Entry) (e : Entry) → opened_from opened (es ++ (e ∷ [])) ≡ opened_by e (opened_from opened es)
unfolding opened_from
opened_snoc opened [] e = refl
opened_snoc opened (x ∷ es) e = opened_snoc (opened_by x opened) es e

-- the run's own state is what its entries tell
module _ (os : List ℕ) where
  told_taken : (s : Step) (t : Trace) → fine s ≡ true → acts s t.progress t.opened ≡ true → t.opened ≡ opened_in t.log
      → (taken in_list os (ok_for os t.count s) s t).opened ≡ opened_in (taken in_list os (ok_for os t.count s) s t).log
  told_taken Open t f a h = opened (ok_for os t.count Open) ∙ sym (opened_snoc false t.log (repeater 1 (ok_for os t.count Open)))
    where
      opened : (ok : Bool) → ok ≡ opened_by (repeater 1 ok) (opened_in t.log)
      opened true = refl
      opened false = refl
  told_taken Close t f a h = sym (opened_snoc false t.log (repeater 0 (ok_for os t.count Close)))
  told_taken (Send n bytes) t f a h = h ∙ sym (opened_snoc false t.log (emit (Send n bytes) t.chip (ok_for os t.count (Send n bytes))))
  told_taken (Mask r v m) t f a h = h ∙ sym (opened_snoc false t.log (emit (Mask r v m) t.chip (ok_for os t.count (Mask r v m))))
  told_taken (Plain e) t f a h =
      let ok : Bool = ok_for os t.count (Plain e) in
      let other : eqb e.kind 1 ≡ false = (aside_of e f).kind in
      h
      ∙ sym (opened_snoc false t.log (emit (Plain e) t.chip ok)
      ∙ ap (λ (b : Bool). cond b (eqb (first_of (emit (Plain e) t.chip ok)) 1 && done (emit (Plain e) t.chip ok)) (opened_in t.log)) other)

pub opened_trace : (os : List ℕ) (ss : List Step) (c : Chip) → every fine ss ≡ true → (trace os ss c).opened ≡ opened_in (trace os ss c).log
unfolding trace opened_from
opened_trace os ss c f = run_keeps os (λ (u : Trace). u.opened ≡ opened_in u.log) fine (told_taken os) ss (line c [] 0 Going false) f refl

-- a list of entries behind another
closes_append : (opened : Bool) (xs ys : List Entry) → closes_open opened (xs ++ ys) ≡ (closes_open opened xs && closes_open (opened_from opened xs) ys)
unfolding closes_open opened_from
closes_append opened [] ys = refl
closes_append opened (x ∷ xs) ys = go (not (is_closing x) || opened) (closes_append (opened_by x opened) xs ys)
  where
    go : (b : Bool) → closes_open (opened_by x opened) (xs ++ ys) ≡ (closes_open (opened_by x opened) xs && closes_open (opened_from (opened_by x opened) xs) ys)
        → (b && closes_open (opened_by x opened) (xs ++ ys)) ≡ ((b && closes_open (opened_by x opened) xs) && closes_open (opened_from (opened_by x opened) xs) ys)
    go true h = h
    go false h = refl

-- a run closes an open repeater alone
record Opened (t : Trace) : Type 0 where
  told : t.opened ≡ opened_in t.log
  only : closes_open false t.log ≡ true

module _ (os : List ℕ) where
  no_more : (t : Trace) (e : Entry) → is_closing e ≡ false → closes_open false t.log ≡ true → closes_open false (t.log ++ (e ∷ [])) ≡ true
  unfolding closes_open
  no_more t e n h = closes_append false t.log (e ∷ []) ∙ rw (h, n)

  one_more : (t : Trace) (e : Entry) → opened_in t.log ≡ true → closes_open false t.log ≡ true → closes_open false (t.log ++ (e ∷ [])) ≡ true
  unfolding closes_open
  one_more t e n h = closes_append false t.log (e ∷ []) ∙ rw (h, n) (go (not (is_closing e)))
    where
      go : (b : Bool) → ((b || true) && true) ≡ true
      go true = refl
      go false = refl

  opened_taken : (s : Step) (t : Trace) → fine s ≡ true → acts s t.progress t.opened ≡ true → Opened t → Opened (taken in_list os (ok_for os t.count s) s t)
  opened_taken s t f a o = record { told = told_taken os s t f a o.told; only = by s f a }
    where
      by : (s : Step) → fine s ≡ true → acts s t.progress t.opened ≡ true → closes_open false (t.log ++ (emit s t.chip (ok_for os t.count s) ∷ [])) ≡ true
      by Open g b = no_more t (emit Open t.chip (ok_for os t.count Open)) refl o.only
      by Close g b = one_more t (emit Close t.chip (ok_for os t.count Close)) (sym o.told ∙ b) o.only
      by (Send n bytes) g b = no_more t (emit (Send n bytes) t.chip (ok_for os t.count (Send n bytes))) refl o.only
      by (Mask r v m) g b = no_more t (emit (Mask r v m) t.chip (ok_for os t.count (Mask r v m))) refl o.only
      by (Plain e) g b =
          no_more t (emit (Plain e) t.chip (ok_for os t.count (Plain e)))
          (ap (λ (c : Bool). c && eqb (first_of (emit (Plain e) t.chip (ok_for os t.count (Plain e)))) 0) (aside_of e g).kind) o.only

pub only_trace : (os : List ℕ) (ss : List Step) (c : Chip) → every fine ss ≡ true → closes_open false (trace os ss c).log ≡ true
unfolding trace opened_from closes_open
only_trace os ss c f = (run_keeps os Opened fine (opened_taken os) ss (line c [] 0 Going false) f (record { told = refl; only = refl })).only

-- ---- programs

-- a program closes what it opens: by whether the repeater may be open before it
unfoldable pub shuts : Bool → List Step → Bool
shuts opened [] = not opened
shuts opened (Open ∷ ss) = shuts true ss
shuts opened (Close ∷ ss) = shuts false ss
shuts opened (Send n bytes ∷ ss) = shuts opened ss
shuts opened (Mask r v m ∷ ss) = shuts opened ss
shuts opened (Plain e ∷ ss) = shuts opened ss

-- then it ends shut, whatever fails: an open repeater is closed by the closing that stands ahead
module _ (os : List ℕ) where
  kept_step : (s : Step) (ss : List Step) (opened : Bool) (t : Trace) → ((u : Trace) → (u.opened ≡ true → opened ≡ true) → (run in_list os ss u).opened ≡ false)
      → ((taken in_list os (ok_for os t.count s) s t).opened ≡ t.opened) → (t.opened ≡ true → opened ≡ true) → (run in_list os ss (step in_list os s t)).opened ≡ false
  kept_step s ss opened t rest same h = go (acts s t.progress t.opened) refl
    where
      go : (a : Bool) → acts s t.progress t.opened ≡ a → (run in_list os ss (step in_list os s t)).opened ≡ false
      go true e =
          subst (λ (u : Trace). (run in_list os ss u).opened ≡ false) (active in_list os s t e) (rest (taken in_list os (ok_for os t.count s) s t) (λ q. h (sym same ∙ q)))
      go false e = subst (λ (u : Trace). (run in_list os ss u).opened ≡ false) (idle in_list os s t e) (rest t h)

  close_step : (ss : List Step) (t : Trace) → ((u : Trace) → (u.opened ≡ true → false ≡ true) → (run in_list os ss u).opened ≡ false)
      → (run in_list os ss (step in_list os Close t)).opened ≡ false
  close_step ss t rest = go t.opened refl
    where
      go : (b : Bool) → t.opened ≡ b → (run in_list os ss (step in_list os Close t)).opened ≡ false
      go true e =
          subst (λ (u : Trace). (run in_list os ss u).opened ≡ false) (active in_list os Close t e) (rest (taken in_list os (ok_for os t.count Close) Close t) (λ q. q))
      go false e = subst (λ (u : Trace). (run in_list os ss u).opened ≡ false) (idle in_list os Close t e) (rest t (λ q. sym e ∙ q))

  shut_run : (ss : List Step) (opened : Bool) (t : Trace) → shuts opened ss ≡ true → (t.opened ≡ true → opened ≡ true) → (run in_list os ss t).opened ≡ false
  unfolding run shuts
  shut_run [] true t p h = absurd (false≢true p)
  shut_run [] false t p h = go t.opened h
    where
      go : (b : Bool) → (b ≡ true → false ≡ true) → b ≡ false
      go true g = absurd (false≢true (g refl))
      go false g = refl
  shut_run (Open ∷ ss) opened t p h = shut_run ss true (step in_list os Open t) p (λ q. refl)
  shut_run (Close ∷ ss) opened t p h = close_step ss t (λ u. shut_run ss false u p)
  shut_run (Send n bytes ∷ ss) opened t p h = kept_step (Send n bytes) ss opened t (λ u. shut_run ss opened u p) refl h
  shut_run (Mask r v m ∷ ss) opened t p h = kept_step (Mask r v m) ss opened t (λ u. shut_run ss opened u p) refl h
  shut_run (Plain e ∷ ss) opened t p h = kept_step (Plain e) ss opened t (λ u. shut_run ss opened u p) refl h

pub shut_trace : (os : List ℕ) (ss : List Step) (c : Chip) → shuts false ss ≡ true → (trace os ss c).opened ≡ false
unfolding trace
shut_trace os ss c p = shut_run os ss false (line c [] 0 Going false) p (λ q. q)

-- ---- programs put together

pub shuts_append : (opened : Bool) (xs ys : List Step) → shuts opened xs ≡ true → shuts false ys ≡ true → shuts opened (xs ++ ys) ≡ true
unfolding shuts
shuts_append true [] ys p q = absurd (false≢true p)
shuts_append false [] ys p q = q
shuts_append opened (Open ∷ xs) ys p q = shuts_append true xs ys p q
shuts_append opened (Close ∷ xs) ys p q = shuts_append false xs ys p q
shuts_append opened (Send n bytes ∷ xs) ys p q = shuts_append opened xs ys p q
shuts_append opened (Mask r v m ∷ xs) ys p q = shuts_append opened xs ys p q
shuts_append opened (Plain e ∷ xs) ys p q = shuts_append opened xs ys p q

-- a step that is no repeater's
abbrev level : Step → Bool
level Open = false
level Close = false
level (Send n bytes) = true
level (Mask r v m) = true
level (Plain e) = true

level_run : (opened : Bool) (xs ys : List Step) → every level xs ≡ true → shuts opened ys ≡ true → shuts opened (xs ++ ys) ≡ true
unfolding shuts every
level_run opened [] ys p q = q
level_run opened (Open ∷ xs) ys p q = absurd (false≢true p)
level_run opened (Close ∷ xs) ys p q = absurd (false≢true p)
level_run opened (Send n bytes ∷ xs) ys p q = level_run opened xs ys p q
level_run opened (Mask r v m ∷ xs) ys p q = level_run opened xs ys p q
level_run opened (Plain e ∷ xs) ys p q = level_run opened xs ys p q

shuts_behind : (ss : List Step) → every level ss ≡ true → shuts false (while_open ss) ≡ true
unfolding shuts
shuts_behind ss p = level_run true ss (Close ∷ []) p refl

level_map : {A : Type 0} (f : A → Step) → ((a : A) → level (f a) ≡ true) → (l : List A) → every level (map f l) ≡ true
unfolding every
level_map f h [] = refl
level_map f h (a ∷ l) = rw (h a) (level_map f h l)

level_updates : (us : List Update) → every level (updates us) ≡ true
level_updates us = level_map update_step (λ u. refl) us

shuts_bracket : (us : List Update) → shuts false (while_open (updates us)) ≡ true
shuts_bracket us = shuts_behind (updates us) (level_updates us)

shuts_chunks : (bs : List ℕ) (from to : ℕ) → shuts false (tuner_write bs from to) ≡ true
shuts_chunks bs from to =
    shuts_behind (map (chunk_step bs) (drop from (take to chunk_table))) (level_map (chunk_step bs) (λ k. refl) (drop from (take to chunk_table)))

shuts_all : (bs : List ℕ) → shuts false (send_all bs) ≡ true
shuts_all bs = shuts_append false (tuner_write bs 0 3) (tuner_write bs 3 5) (shuts_chunks bs 0 3) (shuts_chunks bs 3 5)

shuts_init : shuts false init_steps ≡ true
shuts_init =
    shuts_append false (send_all init_array) (while_open (updates init_updates) ++ while_open (updates (if_updates 2_300_000))) (shuts_all init_array)
    (shuts_append false (while_open (updates init_updates)) (while_open (updates (if_updates 2_300_000))) (shuts_bracket init_updates) (shuts_bracket (if_updates 2_300_000)))

-- ---- a tuning

module _ (address : ℕ) (rs : List ℕ) where
  level_cond : (b : Bool) (xs ys : List Step) → every level xs ≡ true → every level ys ≡ true → every level (cond b xs ys) ≡ true
  level_cond true xs ys p q = p
  level_cond false xs ys p q = q

  level_after : (i : ℕ) → every level (after_try i) ≡ true
  unfolding every
  level_after i = every_append level (updates (again i)) (Plain (wait 1) ∷ []) (level_updates (again i)) refl

  level_tries : (left i : ℕ) → every level (tries_from address rs left i) ≡ true
  unfolding tries_from every
  level_tries zero i = refl
  level_tries (suc left) i =
      every_append level (try_read address rs i) (cond (locks_at rs i) (updates locked) (after_try i ++ tries_from address rs left (i + 1))) refl
      (level_cond (locks_at rs i) (updates locked) (after_try i ++ tries_from address rs left (i + 1)) (level_updates locked)
      (every_append level (after_try i) (tries_from address rs left (i + 1)) (level_after i) (level_tries left (i + 1))))

  level_status : every level (status_steps address rs) ≡ true
  unfolding every
  level_status = refl

  level_inner : (kind : Kind) (notch : Bool) (plan : Option Plan) (hz : ℕ) → every level (inner_steps address kind notch plan hz rs) ≡ true
  unfolding inner_steps
  level_inner kind notch None hz = level_updates (mux_updates notch (range_of hz))
  level_inner kind notch (Some p) hz =
      every_append level (updates (mux_updates notch (range_of hz) ++ pll_updates p)) (pll_steps address kind p.number rs) (level_updates (mux_updates notch (range_of hz) ++ pll_updates p))
      (every_append level (status_steps address rs) (updates (repair_updates kind p.number (get_or rs 4 0)) ++ tries_from address rs 10 0) level_status
      (every_append level (updates (repair_updates kind p.number (get_or rs 4 0))) (tries_from address rs 10 0) (level_updates (repair_updates kind p.number (get_or rs 4 0))) (level_tries 10 0)))

  shuts_tune : (kind : Kind) (notch : Bool) (plan : Option Plan) (hz : ℕ) → shuts false (tune_steps address kind notch plan hz rs) ≡ true
  shuts_tune kind notch plan hz = shuts_behind (inner_steps address kind notch plan hz rs) (level_inner kind notch plan hz)

-- ---- GPIO and the demodulator: no repeater at all

-- a step of theirs that is none of the repeater's
shuts_apart : (ss : List Step) → every level ss ≡ true → shuts false ss ≡ true
unfolding shuts every
shuts_apart [] p = refl
shuts_apart (Open ∷ ss) p = absurd (false≢true p)
shuts_apart (Close ∷ ss) p = absurd (false≢true p)
shuts_apart (Send n bytes ∷ ss) p = shuts_apart ss p
shuts_apart (Mask r v m ∷ ss) p = shuts_apart ss p
shuts_apart (Plain e ∷ ss) p = shuts_apart ss p

shuts_board : (kind : Kind) (path : Path) (rs : List ℕ) → shuts false (board_path_steps kind path rs) ≡ true
unfolding output_steps bit_steps access_step shuts
shuts_board R820T path rs = refl
shuts_board R828D path rs = shuts_bracket (path_updates path)

shuts_rate : (hz rate xtal : ℕ) (inverted : Bool) → shuts false (sample_rate_steps hz rate xtal inverted) ≡ true
unfolding reset_steps rate_steps if_steps ddc_steps access_step shuts
shuts_rate hz rate xtal inverted =
    shuts_append false (filter_steps hz rate) (demod_setup hz rate xtal ++ ddc_steps inverted)
    (shuts_append false (while_open (updates (if_updates hz))) (while_open (updates (bandwidth_updates rate))) (shuts_bracket (if_updates hz)) (shuts_bracket (bandwidth_updates rate)))
    refl

shuts_path_part : (kind : Kind) (r : Option Path) (rs : List ℕ) → shuts false (path_part kind r rs) ≡ true
unfolding shuts
shuts_path_part R820T r rs = refl
shuts_path_part R828D None rs = refl
shuts_path_part R828D (Some path) rs = shuts_board R828D path rs

shuts_ddc : (plan : Option Plan) (inverted : Bool) → shuts false (ddc_part plan inverted) ≡ true
unfolding shuts ddc_steps access_step
shuts_ddc None inverted = refl
shuts_ddc (Some p) inverted = refl

shuts_hop : (kind : Kind) (address : ℕ) (p : board-plan.Plan) (plan : Option Plan) (rs : List ℕ) → shuts false (hop_steps kind address p plan rs) ≡ true
shuts_hop kind address p plan rs =
    let deeper : List ℕ = drop (path_replies kind p.path) rs in
    shuts_append false (path_part kind p.path rs) (tune_steps address kind p.notch plan p.hz deeper ++ ddc_part plan p.inverted) (shuts_path_part kind p.path rs)
    (shuts_append false (tune_steps address kind p.notch plan p.hz deeper) (ddc_part plan p.inverted) (shuts_tune address deeper kind p.notch plan p.hz) (shuts_ddc plan p.inverted))

-- ---- each row

shuts_none : shuts false [] ≡ true
unfolding shuts
shuts_none = refl

path_shuts : (p : Option Path) (kind : Kind) (t : Tuner) → shuts false (steps_of (path_row p kind t)) ≡ true
unfolding bracket
path_shuts None kind t = shuts_none
path_shuts (Some path) R820T t = shuts_none
path_shuts (Some path) R828D t = shuts_bracket (path_updates path)

board_shuts : (p : Option Path) (rs : List ℕ) (t : Tuner) → shuts false (steps_of (board_row p rs t)) ≡ true
board_shuts None rs t = shuts_none
board_shuts (Some path) rs t = shuts_board t.kind path rs

still_shuts : (b : Bool) (u v : Both) (x y : Answer) → shuts false (steps_of (tuner_part (cond b (Still u x) (Still v y)))) ≡ true
still_shuts true u v x y = shuts_none
still_shuts false u v x y = shuts_none

pub row_shuts : (o : Order) (t : Tuner) → shuts false (steps_of (row_of o t)) ≡ true
unfolding bracket gain_row
row_shuts (Tuned Initialize) t = shuts_init
row_shuts (Tuned Reload) t = shuts_all t.chip.shadow
row_shuts (Tuned (Bandwidth hz)) t = shuts_bracket (bandwidth_updates hz)
row_shuts (Tuned (IfFreq hz)) t = shuts_bracket (if_updates hz)
row_shuts (Tuned (Gain db)) t = shuts_bracket (gain_updates (chosen_of db))
row_shuts (Tuned (GainIndex k)) t = shuts_bracket (gain_updates (clamped k))
row_shuts (Tuned (InputPath path)) t = path_shuts (path_of path) t.kind t
row_shuts (Tuned (Tune hz rs)) t = shuts_tune t.chip.address rs t.kind t.notch (plan_for t hz) hz
row_shuts (Tuned (Notch on)) t = shuts_none
row_shuts (Tuned GainTold) t = shuts_none
row_shuts (Tuned IfTold) t = shuts_none
row_shuts (Tuned TableTold) t = shuts_none
row_shuts (SampleRate rate table d) t = shuts_rate (if_for t.ifreq rate) rate (xtal_of d) (plan_by table d.frequency).plan.inverted
row_shuts (Correction ppm d) t = still_shuts (leb 1 (xtal_by t.nominal ppm) && leb 1 (xtal_by d.nominal ppm)) _ _ _ _
row_shuts (BoardPath path rs) t = board_shuts (path_of path) rs t
row_shuts (BoardTune hz table rs d) t = shuts_hop t.kind t.chip.address (plan_by table hz).plan (plan_for t (plan_by table hz).plan.hz) rs

-- ---- every call

-- an entry list of a program that is refused before any step is empty
call_shut : (number : ℕ) (os : List ℕ) (ss : List Step) (c : Chip) → every fine ss ≡ true → shuts false ss ≡ true → opened_in (call_entries number os ss c) ≡ false
unfolding opened_from
call_shut number os ss c f p = go (eqb number 0)
  where
    go : (b : Bool) → opened_in (cond b (trace os ss c).log []) ≡ false
    go true = sym (opened_trace os ss c f) ∙ shut_trace os ss c p
    go false = refl

no_fine : every fine [] ≡ true
unfolding every
no_fine = refl

call_only : (number : ℕ) (os : List ℕ) (ss : List Step) (c : Chip) → every fine ss ≡ true → closes_open false (call_entries number os ss c) ≡ true
unfolding closes_open
call_only number os ss c f = go (eqb number 0)
  where
    go : (b : Bool) → closes_open false (cond b (trace os ss c).log []) ≡ true
    go true = only_trace os ss c f
    go false = refl

shut_closing : (ok : Bool) → closes_open false (repeater 0 ok ∷ []) ≡ false
unfolding closes_open
shut_closing ok = refl

proper_fine : (t : Tuner) {row : Course Tuner} → Proper t row → every fine (steps_of row) ≡ true
proper_fine t (resting next answer a b) = no_fine
proper_fine t (stepping argument n m rs whole ss keep a b c) = b

module _ (t : Tuner) (es : List Entry) (s : Sequence t es) (k : Call) (g : given k.order t ≡ true) where
  pub same_steps : steps_of (row_of k.order t) ≡ (asked k t).steps
  same_steps = sym (asked_steps (sound_for k.order t) (row_of k.order t) (length k.outcomes) (length k.room))

  pub fine_steps : every fine (asked k t).steps ≡ true
  fine_steps = subst (λ (ss : List Step). every fine ss ≡ true) same_steps (proper_fine t (proper t k.order g (small t es s)))

  -- no call leaves the repeater open, whatever the outcomes
  pub shut : opened_in (entries k t) ≡ false
  shut =
      call_shut (asked k t).number k.outcomes (asked k t).steps t.chip fine_steps
      (subst (λ (ss : List Step). shuts false ss ≡ true) same_steps (row_shuts k.order t))

  -- and none closes one that is not open: "Closing a repeater whose opening failed" is shut out
  pub only_open : closes_open false (entries k t) ≡ true
  only_open = call_only (asked k t).number k.outcomes (asked k t).steps t.chip fine_steps

  -- "Where a step fails the rest of the call is not taken, but an open repeater (its opening done) is closed (one entry)": told open by the entries up to the
  -- failing one, it is closed by the entry behind it
  module _ (i : ℕ) (c : Cut i (entries k t) (entries (uncut i k) t)) where
    pub closing_there : opened_in (c.earlier ++ (c.last ∷ [])) ≡ true → (ok : Bool) × (c.closing ≡ repeater 0 ok ∷ [])
    closing_there h = go c.closing c.closes refl
      where
        go : (l : List Entry) → Closing l → c.closing ≡ l → (ok : Bool) × (c.closing ≡ repeater 0 ok ∷ [])
        go l nothing e =
            absurd (true≢false (sym h ∙ ap (λ (x : List Entry). opened_in (c.earlier ++ (c.last ∷ x))) (sym e) ∙ ap opened_in (sym c.cuts) ∙ shut))
        go l (closed ok) e = (ok, e)

    -- told shut, there is none
    pub closing_not_there : opened_in (c.earlier ++ (c.last ∷ [])) ≡ false → c.closing ≡ []
    closing_not_there h = go c.closing c.closes refl
      where
        early : List Entry
        early = c.earlier ++ (c.last ∷ [])

        behind_it : closes_open (opened_in early) c.closing ≡ true
        behind_it =
            and_right (closes_open false early) (closes_open (opened_in early) c.closing)
            (sym (closes_append false early c.closing) ∙ ap (closes_open false) (append_snoc c.earlier c.last c.closing ∙ sym c.cuts) ∙ only_open)

        go : (l : List Entry) → Closing l → c.closing ≡ l → c.closing ≡ []
        go l nothing e = e
        go l (closed ok) e =
            absurd (false≢true (sym (shut_closing ok) ∙ ap (λ (x : List Entry). closes_open false x) (sym e) ∙ ap (λ (b : Bool). closes_open b c.closing) (sym h) ∙ behind_it))

-- nor do those that take no record: they have no repeater's step at all
aside_shuts : (o : Other) → shuts false (steps_of (aside_row o)) ≡ true
unfolding shuts access_step output_steps bit_steps demodSteps power_steps upward fir_steps pack_of mode_steps low_if_steps zero_if_steps reset_steps direct_steps start_steps stop_steps if_steps rate_steps
aside_shuts (Pin (Output pin rs)) = refl
aside_shuts (Pin (Bit pin value rs)) = refl
aside_shuts (Demod Baseband) = refl
aside_shuts (Demod LowIf) = refl
aside_shuts (Demod ZeroIf) = refl
aside_shuts (Demod Reset) = refl
aside_shuts (Demod (DirectWrite page register value)) = refl
aside_shuts (Demod Start) = refl
aside_shuts (Demod Stop) = refl
aside_shuts (Demod (IfXtal hz xtal)) = refl
aside_shuts (Demod (RateXtal rate xtal)) = refl

pub aside_shut : (a : Aside) → aside_given a.other ≡ true → opened_in (aside_entries a) ≡ false
aside_shut a g =
    let same : (aside_asked a).steps ≡ steps_of (aside_row a.other) = asked_steps true (aside_row a.other) (length a.outcomes) (length a.room) in
    call_shut (aside_asked a).number a.outcomes (aside_asked a).steps no_chip (aside_stepping a g).good (subst (λ (ss : List Step). shuts false ss ≡ true) (sym same) (aside_shuts a.other))
