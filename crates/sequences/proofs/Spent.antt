-- No run of a call takes more replies than it asks for, whatever the outcomes and the replies. Assumes nothing.
use Prim.Native.Nat.{ℕ, zero, suc, ◌+◌, ◌*◌, ◌≤◌}
use mathlib.Core.Path.{◌≡◌, refl, ap, subst, ◌∙◌}
use mathlib.Core.Bool.{Bool, true, false, ◌&&◌, cond}
use mathlib.Core.List.{List, [], ◌∷◌, ◌++◌, map}
use native.Mathlib.Omega.{arith}
use lib.Dec.{eqb, leb}
use lib.ListN.{get_or, drop, length, replicate, take}
use Rattle.std.specs.Prelude.{Option, Some, None}
use Rattle.transcript.specs.declared.Entry.{Entry}
use Rattle.board.specs.declared.Path.{Path}
use Rattle.board.specs.declared.Plan as board-plan
use Rattle.board.specs.Numbers.{path_of}
use Rattle.bands.specs.Tables.{ascending, band_of, bands_in, plan_at, plan_by, plan_in, table_ok}
use Rattle.boards.specs.Hops.{ddc_part, hop_steps, path_part, path_replies}
use Rattle.refusals.specs.declared.Answer.{Answer}
use Rattle.chip.specs.declared.Chip.{Chip}
use Rattle.chip.specs.declared.Update.{Update}
use Rattle.chip.specs.declared.Progress.TheVariants.{Going}
use Rattle.chip.specs.Calls.{call_entries, too_short}
use Rattle.chip.specs.Courses.{steps_of}
use Rattle.chip.specs.Courses.Course.{Still}
use Rattle.chip.specs.Entries.{wait}
use Rattle.chip.specs.Steps.{Step, Trace, acts, while_open, chunk_step, chunk_table, emit, in_list, line, ok_for, run, step, trace, tuner_write, update_step, updates}
use Rattle.chip.specs.Steps.Step.{Open, Close, Send, Mask, Plain}
use Rattle.chip.proofs.Laws.{active, idle}
use Rattle.demod.specs.Calls.Order.{Baseband, LowIf, ZeroIf, Reset, Direct as DirectWrite, Start, Stop, IfXtal, RateXtal}
use Rattle.demod.specs.Programs.{ddc_steps, direct_steps, fir_steps, if_steps, init_steps as demodSteps, low_if_steps, mode_steps, power_steps, rate_steps, reset_steps, start_steps, stop_steps, upward, zero_if_steps}
use Rattle.device.specs.Accesses.{access_step}
use Rattle.device.specs.Calls.{no_chip}
use Rattle.device.specs.Gpio.{bit_steps, output_steps}
use Rattle.device.specs.Gpio.Order.{Output, Bit}
use Rattle.driver.specs.Calls.{Both, board_row}
use Rattle.driver.specs.Programs.{demod_setup, board_path_steps, filter_steps, if_for, level_for, sample_rate_steps, tuner_path}
use Rattle.driver.specs.Record.{xtal_by, xtal_of}
use Rattle.fir.specs.Packing.{pack_of}
use Rattle.gain.specs.Steps.{chosen_of, clamped}
use Rattle.pll.specs.declared.Kind.{Kind}
use Rattle.pll.specs.declared.Kind.TheVariants.{R820T, R828D}
use Rattle.std.specs.Prelude.{Option, Some, None}
use Rattle.pll.specs.declared.Plan.{Plan}
use Rattle.pll.specs.Divide.{first_mixer, in_vco}
use Rattle.pll.specs.Fraction.{turn_of, turns_of}
use Rattle.pll.specs.Plan.{plan_of as pllOf, plan_with}
use Rattle.pll.specs.Setting.{setting_of}
use Rattle.reference.specs.Correct.{corrected_of}
use Rattle.status.specs.Reversal.{reversed}
use Rattle.wire.specs.Bytes.{le_value}
use Rattle.r82xx.specs.declared.Tuner.{Tuner}
use Rattle.r82xx.specs.Calls.{plan_for}
use Rattle.r82xx.specs.Orders.{bracket, gain_row, path_row}
use Rattle.r82xx.specs.Orders.Order.{Initialize, Reload, Bandwidth, IfFreq, Gain, GainIndex, InputPath, Tune, Notch, GainTold, IfTold, TableTold}
use Rattle.tuning.specs.Mux.{mux_updates, pll_updates, range_of}
use Rattle.tuning.specs.Tries.{after_try, again, locked, locks_at, repair_updates, status_steps, tries_from, try_read}
use Rattle.tuning.specs.Program.{inner_steps, pll_steps, tune_steps}
use Rattle.writes.specs.Lists.{bandwidth_updates, gain_updates, if_updates, init_array, init_updates, path_updates}
use Rattle.writes.specs.Programs.{init_steps, send_all}
use Rattle.sequences.specs.Asides.{Aside, Other, aside_asked, aside_entries, aside_row}
use Rattle.sequences.specs.Asides.Other.{Pin, Demod}
use Rattle.sequences.specs.Calls.{Call, Order, asked, entries, row_of, sound_for, tuner_part}
use Rattle.sequences.specs.Calls.Order.{Tuned, SampleRate, Correction, BoardPath, BoardTune}
use Rattle.sequences.specs.Spent.{replies_asked, replies_for, spent_in}
use Rattle.sequences.proofs.Views.{asked_steps}
use Rattle.sequences.proofs.Most.{fresh, hop, lent}

-- ---- a run

spent_append : (xs ys : List Entry) → spent_in (xs ++ ys) ≡ spent_in xs + spent_in ys
unfolding spent_in
spent_append [] ys = omega arith
spent_append (e ∷ xs) ys = omega (arith, spent_append xs ys)

-- the replies of a program's reads
abbrev of_step : Step → ℕ
of_step Open = 0
of_step Close = 0
of_step (Send n bytes) = 0
of_step (Mask r v m) = 0
of_step (Plain e) = replies_for e

unfoldable needed : List Step → ℕ
needed [] = 0
needed (s ∷ ss) = of_step s + needed ss

emit_spent : (s : Step) (c : Chip) (ok : Bool) → replies_for (emit s c ok) ≡ of_step s
emit_spent Open c ok = refl
emit_spent Close c ok = refl
emit_spent (Send n bytes) c ok = refl
emit_spent (Mask r v m) c ok = refl
emit_spent (Plain e) c ok = refl

module _ (os : List ℕ) where
  step_spent : (s : Step) (t : Trace) → spent_in (step in_list os s t).log ≤ spent_in t.log + of_step s
  unfolding spent_in
  step_spent s t = go (acts s t.progress t.opened) refl
    where
      one : Entry
      one = emit s t.chip (ok_for os t.count s)

      go : (a : Bool) → acts s t.progress t.opened ≡ a → spent_in (step in_list os s t).log ≤ spent_in t.log + of_step s
      go true e =
          subst (λ (u : Trace). spent_in u.log ≤ spent_in t.log + of_step s) (active in_list os s t e)
          (omega (arith, spent_append t.log (one ∷ []), emit_spent s t.chip (ok_for os t.count s)))
      go false e = subst (λ (u : Trace). spent_in u.log ≤ spent_in t.log + of_step s) (idle in_list os s t e) (omega arith)

  run_spent : (ss : List Step) (t : Trace) → spent_in (run in_list os ss t).log ≤ spent_in t.log + needed ss
  unfolding run needed
  run_spent [] t = omega arith
  run_spent (s ∷ ss) t = omega (arith, run_spent ss (step in_list os s t), step_spent s t)

call_spent : (number : ℕ) (os : List ℕ) (ss : List Step) (c : Chip) → spent_in (call_entries number os ss c) ≤ needed ss
unfolding trace spent_in
call_spent number os ss c = go (eqb number 0)
  where
    go : (b : Bool) → spent_in (cond b (trace os ss c).log []) ≤ needed ss
    go true = omega (arith, run_spent os ss (line c [] 0 Going false))
    go false = omega arith

-- ---- programs put together

needed_append : (xs ys : List Step) → needed (xs ++ ys) ≡ needed xs + needed ys
unfolding needed
needed_append [] ys = omega arith
needed_append (s ∷ xs) ys = omega (arith, needed_append xs ys)

needed_map : {A : Type 0} (f : A → Step) → ((a : A) → of_step (f a) ≡ 0) → (l : List A) → needed (map f l) ≡ 0
unfolding needed
needed_map f h [] = refl
needed_map f h (a ∷ l) = omega (arith, h a, needed_map f h l)

needed_updates : (us : List Update) → needed (updates us) ≡ 0
needed_updates us = needed_map update_step (λ u. refl) us

needed_behind : (ss : List Step) → needed (while_open ss) ≡ needed ss
unfolding needed
needed_behind ss = omega (arith, needed_append ss (Close ∷ []))

needed_bracket : (us : List Update) → needed (while_open (updates us)) ≡ 0
needed_bracket us = needed_behind (updates us) ∙ needed_updates us

needed_chunks : (bs : List ℕ) (from to : ℕ) → needed (tuner_write bs from to) ≡ 0
needed_chunks bs from to =
    needed_behind (map (chunk_step bs) (drop from (take to chunk_table))) ∙ needed_map (chunk_step bs) (λ k. refl) (drop from (take to chunk_table))

needed_all : (bs : List ℕ) → needed (send_all bs) ≡ 0
needed_all bs = omega (arith, needed_append (tuner_write bs 0 3) (tuner_write bs 3 5), needed_chunks bs 0 3, needed_chunks bs 3 5)

needed_init : needed init_steps ≡ 0
needed_init =
    omega (
      arith,
      needed_append (send_all init_array) (while_open (updates init_updates) ++ while_open (updates (if_updates 2_300_000))),
      needed_append (while_open (updates init_updates)) (while_open (updates (if_updates 2_300_000))),
      needed_all init_array,
      needed_bracket init_updates,
      needed_bracket (if_updates 2_300_000),
    )

-- ---- a tuning: five, then three per try

module _ (address : ℕ) (rs : List ℕ) where
  needed_after : (i : ℕ) → needed (after_try i) ≡ 0
  unfolding needed
  needed_after i = omega (arith, needed_append (updates (again i)) (Plain (wait 1) ∷ []), needed_updates (again i))

  needed_try : (i : ℕ) → needed (try_read address rs i) ≡ 3
  unfolding needed
  needed_try i = refl

  needed_cond : (b : Bool) (xs ys : List Step) (n : ℕ) → needed xs ≤ n → needed ys ≤ n → needed (cond b xs ys) ≤ n
  needed_cond true xs ys n p q = p
  needed_cond false xs ys n p q = q

  needed_tries : (left i : ℕ) → needed (tries_from address rs left i) ≤ 3 * left
  unfolding tries_from needed
  needed_tries zero i = omega arith
  needed_tries (suc left) i =
      let deeper : List Step = tries_from address rs left (i + 1) in
      let rest : needed (cond (locks_at rs i) (updates locked) (after_try i ++ deeper)) ≤ 3 * left =
      needed_cond (locks_at rs i) (updates locked) (after_try i ++ deeper) (3 * left) (omega (arith, needed_updates locked))
      (omega (arith, needed_append (after_try i) deeper, needed_after i, needed_tries left (i + 1))) in
      omega (arith, needed_append (try_read address rs i) (cond (locks_at rs i) (updates locked) (after_try i ++ deeper)), needed_try i, rest)

  needed_status : needed (status_steps address rs) ≡ 5
  unfolding needed
  needed_status = refl

  needed_inner : (kind : Kind) (notch : Bool) (plan : Option Plan) (hz : ℕ) → needed (inner_steps address kind notch plan hz rs) ≤ 35
  unfolding inner_steps
  needed_inner kind notch None hz = omega (arith, needed_updates (mux_updates notch (range_of hz)))
  needed_inner kind notch (Some p) hz =
      omega (
        arith,
        needed_append (updates (mux_updates notch (range_of hz) ++ pll_updates p)) (pll_steps address kind p.number rs),
        needed_updates (mux_updates notch (range_of hz) ++ pll_updates p),
        needed_append (status_steps address rs) (updates (repair_updates kind p.number (get_or rs 4 0)) ++ tries_from address rs 10 0),
        needed_status,
        needed_append (updates (repair_updates kind p.number (get_or rs 4 0))) (tries_from address rs 10 0),
        needed_updates (repair_updates kind p.number (get_or rs 4 0)),
        needed_tries 10 0,
      )

  needed_tune : (kind : Kind) (notch : Bool) (plan : Option Plan) (hz : ℕ) → needed (tune_steps address kind notch plan hz rs) ≤ 35
  needed_tune kind notch plan hz = omega (arith, needed_behind (inner_steps address kind notch plan hz rs), needed_inner kind notch plan hz)

-- ---- the driver's

needed_own : (kind : Kind) (path : Path) → needed (tuner_path kind path) ≡ 0
unfolding needed
needed_own R820T path = refl
needed_own R828D path = needed_bracket (path_updates path)

needed_gpio : (pin value a b c : ℕ) → (needed (output_steps pin a b) ≡ 2) × (needed (bit_steps pin value c) ≡ 1)
unfolding needed output_steps bit_steps access_step
needed_gpio pin value a b c = (refl, refl)

needed_board : (kind : Kind) (path : Path) (rs : List ℕ) → needed (board_path_steps kind path rs) ≡ 3
needed_board kind path rs =
    omega (
      arith,
      needed_append (output_steps 5 (get_or rs 0 0) (get_or rs 1 0)) (bit_steps 5 (level_for path) (get_or rs 2 0) ++ tuner_path kind path),
      needed_append (bit_steps 5 (level_for path) (get_or rs 2 0)) (tuner_path kind path),
      needed_gpio 5 (level_for path) (get_or rs 0 0) (get_or rs 1 0) (get_or rs 2 0),
      needed_own kind path,
    )

needed_demod_setup : (hz rate xtal : ℕ) (inverted : Bool) → needed (demod_setup hz rate xtal ++ ddc_steps inverted) ≡ 0
unfolding needed reset_steps rate_steps if_steps ddc_steps access_step
needed_demod_setup hz rate xtal inverted = refl

needed_rate : (hz rate xtal : ℕ) (inverted : Bool) → needed (sample_rate_steps hz rate xtal inverted) ≡ 0
needed_rate hz rate xtal inverted =
    omega (
      arith,
      needed_append (filter_steps hz rate) (demod_setup hz rate xtal ++ ddc_steps inverted),
      needed_append (while_open (updates (if_updates hz))) (while_open (updates (bandwidth_updates rate))),
      needed_bracket (if_updates hz),
      needed_bracket (bandwidth_updates rate),
      needed_demod_setup hz rate xtal inverted,
    )

needed_path_part : (kind : Kind) (r : Option Path) (rs : List ℕ) → needed (path_part kind r rs) ≤ 3
unfolding needed
needed_path_part R820T r rs = omega arith
needed_path_part R828D None rs = omega arith
needed_path_part R828D (Some path) rs = omega (arith, needed_board R828D path rs)

needed_ddc : (plan : Option Plan) (inverted : Bool) → needed (ddc_part plan inverted) ≡ 0
unfolding needed ddc_steps access_step
needed_ddc None inverted = refl
needed_ddc (Some p) inverted = refl

needed_hop : (kind : Kind) (address : ℕ) (p : board-plan.Plan) (plan : Option Plan) (rs : List ℕ) → needed (hop_steps kind address p plan rs) ≤ 38
needed_hop kind address p plan rs =
    let tail : List Step = tune_steps address kind p.notch plan p.hz (drop (path_replies kind p.path) rs) in
    omega (
      arith,
      needed_append (path_part kind p.path rs) (tail ++ ddc_part plan p.inverted),
      needed_append tail (ddc_part plan p.inverted),
      needed_path_part kind p.path rs,
      needed_tune address (drop (path_replies kind p.path) rs) kind p.notch plan p.hz,
      needed_ddc plan p.inverted,
    )

-- ---- each row

needed_none : needed [] ≡ 0
unfolding needed
needed_none = refl

path_needed : (p : Option Path) (kind : Kind) (t : Tuner) → needed (steps_of (path_row p kind t)) ≤ replies_asked (path_row p kind t)
unfolding bracket
path_needed None kind t = omega (arith, needed_none)
path_needed (Some path) R820T t = omega (arith, needed_none)
path_needed (Some path) R828D t = omega (arith, needed_bracket (path_updates path))

board_needed : (p : Option Path) (rs : List ℕ) (t : Tuner) → needed (steps_of (board_row p rs t)) ≤ replies_asked (board_row p rs t)
board_needed None rs t = omega (arith, needed_none)
board_needed (Some path) rs t = omega (arith, needed_board t.kind path rs)

still_needed : (b : Bool) (u v : Both) (x y : Answer) → needed (steps_of (tuner_part (cond b (Still u x) (Still v y)))) ≤ replies_asked (tuner_part (cond b (Still u x) (Still v y)))
still_needed true u v x y = omega (arith, needed_none)
still_needed false u v x y = omega (arith, needed_none)

row_needed : (o : Order) (t : Tuner) → needed (steps_of (row_of o t)) ≤ replies_asked (row_of o t)
unfolding bracket gain_row
row_needed (Tuned Initialize) t = omega (arith, needed_init)
row_needed (Tuned Reload) t = omega (arith, needed_all t.chip.shadow)
row_needed (Tuned (Bandwidth hz)) t = omega (arith, needed_bracket (bandwidth_updates hz))
row_needed (Tuned (IfFreq hz)) t = omega (arith, needed_bracket (if_updates hz))
row_needed (Tuned (Gain db)) t = omega (arith, needed_bracket (gain_updates (chosen_of db)))
row_needed (Tuned (GainIndex k)) t = omega (arith, needed_bracket (gain_updates (clamped k)))
row_needed (Tuned (InputPath path)) t = path_needed (path_of path) t.kind t
row_needed (Tuned (Tune hz rs)) t = needed_tune t.chip.address rs t.kind t.notch (plan_for t hz) hz
row_needed (Tuned (Notch on)) t = omega (arith, needed_none)
row_needed (Tuned GainTold) t = omega (arith, needed_none)
row_needed (Tuned IfTold) t = omega (arith, needed_none)
row_needed (Tuned TableTold) t = omega (arith, needed_none)
row_needed (SampleRate rate table d) t = omega (arith, needed_rate (if_for t.ifreq rate) rate (xtal_of d) (plan_by table d.frequency).plan.inverted)
row_needed (Correction ppm d) t = still_needed (leb 1 (xtal_by t.nominal ppm) && leb 1 (xtal_by d.nominal ppm)) _ _ _ _
row_needed (BoardPath path rs) t = board_needed (path_of path) rs t
row_needed (BoardTune hz table rs d) t = needed_hop t.kind t.chip.address (plan_by table hz).plan (plan_for t (plan_by table hz).plan.hz) rs

-- ---- every call, on any record

pub replies_most : (k : Call) (t : Tuner) → spent_in (entries k t) ≤ replies_asked (row_of k.order t)
replies_most k t =
    let same : (asked k t).steps ≡ steps_of (row_of k.order t) = asked_steps (sound_for k.order t) (row_of k.order t) (length k.outcomes) (length k.room) in
    omega (arith, call_spent (asked k t).number k.outcomes (asked k t).steps t.chip, ap needed same, row_needed k.order t)

-- ---- those that take no record: "GPIO direction 4, 2; GPIO bit 2, 1", the demodulator's none

aside_needed : (o : Other) → needed (steps_of (aside_row o)) ≡ replies_asked (aside_row o)
unfolding needed access_step output_steps bit_steps demodSteps power_steps upward fir_steps pack_of mode_steps low_if_steps zero_if_steps reset_steps direct_steps start_steps stop_steps if_steps rate_steps
aside_needed (Pin (Output pin rs)) = refl
aside_needed (Pin (Bit pin value rs)) = refl
aside_needed (Demod Baseband) = refl
aside_needed (Demod LowIf) = refl
aside_needed (Demod ZeroIf) = refl
aside_needed (Demod Reset) = refl
aside_needed (Demod (DirectWrite page register value)) = refl
aside_needed (Demod Start) = refl
aside_needed (Demod Stop) = refl
aside_needed (Demod (IfXtal hz xtal)) = refl
aside_needed (Demod (RateXtal rate xtal)) = refl

pub replies_aside : (a : Aside) → spent_in (aside_entries a) ≤ replies_asked (aside_row a.other)
replies_aside a =
    let same : (aside_asked a).steps ≡ steps_of (aside_row a.other) = asked_steps true (aside_row a.other) (length a.outcomes) (length a.room) in
    omega (arith, call_spent (aside_asked a).number a.outcomes (aside_asked a).steps no_chip, ap needed same, aside_needed a.other)

-- ---- and some runs take as many: no lock in ten tries

pub tune_spends : spent_in (entries (lent (Tuned (Tune 100_000_000 (replicate 35 0)))) fresh) ≡ 35
unfolding spent_in trace run step too_short in_vco first_mixer setting_of turn_of turns_of plan_with pllOf inner_steps repair_updates tries_from reversed
tune_spends = refl

pub hop_spends : spent_in (entries (lent hop) fresh) ≡ 38
unfolding spent_in trace run step too_short access_step output_steps bit_steps xtal_by corrected_of ddc_steps in_vco first_mixer
    setting_of turn_of turns_of plan_with pllOf inner_steps repair_updates tries_from reversed plan_by table_ok ascending bands_in
    band_of plan_in plan_at le_value
hop_spends = refl
