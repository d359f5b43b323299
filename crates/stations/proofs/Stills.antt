-- Which calls leave the IF's registers of the demodulator alone, by their programs. Assumes nothing.
use Prim.Native.Nat.{ℕ, zero, suc, ◌+◌}
use mathlib.Core.Path.{◌≡◌, refl, ap, ◌∙◌}
use mathlib.Core.Bool.{Bool, true, false, cond, ◌&&◌, true≢false}
use mathlib.Core.List.{List, [], ◌∷◌, ◌++◌, map}
use lib.Dec.{eqb, leb}
use lib.ListN.{drop, get_or, length, take}
use Rattle.std.specs.Prelude.{Option, Some, None}
use Rattle.bands.specs.Tables.{plan_by}
use Rattle.board.specs.declared.Path.{Path}
use Rattle.board.specs.declared.Plan as board-plan
use Rattle.board.specs.Numbers.{path_of}
use Rattle.boards.specs.Hops.{ddc_part, hop_steps, path_part, path_replies}
use Rattle.refusals.specs.declared.Answer.{Answer}
use Rattle.refusals.specs.declared.Answer.TheVariants.{Done, Refused}
use Rattle.refusals.specs.Table.{CORRECTION}
use Rattle.chip.specs.declared.Chip.{Chip}
use Rattle.chip.specs.Calls.{call_entries}
use Rattle.chip.specs.Courses.{steps_of}
use Rattle.chip.specs.Courses.Course.{Still}
use Rattle.chip.specs.Entries.{wait}
use Rattle.chip.specs.Steps.{Step, chunk_step, chunk_table, every, trace, tuner_write, updates, while_open}
use Rattle.chip.specs.Steps.Step.{Plain}
use Rattle.demod.specs.Calls as demod
use Rattle.demod.specs.Calls.Order.{Baseband, LowIf, ZeroIf, Reset, Direct, Start, Stop, IfXtal, RateXtal}
use Rattle.demod.specs.Programs.{ddc_steps, low_if_steps, rate_steps, start_steps, zero_if_steps}
use Rattle.device.specs.Accesses.{access_step}
use Rattle.device.specs.Calls.{no_chip}
use Rattle.device.specs.Gpio.Order.{Bit, Output}
use Rattle.device.specs.Gpio.{bit_steps, output_steps}
use Rattle.driver.specs.Calls.{Both, board_row, both}
use Rattle.driver.specs.Record.{with_ppm, xtal_by}
use Rattle.driver.specs.Programs.{board_path_steps, level_for, tuner_path}
use Rattle.gain.specs.Steps.{chosen_of, clamped}
use Rattle.history.proofs.Fine.{every_append}
use Rattle.pll.specs.declared.Kind.{Kind}
use Rattle.pll.specs.declared.Kind.TheVariants.{R820T, R828D}
use Rattle.std.specs.Prelude.{Option, Some, None}
use Rattle.pll.specs.declared.Plan.{Plan}
use Rattle.r82xx.specs.declared.Tuner.{Tuner}
use Rattle.r82xx.specs.Calls.{plan_for}
use Rattle.r82xx.specs.Record.{with_corrected}
use Rattle.r82xx.specs.Orders.{bracket, gain_row, path_row}
use Rattle.r82xx.specs.Orders.Order.{Initialize, Reload, Bandwidth, IfFreq, Gain, GainIndex, InputPath, Tune, Notch, GainTold, IfTold, TableTold}
use Rattle.tuning.specs.Mux.{mux_updates, pll_updates, range_of}
use Rattle.tuning.specs.Program.{inner_steps, pll_steps, tune_steps}
use Rattle.tuning.specs.Tries.{after_try, again, locked, locks_at, repair_updates, status_steps, tries_from, try_read}
use Rattle.tuning.proofs.Turns.{pick_every}
use Rattle.writes.specs.Lists.{bandwidth_updates, gain_updates, if_updates, init_array, init_updates, path_updates}
use Rattle.writes.specs.Programs.{init_steps, send_all}
use Rattle.sequences.specs.Asides.{Aside, Other, aside_asked, aside_entries, aside_row}
use Rattle.sequences.specs.Asides.Other.{Pin, Demod}
use Rattle.sequences.specs.Calls.{Call, Order, asked, entries, row_of, sound_for, tuner_part}
use Rattle.sequences.specs.Calls.Order.{Tuned, SampleRate, Correction, BoardPath, BoardTune}
use Rattle.sequences.proofs.Views.{asked_steps}
use Rattle.evidence.specs.Demodulator.{covers, demod_names, shakes}
use Rattle.evidence.proofs.Quiet.{Silent, silent_none, silent_trace, still, still_behind, still_bracket, still_map, still_updates}
use Rattle.stations.specs.Between.{moves_aside, moves_demod, moves_if}

still_none : every still [] ≡ true
unfolding every
still_none = refl

still_chunks : (bs : List ℕ) (from to : ℕ) → every still (tuner_write bs from to) ≡ true
still_chunks bs from to =
    still_behind (map (chunk_step bs) (drop from (take to chunk_table))) (still_map (chunk_step bs) (λ k. refl) (drop from (take to chunk_table)))

still_all : (bs : List ℕ) → every still (send_all bs) ≡ true
still_all bs = every_append still (tuner_write bs 0 3) (tuner_write bs 3 5) (still_chunks bs 0 3) (still_chunks bs 3 5)

still_init : every still init_steps ≡ true
still_init =
    every_append still (send_all init_array) (while_open (updates init_updates) ++ while_open (updates (if_updates 2_300_000))) (still_all init_array)
    (every_append still (while_open (updates init_updates)) (while_open (updates (if_updates 2_300_000))) (still_bracket init_updates) (still_bracket (if_updates 2_300_000)))

-- ---- a tuning

module _ (address : ℕ) (rs : List ℕ) where
  still_status : every still (status_steps address rs) ≡ true
  unfolding every demod_names covers shakes
  still_status = refl

  still_try : (i : ℕ) → every still (try_read address rs i) ≡ true
  unfolding every demod_names covers shakes
  still_try i = refl

  still_wait : every still (Plain (wait 1) ∷ []) ≡ true
  unfolding every demod_names covers shakes
  still_wait = refl

  still_tries : (left i : ℕ) → every still (tries_from address rs left i) ≡ true
  unfolding tries_from
  still_tries zero i = still_none
  still_tries (suc left) i =
      every_append still (try_read address rs i) (cond (locks_at rs i) (updates locked) (after_try i ++ tries_from address rs left (i + 1))) (still_try i)
      (pick_every still (locks_at rs i) (updates locked) (after_try i ++ tries_from address rs left (i + 1)) (still_updates locked)
      (every_append still (after_try i) (tries_from address rs left (i + 1)) (every_append still (updates (again i)) (Plain (wait 1) ∷ []) (still_updates (again i)) still_wait)
      (still_tries left (i + 1))))

  still_inner : (kind : Kind) (notch : Bool) (plan : Option Plan) (hz : ℕ) → every still (inner_steps address kind notch plan hz rs) ≡ true
  unfolding inner_steps
  still_inner kind notch None hz = still_updates (mux_updates notch (range_of hz))
  still_inner kind notch (Some p) hz =
      every_append still (updates (mux_updates notch (range_of hz) ++ pll_updates p)) (pll_steps address kind p.number rs) (still_updates (mux_updates notch (range_of hz) ++ pll_updates p))
      (every_append still (status_steps address rs) (updates (repair_updates kind p.number (get_or rs 4 0)) ++ tries_from address rs 10 0) still_status
      (every_append still (updates (repair_updates kind p.number (get_or rs 4 0))) (tries_from address rs 10 0) (still_updates (repair_updates kind p.number (get_or rs 4 0))) (still_tries 10 0)))

  pub still_tune : (kind : Kind) (notch : Bool) (plan : Option Plan) (hz : ℕ) → every still (tune_steps address kind notch plan hz rs) ≡ true
  still_tune kind notch plan hz = still_behind (inner_steps address kind notch plan hz rs) (still_inner kind notch plan hz)

-- ---- the driver's

still_output : (pin a b : ℕ) → every still (output_steps pin a b) ≡ true
unfolding every demod_names covers shakes output_steps access_step
still_output pin a b = refl

still_bit : (pin value a : ℕ) → every still (bit_steps pin value a) ≡ true
unfolding every demod_names covers shakes bit_steps access_step
still_bit pin value a = refl

still_own : (kind : Kind) (path : Path) → every still (tuner_path kind path) ≡ true
still_own R820T path = still_none
still_own R828D path = still_bracket (path_updates path)

still_board : (kind : Kind) (path : Path) (rs : List ℕ) → every still (board_path_steps kind path rs) ≡ true
still_board kind path rs =
    every_append still (output_steps 5 (get_or rs 0 0) (get_or rs 1 0)) (bit_steps 5 (level_for path) (get_or rs 2 0) ++ tuner_path kind path) (still_output 5 (get_or rs 0 0) (get_or rs 1 0))
    (every_append still (bit_steps 5 (level_for path) (get_or rs 2 0)) (tuner_path kind path) (still_bit 5 (level_for path) (get_or rs 2 0)) (still_own kind path))

still_path_part : (kind : Kind) (r : Option Path) (rs : List ℕ) → every still (path_part kind r rs) ≡ true
still_path_part R820T r rs = still_none
still_path_part R828D None rs = still_none
still_path_part R828D (Some path) rs = still_board R828D path rs

-- the DDC byte is another register's
still_ddc : (inverted : Bool) → every still (ddc_steps inverted) ≡ true
unfolding every demod_names covers shakes ddc_steps
still_ddc inverted = refl

still_ddc_part : (plan : Option Plan) (inverted : Bool) → every still (ddc_part plan inverted) ≡ true
still_ddc_part None inverted = still_none
still_ddc_part (Some p) inverted = still_ddc inverted

still_hop : (kind : Kind) (address : ℕ) (p : board-plan.Plan) (plan : Option Plan) (rs : List ℕ) → every still (hop_steps kind address p plan rs) ≡ true
still_hop kind address p plan rs =
    let tail : List Step = tune_steps address kind p.notch plan p.hz (drop (path_replies kind p.path) rs) in
    every_append still (path_part kind p.path rs) (tail ++ ddc_part plan p.inverted) (still_path_part kind p.path rs)
    (every_append still tail (ddc_part plan p.inverted) (still_tune address (drop (path_replies kind p.path) rs) kind p.notch plan p.hz) (still_ddc_part plan p.inverted))

-- ---- each row

still_path : (p : Option Path) (kind : Kind) (t : Tuner) → every still (steps_of (path_row p kind t)) ≡ true
unfolding bracket
still_path None kind t = still_none
still_path (Some path) R820T t = still_none
still_path (Some path) R828D t = still_bracket (path_updates path)

still_board_row : (p : Option Path) (rs : List ℕ) (t : Tuner) → every still (steps_of (board_row p rs t)) ≡ true
still_board_row None rs t = still_none
still_board_row (Some path) rs t = still_board t.kind path rs

still_either : (b : Bool) (u v : Both) (x y : Answer) → every still (steps_of (tuner_part (cond b (Still u x) (Still v y)))) ≡ true
still_either true u v x y = still_none
still_either false u v x y = still_none

still_row : (o : Order) (t : Tuner) → moves_if o ≡ false → every still (steps_of (row_of o t)) ≡ true
unfolding bracket gain_row
still_row (Tuned Initialize) t h = still_init
still_row (Tuned Reload) t h = still_all t.chip.shadow
still_row (Tuned (Bandwidth hz)) t h = still_bracket (bandwidth_updates hz)
still_row (Tuned (IfFreq hz)) t h = absurd (true≢false h)
still_row (Tuned (Gain db)) t h = still_bracket (gain_updates (chosen_of db))
still_row (Tuned (GainIndex k)) t h = still_bracket (gain_updates (clamped k))
still_row (Tuned (InputPath path)) t h = still_path (path_of path) t.kind t
still_row (Tuned (Tune hz rs)) t h = still_tune t.chip.address rs t.kind t.notch (plan_for t hz) hz
still_row (Tuned (Notch on)) t h = still_none
still_row (Tuned GainTold) t h = still_none
still_row (Tuned IfTold) t h = still_none
still_row (Tuned TableTold) t h = still_none
still_row (SampleRate rate table d) t h = absurd (true≢false h)
still_row (Correction ppm d) t h =
    still_either (leb 1 (xtal_by t.nominal ppm) && leb 1 (xtal_by d.nominal ppm)) (both (with_corrected t (xtal_by t.nominal ppm)) (with_ppm d ppm)) (both t d) (Done 0) (Refused CORRECTION)
still_row (BoardPath path rs) t h = still_board_row (path_of path) rs t
still_row (BoardTune hz table rs d) t h = still_hop t.kind t.chip.address (plan_by table hz).plan (plan_for t (plan_by table hz).plan.hz) rs

still_demod : (o : demod.Order) → moves_demod o ≡ false → every still (steps_of (demod.demod_course o)) ≡ true
unfolding every demod_names covers shakes low_if_steps zero_if_steps start_steps rate_steps access_step
still_demod Baseband h = absurd (true≢false h)
still_demod LowIf h = refl
still_demod ZeroIf h = refl
still_demod Reset h = absurd (true≢false h)
still_demod (Direct page register value) h = absurd (true≢false h)
still_demod Start h = refl
still_demod Stop h = absurd (true≢false h)
still_demod (IfXtal hz xtal) h = absurd (true≢false h)
still_demod (RateXtal rate xtal) h = refl

still_aside : (o : Other) → moves_aside o ≡ false → every still (steps_of (aside_row o)) ≡ true
still_aside (Pin (Output pin rs)) h = still_output pin (get_or rs 0 0) (get_or rs 1 0)
still_aside (Pin (Bit pin value rs)) h = still_bit pin value (get_or rs 0 0)
still_aside (Demod o) h = still_demod o h

-- ---- their entries

silent_entries : (number : ℕ) (os : List ℕ) (ss : List Step) (c : Chip) → every still ss ≡ true → Silent (call_entries number os ss c)
silent_entries number os ss c h = go (eqb number 0)
  where
    go : (b : Bool) → Silent (cond b (trace os ss c).log [])
    go true = silent_trace os ss c h
    go false = silent_none

pub silent_call : (k : Call) (t : Tuner) → moves_if k.order ≡ false → Silent (entries k t)
silent_call k t h =
    silent_entries (asked k t).number k.outcomes (asked k t).steps t.chip
    (ap (every still) (asked_steps (sound_for k.order t) (row_of k.order t) (length k.outcomes) (length k.room)) ∙ still_row k.order t h)

pub silent_aside : (a : Aside) → moves_aside a.other ≡ false → Silent (aside_entries a)
silent_aside a h =
    silent_entries (aside_asked a).number a.outcomes (aside_asked a).steps no_chip
    (ap (every still) (asked_steps true (aside_row a.other) (length a.outcomes) (length a.room)) ∙ still_aside a.other h)
