-- Document 01's list, "Per call, the most entries": no run makes more (`most_entries`), and for each call some run makes as many (`reached`).
-- Assumes nothing.
use Prim.Native.Nat.{ℕ, ◌+◌, ◌*◌, ◌≤◌}
use mathlib.Core.Path.{◌≡◌, refl, sym, ap, subst, ◌∙◌}
use mathlib.Core.Bool.{Bool, true, ◌&&◌}
use mathlib.Core.List.{List, [], ◌∷◌, ◌++◌}
use native.Mathlib.Omega.{arith}
use borrow.Author.Tests.{eq-eqb}
use lib.Ieee.{binary32, of_bits}
use lib.IntN.{pos}
use lib.ListN.{length, replicate}
use Rattle.std.specs.Prelude.{Option, Some, None}
use Rattle.board.specs.declared.Path.{Path}
use Rattle.board.specs.declared.Board.TheVariants.{Generic}
use Rattle.board.specs.declared.Path.TheVariants.{Hf, Vhf, Uhf}
use Rattle.board.specs.declared.Plan as board
use Rattle.bands.specs.declared.Planned.{Planned}
use Rattle.boards.specs.Hops.{hop_kept, hop_refusal, hop_result, hop_steps}
use Rattle.board.specs.Numbers.{path_of}
use Rattle.refusals.specs.declared.Answer.{Answer}
use Rattle.refusals.specs.declared.Answer.TheVariants.{Refused}
use Rattle.refusals.specs.Table.{FREQUENCY}
use Rattle.chip.specs.declared.Chip.{Chip}
use Rattle.chip.specs.declared.Progress.TheVariants.{Going}
use Rattle.chip.specs.Calls.{Called, answer_of, call_entries, call_of, too_short, performed, refusal_with}
use Rattle.chip.specs.Steps.{Step, Trace, run, step, trace}
use Rattle.pll.specs.declared.Kind.{Kind}
use Rattle.pll.specs.declared.Kind.TheVariants.{R820T, R828D}
use Rattle.std.specs.Prelude.{Option, None}
use Rattle.pll.specs.declared.Plan.{Plan}
use Rattle.pll.specs.Divide.{first_mixer, in_vco}
use Rattle.pll.specs.Fraction.{turn_of, turns_of}
use Rattle.pll.specs.Plan.{plan_of as pllOf, plan_with}
use Rattle.pll.specs.Setting.{setting_of}
use Rattle.status.specs.Reversal.{reversed}
use Rattle.tuning.specs.Program.{inner_steps, tune_steps, tune_answer}
use Rattle.tuning.specs.Tries.{repair_updates, tries_from}
use Rattle.registers.specs.Rates.{ratio_holds, rate_number}
use Rattle.r82xx.specs.declared.Tuner.{Tuner}
use Rattle.r82xx.specs.Record.{fresh_tuner, sound}
use Rattle.r82xx.specs.Calls.{hz_refusal, plan_for, refusal_of}
use Rattle.r82xx.specs.Orders.{bracket, gain_row, lock_kept, path_row, result_of, tune_of}
use Rattle.r82xx.specs.Orders.Order.{Initialize, Reload, Bandwidth, IfFreq, Gain, GainIndex, InputPath, Tune}
use Rattle.driver.specs.declared.Driver.{Driver}
use Rattle.driver.specs.Calls.{Both, both}
use Rattle.driver.specs.Record.{driver, sound_driver, xtal_by}
use Rattle.chip.specs.Courses.{asked_by, left_by}
use Rattle.sequences.specs.Calls.{Call, Order, asked, call, entries, most, row_of, sound_for}
use Rattle.sequences.specs.Calls.Order.{Tuned, SampleRate, BoardPath, BoardTune}
use Rattle.sequences.specs.Asides.{Aside, Other, aside, aside_asked, aside_entries, aside_most, aside_row}
use Rattle.sequences.specs.Asides.Other.{Pin, Demod}
use Rattle.device.specs.Gpio.Order.{Output, Bit}
use Rattle.demod.specs.Calls.Order.{Baseband}
use Rattle.reference.specs.Correct.{corrected_of}
use Rattle.device.specs.Calls.{no_chip}
use Rattle.device.specs.Accesses.{access_step}
use Rattle.device.specs.Gpio.{bit_steps, output_steps}
use Rattle.fir.specs.Packing.{pack_of}
use Rattle.wire.specs.Bytes.{le_value}
use Rattle.bands.specs.Tables.{ascending, band_of, bands_in, plan_at, plan_by, plan_in, table_ok}
use Rattle.demod.specs.Programs.{ddc_steps, fir_steps, if_steps, init_steps, mode_steps, power_steps, rate_steps, reset_steps, upward}
use Rattle.sequences.proofs.Views.{asked_steps, row_long}
use Rattle.sequences.proofs.Ties.{entries_most, none_entries}
use Rattle.sequences.proofs.Asides.{aside_length}

-- "initialise 19, 0; tune 53, 35; gain 7, 0; bandwidth 3, 0; IF 4, 0; input path 4, 0; reload 9, 0; .. sample rate 17, 0; board path 10, 3; .. `set_ppm`, notch .. 0, 0"
pub most_entries : (k : Call) (t : Tuner) → length (entries k t) ≤ most k.order t
most_entries k t =
    entries_most (most k.order t) k.outcomes (asked k t) t.chip
    (subst (λ (ss : List Step). length ss ≤ most k.order t) (sym (asked_steps (sound_for k.order t) (row_of k.order t) (length k.outcomes) (length k.room))) (row_long k.order t))

-- "baseband 45, 0; .. GPIO direction 4, 2; GPIO bit 2, 1"
pub most_aside : (a : Aside) → length (aside_entries a) ≤ aside_most a.other
most_aside a =
    entries_most (aside_most a.other) a.outcomes (aside_asked a) no_chip
    (omega (arith, ap length (asked_steps true (aside_row a.other) (length a.outcomes) (length a.room)), aside_length a.other))

-- "(R820T: 0, 0)": whatever the path's number and whatever is lent
pub most_plain : (path : ℕ) (os room : List ℕ) (t : Tuner) → t.kind ≡ R820T → entries (call (Tuned (InputPath path)) os room) t ≡ []
most_plain path os room t h = go (path_of path) t.kind h
  where
    go : (p : Option Path) (kind : Kind) → kind ≡ R820T
        → call_entries (asked_by (sound t) (path_row p kind t) (length os) (length room)).number os (asked_by (sound t) (path_row p kind t) (length os) (length room)).steps t.chip ≡ []
    go None kind e = none_entries os t.chip
    go (Some path) R820T e = none_entries os t.chip
    go (Some path) R828D e = cc

-- ---- each bound is reached: a fresh R828D, all steps done, and just the memory that is asked for

abbrev pub fresh : Tuner
fresh = fresh_tuner R828D 0x74 28_800_000

abbrev pub lent : Order → Call
lent o = call o (replicate (most o fresh) 0) (replicate (16 * most o fresh + 8) 0)

pub initialise_reached : length (entries (lent (Tuned Initialize)) fresh) ≡ most (Tuned Initialize) fresh
unfolding trace run step too_short
initialise_reached = refl

pub reload_reached : length (entries (lent (Tuned Reload)) fresh) ≡ most (Tuned Reload) fresh
unfolding trace run step too_short
reload_reached = refl

pub bandwidth_reached : length (entries (lent (Tuned (Bandwidth 2_048_000))) fresh) ≡ most (Tuned (Bandwidth 2_048_000)) fresh
unfolding trace run step too_short bracket gain_row
bandwidth_reached = refl

pub if_reached : length (entries (lent (Tuned (IfFreq 3_570_000))) fresh) ≡ most (Tuned (IfFreq 3_570_000)) fresh
unfolding trace run step too_short bracket gain_row
if_reached = refl

pub gain_reached : length (entries (lent (Tuned (Gain (of_bits binary32 0)))) fresh) ≡ most (Tuned (Gain (of_bits binary32 0))) fresh
unfolding trace run step too_short bracket gain_row
gain_reached = refl

pub index_reached : length (entries (lent (Tuned (GainIndex 28))) fresh) ≡ most (Tuned (GainIndex 28)) fresh
unfolding trace run step too_short bracket gain_row
index_reached = refl

pub path_reached : length (entries (lent (Tuned (InputPath 0))) fresh) ≡ most (Tuned (InputPath 0)) fresh
unfolding trace run step too_short bracket gain_row
path_reached = refl

-- no lock in ten tries, and the divider repaired: all replies are zero
pub tune_reached : length (entries (lent (Tuned (Tune 100_000_000 (replicate 35 0)))) fresh) ≡ most (Tuned (Tune 100_000_000 (replicate 35 0))) fresh
unfolding trace run step too_short in_vco first_mixer setting_of turn_of turns_of plan_with pllOf inner_steps repair_updates tries_from reversed
tune_reached = refl

pub rate_reached : length (entries (lent (SampleRate 2_048_000 [] (driver Generic 28_800_000 (pos 0) 0 0 0))) fresh) ≡ most (SampleRate 2_048_000 [] (driver Generic 28_800_000 (pos 0) 0 0 0)) fresh
unfolding trace run step too_short access_step xtal_by corrected_of ratio_holds rate_number reset_steps rate_steps if_steps ddc_steps plan_by table_ok ascending bands_in plan_in
rate_reached = refl

pub board_reached : length (entries (lent (BoardPath 0 (replicate 3 0))) fresh) ≡ most (BoardPath 0 (replicate 3 0)) fresh
unfolding trace run step too_short access_step output_steps bit_steps
board_reached = refl

-- #113: "of at most 64 entries and 38 replies": one band with a path for all frequencies; all replies are zero, and there are just the 38
abbrev pub hop : Order
hop = BoardTune 100_000_000 (replicate 8 0 ++ (replicate 8 255 ++ (replicate 8 0 ++ (0 ∷ 1 ∷ 0 ∷ [])))) (replicate 38 0) (driver Generic 28_800_000 (pos 0) 0 0 0)

pub hop_reached : length (entries (lent hop) fresh) ≡ most hop fresh
unfolding trace run step too_short access_step output_steps bit_steps xtal_by corrected_of ddc_steps in_vco first_mixer setting_of
    turn_of turns_of plan_with pllOf inner_steps repair_updates tries_from reversed plan_by table_ok ascending bands_in band_of
    plan_in plan_at le_value
hop_reached = refl

-- and of those that touch no record
abbrev lent_aside : Other → Aside
lent_aside o = aside o (replicate (aside_most o) 0) (replicate (16 * aside_most o + 8) 0)

pub baseband_reached : length (aside_entries (lent_aside (Demod Baseband))) ≡ aside_most (Demod Baseband)
unfolding trace run step too_short init_steps power_steps upward fir_steps pack_of mode_steps
baseband_reached = refl

pub direction_reached : length (aside_entries (lent_aside (Pin (Output 5 (replicate 2 0))))) ≡ aside_most (Pin (Output 5 (replicate 2 0)))
unfolding trace run step too_short access_step output_steps
direction_reached = refl

pub bit_reached : length (aside_entries (lent_aside (Pin (Bit 5 1 (replicate 1 0))))) ≡ aside_most (Pin (Bit 5 1 (replicate 1 0)))
unfolding trace run step too_short access_step bit_steps
bit_reached = refl

-- ---- "A PLL refusal comes after the mux: all done, it leaves 13 entries (open, 11 writes, close)"

-- whatever the chip, the notch and the range: the steps are open, the mux's writes, close
thirteen : (address hz : ℕ) (kind : Kind) (notch : Bool) (rs os : List ℕ) (c : Chip) → length (trace (replicate 13 0 ++ os) (tune_steps address kind notch None hz rs) c).log ≡ 13
unfolding trace run step inner_steps
thirteen address hz kind notch rs os c = refl

none_failed : (address hz : ℕ) (kind : Kind) (notch : Bool) (rs os : List ℕ) (c : Chip) → (trace (replicate 13 0 ++ os) (tune_steps address kind notch None hz rs) c).progress ≡ Going
unfolding trace run step inner_steps
none_failed address hz kind notch rs os c = refl

-- a tuning by its plan
abbrev pub by_plan : Tuner → ℕ → List ℕ → List ℕ → List ℕ → Option Plan → Called Tuner
by_plan t hz os rs room plan =
    call_of (refusal_of t (hz_refusal hz t.ifreq) 53 35 (length room) (length os) (length rs)) (tune_answer plan hz) os
    (tune_of t plan hz rs) t.chip (lock_kept t) t room

pub tune_by_plan : (t : Tuner) (hz : ℕ) (os rs room : List ℕ) → result_of (Tune hz rs) os t room ≡ by_plan t hz os rs room (plan_for t hz)
unfolding result_of left_by
tune_by_plan t hz os rs room = refl

pub progress_on : {R : Type 0} (number : ℕ) (whole : Answer) (os : List ℕ) (ss : List Step) (c : Chip) (keep : Trace → R) (old : R) (room : List ℕ)
    → number ≡ 0
    → call_of number whole os ss c keep old room ≡ performed whole keep room (trace os ss c)
unfolding call_of
progress_on number whole os ss c keep old room e = rw (eq-eqb number 0 e)

-- a tuning that is not refused before its steps, and whose plan is: its answer, and how many entries it made
pub refused_in_the_pll : (t : Tuner) (hz : ℕ) (rs os room : List ℕ)
    → refusal_of t (hz_refusal hz t.ifreq) 53 35 (length room) (length (replicate 13 0 ++ os)) (length rs) ≡ 0
    → plan_for t hz ≡ None
    → ((result_of (Tune hz rs) (replicate 13 0 ++ os) t room).answer ≡ Refused FREQUENCY) × ((result_of (Tune hz rs) (replicate 13 0 ++ os) t room).count ≡ 13)
refused_in_the_pll t hz rs os room e p =
    let is : _ = tune_by_plan t hz (replicate 13 0 ++ os) rs room ∙ ap (by_plan t hz (replicate 13 0 ++ os) rs room) p ∙ progress_on _ _ _ _ _ _ _ _ e in (
      ap (λ (c : Called Tuner). c.answer) is ∙ ap (answer_of (Refused FREQUENCY)) (none_failed t.chip.address hz t.kind t.notch rs os t.chip),
      ap (λ (c : Called Tuner). c.count) is ∙ thirteen t.chip.address hz t.kind t.notch rs os t.chip,
    )

-- ---- a board-level tune whose plan the PLL refuses: the same 13, and the board path's ten before them where it is taken

abbrev pub late_count : Kind → Option Path → ℕ
late_count R820T route = 13
late_count R828D None = 13
late_count R828D (Some path) = 23

module _ (address : ℕ) (rs os : List ℕ) (c : Chip) where
  abbrev late : Kind → board.Plan → Trace
  late kind p = trace (replicate 23 0 ++ os) (hop_steps kind address p None rs) c

  hop_late : (kind : Kind) (p : board.Plan) (route : Option Path) → p.path ≡ route → (length (late kind p).log ≡ late_count kind route) × ((late kind p).progress ≡ Going)
  unfolding trace run step inner_steps output_steps bit_steps access_step
  hop_late R820T p route e = (refl, refl)
  hop_late R828D p None e = rw e (refl, refl)
  hop_late R828D p (Some Hf) e = rw e (refl, refl)
  hop_late R828D p (Some Vhf) e = rw e (refl, refl)
  hop_late R828D p (Some Uhf) e = rw e (refl, refl)

pub hop_refused_in_the_pll : (t : Tuner) (hz : ℕ) (table rs : List ℕ) (d : Driver) (os room : List ℕ)
    → refusal_with (sound t && sound_driver d) (hop_refusal (plan_by table hz) t.ifreq) 64 38 (length room) (length (replicate 23 0 ++ os)) (length rs) ≡ 0
    → plan_for t (plan_by table hz).plan.hz ≡ None
    → ((hop_result (plan_by table hz) hz rs (replicate 23 0 ++ os) t d room).answer ≡ Refused FREQUENCY)
    × ((hop_result (plan_by table hz) hz rs (replicate 23 0 ++ os) t d room).count ≡ late_count t.kind (plan_by table hz).plan.path)
unfolding hop_result left_by
hop_refused_in_the_pll t hz table rs d os room e p =
    let at : Planned = plan_by table hz in
    let outcomes : List ℕ = replicate 23 0 ++ os in
    let by : Option Plan → Called Both = (λ plan.
    call_of (refusal_with (sound t && sound_driver d) (hop_refusal at t.ifreq) 64 38 (length room) (length outcomes) (length rs)) (tune_answer plan hz) outcomes
    (hop_steps t.kind t.chip.address at.plan plan rs) t.chip (hop_kept t d at.plan (tune_answer plan hz) hz) (both t d) room) in
    let is : by (plan_for t at.plan.hz) ≡ _ = ap by p ∙ progress_on _ _ _ _ _ _ _ _ e in
    let n = hop_late t.chip.address rs os t.chip t.kind at.plan at.plan.path refl in
    (ap (λ (x : Called Both). x.answer) is ∙ ap (answer_of (Refused FREQUENCY)) n.1, ap (λ (x : Called Both). x.count) is ∙ n.0)
