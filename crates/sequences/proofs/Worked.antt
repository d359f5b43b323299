-- Two things worked out. Document 01, "Whole section: bandwidth 2,048,000, fresh R828D at 0x74, all done", out of the contract's definition; the bytes
-- past it stay as they were. And a sequence that there is: an initialising that is cut, then a reload that is done. Assumes nothing.
use Prim.Native.Nat.{ℕ}
use mathlib.Core.Path.{◌≡◌, refl}
use mathlib.Core.Bool.{true, false}
use mathlib.Core.List.{List, [], ◌∷◌, ◌++◌}
use native.Mathlib.Omega.{arith}
use lib.IntN.{pos}
use lib.ListN.{replicate}
use Rattle.wire.specs.Bytes.{le_bytes, le_value}
use Rattle.transcript.specs.Entries.{entry_bytes}
use Rattle.transcript.specs.Sections.{entries_bytes, section_bytes, trailer_bytes}
use Rattle.bands.specs.Tables.{ascending, band_of, bands_in, plan_at, plan_by, plan_in, table_ok}
use Rattle.board.specs.declared.Board.TheVariants.{Generic}
use Rattle.boards.specs.Hops.{hop_result}
use Rattle.demod.specs.Programs.{ddc_steps, if_steps, rate_steps, reset_steps}
use Rattle.device.specs.Accesses.{access_step}
use Rattle.device.specs.Gpio.{bit_steps, output_steps}
use Rattle.device.specs.Gpio.Order.{Bit}
use Rattle.driver.specs.declared.Driver.{Driver}
use Rattle.driver.specs.Record.{driver, xtal_by}
use Rattle.driver.specs.Calls.{rate_result}
use Rattle.pll.specs.Divide.{first_mixer, in_vco}
use Rattle.pll.specs.Fraction.{turn_of, turns_of}
use Rattle.pll.specs.Plan.{plan_of, plan_with}
use Rattle.pll.specs.Setting.{setting_of}
use Rattle.reference.specs.Correct.{corrected_of}
use Rattle.registers.specs.Rates.{ratio_holds, rate_number}
use Rattle.status.specs.Reversal.{reversed}
use Rattle.tuning.specs.Mux.{last_at, range_of}
use Rattle.tuning.specs.Program.{inner_steps}
use Rattle.tuning.specs.Tries.{repair_updates, reply_bytes, tries_from}
use Rattle.refusals.specs.declared.Answer.TheVariants.{Done, Stopped}
use Rattle.chip.specs.Calls.{call_of, too_short, locked_in, tries_in}
use Rattle.chip.specs.Chips.{attempted_by, mask_of}
use Rattle.chip.specs.Steps.{chunk_bytes, every, run, step, trace}
use Rattle.r82xx.specs.declared.Tuner.{Tuner}
use Rattle.r82xx.specs.Record.{made_of}
use Rattle.chip.specs.Courses.{left_by}
use Rattle.r82xx.specs.Orders.{bracket, result_of}
use Rattle.r82xx.specs.Orders.Order.{Initialize, Reload, Bandwidth, Tune}
use Rattle.sequences.specs.Calls.{Call, tuner_after, call, entries, result}
use Rattle.sequences.specs.Asides.{Aside, aside, aside_entries}
use Rattle.sequences.specs.Asides.Other.{Pin}
use Rattle.sequences.specs.Calls.Order.{Tuned, SampleRate, BoardTune}
use Rattle.sequences.specs.Sequences.{Sequence}
use Rattle.sequences.specs.Sequences.Sequence.{fresh, next, between}

abbrev section : List ℕ
section =
    0x01 ∷ 0x00 ∷ 0x00 ∷ 0x01 ∷ 0x00 ∷ 0x00 ∷ 0x00 ∷ 0x00 ∷ 0x01 ∷ 0x00 ∷ 0x00 ∷ 0x00 ∷ 0x00 ∷ 0x00 ∷ 0x00 ∷ 0x00
    ∷ 0x02 ∷ 0x00 ∷ 0x74 ∷ 0x02 ∷ 0x00 ∷ 0x00 ∷ 0x00 ∷ 0x00 ∷ 0x0a ∷ 0xd8 ∷ 0x00 ∷ 0x00 ∷ 0x00 ∷ 0x00 ∷ 0x00 ∷ 0x00
    ∷ 0x01 ∷ 0x00 ∷ 0x00 ∷ 0x01 ∷ 0x00 ∷ 0x00 ∷ 0x00 ∷ 0x00 ∷ 0x00 ∷ 0x00 ∷ 0x00 ∷ 0x00 ∷ 0x00 ∷ 0x00 ∷ 0x00 ∷ 0x00
    ∷ 0x03 ∷ 0x00 ∷ 0x00 ∷ 0x00 ∷ 0x30 ∷ 0x00 ∷ 0x00 ∷ 0x00 ∷ []

pub whole_section : (result_of (Bandwidth 2_048_000) (0 ∷ 0 ∷ 0 ∷ []) (made_of 1 0x74 28_800_000).tuner (replicate 60 0xff)).room ≡ section ++ replicate 4 0xff
unfolding result_of left_by bracket call_of too_short made_of trace run step attempted_by mask_of section_bytes entries_bytes entry_bytes trailer_bytes le_bytes
whole_section = refl

pub whole_answer : (result_of (Bandwidth 2_048_000) (0 ∷ 0 ∷ 0 ∷ []) (made_of 1 0x74 28_800_000).tuner (replicate 60 0xff)).answer ≡ Done 0
unfolding result_of left_by bracket call_of too_short made_of trace run step attempted_by mask_of
whole_answer = refl

-- ---- a sequence: the second write of an initialising fails, then all is reloaded

abbrev start : Tuner
start = (made_of 1 0x74 28_800_000).tuner

abbrev broken : Call
broken = call (Tuned Initialize) (0 ∷ 0 ∷ 1 ∷ replicate 16 0) (replicate 312 0)

abbrev again : Call
again = call (Tuned Reload) (replicate 9 0) (replicate 152 0)

pub worked_sequence : Sequence (tuner_after again (tuner_after broken start)) (([] ++ entries broken start) ++ entries again (tuner_after broken start))
unfolding made_of every
worked_sequence =
    next (tuner_after broken start) ([] ++ entries broken start) (next start [] (fresh 1 0x74 28_800_000 (omega arith) refl) broken refl) again refl

-- opened, a write done, a write failed: that is entry 2, and the closing is the last
pub broken_answer : (result broken start).answer ≡ Stopped 2
unfolding result_of left_by call_of too_short made_of trace run step attempted_by chunk_bytes
broken_answer = refl

pub broken_doubt : (tuner_after broken start).chip.doubtful ≡ replicate 7 false ++ replicate 20 true
unfolding result_of left_by call_of too_short made_of trace run step attempted_by chunk_bytes
broken_doubt = refl

-- so `reload_done` speaks of it
pub again_answer : (result again (tuner_after broken start)).answer ≡ Done 0
unfolding result_of left_by call_of too_short made_of trace run step attempted_by chunk_bytes
again_answer = refl

pub again_doubt : (tuner_after again (tuner_after broken start)).chip.doubtful ≡ replicate 27 false
unfolding result_of left_by call_of too_short made_of trace run step attempted_by chunk_bytes
again_doubt = refl

-- ---- another: a tuning that locks, a GPIO bit between, a sample rate that asks for an IF of 0, and a board-level tune

abbrev generic : Driver
generic = driver Generic 28_800_000 (pos 0) 0 0 0

abbrev tuning : Call
tuning = call (Tuned (Tune 100_000_000 (replicate 7 0 ++ (255 ∷ replicate 27 0)))) (replicate 53 0) (replicate 856 0)

abbrev pin : Aside
pin = aside (Pin (Bit 5 1 (0 ∷ []))) (replicate 2 0) (replicate 40 0)

abbrev rating : Call
rating = call (SampleRate 250_000 [] generic) (replicate 17 0) (replicate 280 0)

-- one band with a path for all frequencies
abbrev hopping : Call
hopping =
    call (BoardTune 100_000_000 (replicate 8 0 ++ (replicate 8 255 ++ (replicate 8 0 ++ (0 ∷ 1 ∷ 0 ∷ [])))) (replicate 38 0) generic) (replicate 64 0) (replicate 1032 0)

abbrev first : Tuner
first = tuner_after tuning start

abbrev second : Tuner
second = tuner_after rating first

pub worked_day : Sequence (tuner_after hopping second) (((([] ++ entries tuning start) ++ aside_entries pin) ++ entries rating first) ++ entries hopping second)
unfolding made_of every
worked_day =
    next second _ (next first _ (between first _ (next start [] (fresh 1 0x74 28_800_000 (omega arith) refl) tuning refl) pin refl) rating refl) hopping refl

pub day_answers : ((result tuning start).answer ≡ Done 100_000_000) × ((result rating first).answer ≡ Done 0) × ((result hopping second).answer ≡ Done 100_000_000)
unfolding result_of left_by call_of too_short made_of trace run step attempted_by mask_of chunk_bytes inner_steps repair_updates
    tries_from reply_bytes range_of last_at reversed in_vco first_mixer setting_of turn_of turns_of plan_with plan_of rate_result
    hop_result xtal_by corrected_of ratio_holds rate_number reset_steps rate_steps if_steps ddc_steps access_step output_steps
    bit_steps plan_by table_ok ascending bands_in band_of plan_in plan_at le_value tries_in locked_in bracket
day_answers = (refl, refl, refl)

-- the rate's IF of 0 is there, and the next rate, which would ask for 2,300,000, keeps it: `zero_stays` speaks of it
abbrev faster : Call
faster = call (SampleRate 2_048_000 [] generic) (replicate 17 0) (replicate 280 0)

pub zero_kept : (first.ifreq ≡ 2_300_000) × (second.ifreq ≡ 0) × ((result faster second).answer ≡ Done 0) × ((tuner_after faster second).ifreq ≡ 0)
unfolding result_of left_by call_of too_short made_of trace run step attempted_by mask_of chunk_bytes inner_steps repair_updates
    tries_from reply_bytes range_of last_at reversed in_vco first_mixer setting_of turn_of turns_of plan_with plan_of rate_result
    hop_result xtal_by corrected_of ratio_holds rate_number reset_steps rate_steps if_steps ddc_steps access_step output_steps
    bit_steps plan_by table_ok ascending bands_in band_of plan_in plan_at le_value tries_in locked_in bracket
zero_kept = (refl, refl, refl, refl)
