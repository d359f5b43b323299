-- A sequence of exported calls that there is, so that the theorems of proofs/Demand.antt speak of something: a fresh record, a tuning, a GPIO bit between, a
-- sample rate and a board-level tune, each done; and one that is cut. Assumes nothing.
use Prim.Native.Nat.{ℕ, ◌+◌}
use mathlib.Core.Path.{◌≡◌, refl}
use mathlib.Core.List.{List, [], ◌∷◌, ◌++◌}
use native.Mathlib.Omega.{arith}
use lib.Ieee.{of_bits, to_bits}
use lib.ListN.{get_or, replicate, take}
use Rattle.bands.specs.Tables.{ascending, band_of, bands_in, plan_at, plan_by, plan_in, table_ok}
use Rattle.chip.specs.Calls.{call_of, too_short, locked_in, tries_in}
use Rattle.chip.specs.Chips.{attempted_by, mask_of}
use Rattle.chip.specs.Courses.{left_by}
use Rattle.chip.specs.Steps.{every, run, step, trace}
use Rattle.demod.specs.Programs.{ddc_steps, if_steps, rate_steps, reset_steps}
use Rattle.device.specs.Accesses.{access_step}
use Rattle.device.specs.Gpio.{bit_steps, output_steps}
use Rattle.device.specs.Gpio.Order.{Bit}
use Rattle.driver.specs.Record.{xtal_by}
use Rattle.driver.specs.Calls.{rate_result}
use Rattle.boards.specs.Hops.{hop_result}
use Rattle.refusals.specs.Lent.{lent_to}
use Rattle.refusals.specs.Table.{STEP}
use Rattle.pll.specs.Divide.{first_mixer, in_vco}
use Rattle.pll.specs.Fraction.{turn_of, turns_of}
use Rattle.pll.specs.Plan.{plan_of, plan_with}
use Rattle.pll.specs.Setting.{setting_of}
use Rattle.reference.specs.Correct.{corrected_of}
use Rattle.registers.specs.Rates.{ratio_holds, rate_number}
use Rattle.r82xx.specs.Record.{made_of}
use Rattle.r82xx.specs.Orders.{result_of}
use Rattle.r82xx.specs.Orders.Order.{Tune}
use Rattle.records.specs.Drivers.{driver_bytes, driver_fits, driver_of, is_driver}
use Rattle.records.specs.Fields.{flags_only}
use Rattle.records.specs.Tuners.{is_tuner, tuner_bytes, tuner_fits, tuner_of}
use Rattle.status.specs.Reversal.{reversed}
use Rattle.tuning.specs.Mux.{last_at, range_of}
use Rattle.tuning.specs.Program.{inner_steps}
use Rattle.tuning.specs.Tries.{repair_updates, reply_bytes, tries_from}
use Rattle.tuners.specs.Over.{next_of, over_tuner, over_tuning, ready_of, lock_tries_over, unless_refused}
use Rattle.tuners.specs.Still.{fresh_into}
use Rattle.drivers.specs.Drivers.{both_ready, over_both, lock_tries_both}
use Rattle.wire.specs.Bytes.{le_bytes, le_value}
use Rattle.wire.specs.Parts.{joined}
use Rattle.sequences.specs.Asides.{Aside, aside}
use Rattle.sequences.specs.Asides.Other.{Pin}
use Rattle.carried.specs.Exported.{Lent, aside_entries_of, entries_of, leaves, lent}
use Rattle.carried.specs.Exported.Exported.{Own, Rate, Hop}
use Rattle.carried.specs.Carried.{Carried}
use Rattle.carried.specs.Carried.Carried.{fresh, next, between}

-- an R828D at 0x74 with 28,800,000 Hz; a generic board's driver
abbrev new : List ℕ
new = take 78 (fresh_into 1 0x74 28_800_000 (replicate 80 0xff)).out

abbrev board : List ℕ
board = 0 ∷ 0x00 ∷ 0x74 ∷ 0xb7 ∷ 0x01 ∷ replicate 24 0

-- 100 MHz; the first try locks
abbrev tuning : Lent
tuning = lent (Own (Tune 100_000_000 (replicate 7 0 ++ (255 ∷ replicate 27 0)))) (replicate 53 0) (replicate 856 0) (replicate 78 0)

abbrev pin : Aside
pin = aside (Pin (Bit 5 1 (0 ∷ []))) (replicate 2 0) (replicate 40 0)

abbrev rating : Lent
rating = lent (Rate 2_048_000 [] board (replicate 29 0)) (replicate 17 0) (replicate 280 0) (replicate 78 0)

-- one band with a path for all frequencies; behind the path's ten entries and the opening the mux's first write, of 0x17, fails
abbrev table : List ℕ
table = replicate 8 0 ++ (replicate 8 255 ++ (replicate 8 0 ++ (0 ∷ 1 ∷ 0 ∷ [])))

abbrev hopping : Lent
hopping = lent (Hop 100_000_000 table (replicate 38 0) board (replicate 29 0)) (replicate 11 0 ++ (1 ∷ replicate 52 0)) (replicate 1032 0) (replicate 78 0)

abbrev first : List ℕ
first = (leaves tuning new).bytes

abbrev second : List ℕ
second = (leaves rating first).bytes

abbrev third : List ℕ
third = (leaves hopping second).bytes

pub worked_carried : Carried third (((([] ++ entries_of tuning new) ++ aside_entries_of pin) ++ entries_of rating first) ++ entries_of hopping second)
unfolding made_of lent_to tuner_bytes joined le_bytes every
worked_carried =
    next second _
    (next first _ (between first _ (next new [] (fresh 1 0x74 28_800_000 (replicate 80 0xff) (omega arith) refl) tuning refl) pin refl) rating refl) hopping refl

pub tuned : (leaves tuning new).reply.refusal ≡ 0
unfolding made_of lent_to tuner_bytes joined le_bytes over_tuning over_tuner unless_refused ready_of tuner_of is_tuner tuner_fits
    flags_only le_value left_by call_of too_short trace run step in_vco first_mixer setting_of turn_of turns_of plan_with plan_of
    inner_steps repair_updates tries_from reply_bytes range_of last_at reversed attempted_by mask_of to_bits of_bits
tuned = refl

pub rated : (leaves rating first).reply.refusal ≡ 0
unfolding made_of lent_to tuner_bytes joined le_bytes over_tuning over_tuner unless_refused ready_of tuner_of is_tuner tuner_fits
    flags_only le_value left_by call_of too_short trace run step in_vco first_mixer setting_of turn_of turns_of plan_with plan_of
    inner_steps repair_updates tries_from reply_bytes range_of last_at reversed attempted_by mask_of result_of next_of
    lock_tries_over over_both both_ready driver_of is_driver driver_fits driver_bytes rate_result xtal_by corrected_of ratio_holds
    rate_number reset_steps rate_steps if_steps ddc_steps access_step plan_by table_ok ascending bands_in plan_in tries_in locked_in
    to_bits of_bits
rated = refl

-- entry 11 failed, which is no closing, and of the mux's registers 0x17 alone is in doubt
pub hopped : ((leaves hopping second).reply.refusal ≡ STEP) × ((leaves hopping second).reply.index ≡ 11)
unfolding made_of lent_to tuner_bytes joined le_bytes over_tuning over_tuner unless_refused ready_of tuner_of is_tuner tuner_fits
    flags_only le_value left_by call_of too_short trace run step in_vco first_mixer setting_of turn_of turns_of plan_with plan_of
    inner_steps repair_updates tries_from reply_bytes range_of last_at reversed attempted_by mask_of result_of next_of
    lock_tries_over over_both both_ready driver_of is_driver driver_fits driver_bytes rate_result xtal_by corrected_of ratio_holds
    rate_number reset_steps rate_steps if_steps ddc_steps access_step plan_by table_ok ascending bands_in plan_in tries_in locked_in
    hop_result lock_tries_both band_of plan_at output_steps bit_steps to_bits of_bits
hopped = (refl, refl)

pub doubted : (get_or third (51 + 18) 1 ≡ 1) × (get_or third (51 + 21) 1 ≡ 0)
unfolding made_of lent_to tuner_bytes joined le_bytes over_tuning over_tuner unless_refused ready_of tuner_of is_tuner tuner_fits
    flags_only le_value left_by call_of too_short trace run step in_vco first_mixer setting_of turn_of turns_of plan_with plan_of
    inner_steps repair_updates tries_from reply_bytes range_of last_at reversed attempted_by mask_of result_of next_of
    lock_tries_over over_both both_ready driver_of is_driver driver_fits driver_bytes rate_result xtal_by corrected_of ratio_holds
    rate_number reset_steps rate_steps if_steps ddc_steps access_step plan_by table_ok ascending bands_in plan_in tries_in locked_in
    hop_result lock_tries_both band_of plan_at output_steps bit_steps to_bits of_bits
doubted = (refl, refl)
