-- A host that died, so that the theorems of proofs/Crashed.antt speak of something: it set the bandwidth on the bytes of a fresh record, the opening of the repeater was done and
-- kept, and it died at the write of 0x0a. Assumes nothing.
use Prim.Native.Nat.{ℕ, zero, suc, ◌+◌, ◌≤◌, ◌<◌}
use mathlib.Core.Path.{◌≡◌, refl, ap}
use mathlib.Core.Bool.{true, false}
use mathlib.Core.List.{List, [], ◌∷◌}
use native.Mathlib.Omega.{arith}
use lib.Dec.{eqb}
use lib.Ieee.{of_bits, to_bits}
use lib.ListN.{get_or, length, replicate}
use Rattle.transcript.specs.declared.Entry.{Entry}
use Rattle.transcript.specs.Entries.{bare}
use Rattle.chip.specs.Calls.{call_of, too_short}
use Rattle.chip.specs.Chips.{attempted_by, mask_of}
use Rattle.chip.specs.Courses.{left_by}
use Rattle.chip.specs.Entries.{repeater}
use Rattle.chip.specs.Steps.{every, run, step, trace}
use Rattle.refusals.specs.Lent.{lent_to}
use Rattle.refusals.specs.Table.{STEP}
use Rattle.r82xx.specs.declared.Tuner.{Tuner}
use Rattle.r82xx.specs.Orders.{bracket}
use Rattle.r82xx.specs.Orders.Order.{Bandwidth}
use Rattle.r82xx.specs.Record.{made_of}
use Rattle.records.specs.Fields.{flags_only}
use Rattle.records.specs.Tuners.{is_tuner, tuner_bytes, tuner_fits, tuner_of}
use Rattle.records.proofs.Exact.{Ranged}
use Rattle.rounds.specs.Driven.{ended}
use Rattle.rounds.specs.Driven.RoundsBy.{begun, round}
use Rattle.rounds.specs.Scripts.{step_at}
use Rattle.tuners.specs.Over.{next_of, over_tuner, ready_of, unless_refused}
use Rattle.wire.specs.Bytes.{le_bytes, le_value}
use Rattle.wire.specs.Parts.{joined}
use Rattle.carried.specs.Crashed.{Kept, Knows, Memory, Rounds, called_with, heard}
use Rattle.carried.specs.Exported.{Exported, leaves}
use Rattle.carried.specs.Exported.Exported.{Own}
use Rattle.carried.proofs.Crashed.{met}
use Rattle.carried.proofs.Demand.{made_ranged}

-- an R828D at 0x74
abbrev tuner : Tuner
tuner = (made_of 1 0x74 28_800_000).tuner

abbrev new : List ℕ
new = tuner_bytes tuner

in_ranges : Ranged tuner
unfolding made_of
in_ranges = (made_ranged 1 0x74 28_800_000 (omega arith) refl).1

abbrev setting : Exported
setting = Own (Bandwidth 2_048_000)

-- memory for three entries, and the least
abbrev memory : List ℕ → Memory
memory outcomes = record { outcomes = outcomes; replies = []; room = replicate 56 0; next = replicate 78 0; slot = [] }

abbrev opening : Entry
opening = bare (repeater 1 true)

-- the first round: all is done as far as is known, and the first step is the opening
begun_so : Knows setting new [] [] (memory (0 ∷ 0 ∷ 0 ∷ []))
unfolding made_of lent_to tuner_bytes joined le_bytes over_tuner unless_refused ready_of tuner_of is_tuner tuner_fits flags_only le_value
    left_by call_of too_short trace run step attempted_by mask_of next_of bracket to_bits of_bits every
begun_so = record { outcomes = refl; replies = refl; numbers = refl; taken = refl }

first_step : step_at 0 (heard setting new (memory (0 ∷ 0 ∷ 0 ∷ []))) ≡ opening ∷ []
unfolding made_of too_short trace run step attempted_by mask_of bracket
first_step = ap (step_at 0) (met tuner in_ranges setting (memory (0 ∷ 0 ∷ 0 ∷ [])) begun_so.numbers begun_so.taken).entries

pub one_round : Rounds setting new (0 ∷ []) [] (ended opening 0 [] ∷ [])
unfolding every
one_round = round [] [] [] begun (memory (0 ∷ 0 ∷ 0 ∷ [])) begun_so opening first_step 0 [] refl refl

-- what it had kept
rest_failed : (j : ℕ) → 1 ≤ j → j < 3 → eqb (get_or (0 ∷ 1 ∷ 1 ∷ []) j 0) 0 ≡ false
rest_failed zero h l = absurd (omega arith)
rest_failed (suc zero) h l = refl
rest_failed (suc (suc zero)) h l = refl
rest_failed (suc (suc (suc j))) h l = absurd (omega arith)

pub kept_so : Kept setting new (0 ∷ []) [] (memory (0 ∷ 1 ∷ 1 ∷ []))
unfolding made_of lent_to tuner_bytes joined le_bytes over_tuner unless_refused ready_of tuner_of is_tuner tuner_fits flags_only le_value
    left_by call_of too_short trace run step attempted_by mask_of next_of bracket to_bits of_bits every
kept_so = record { known = record { outcomes = refl; replies = refl; numbers = refl; taken = refl }; vain = rest_failed }

-- the call with it tells three entries, is refused 11 for its entry 1, and leaves 0x0a in doubt
told_three : length (heard setting new (memory (0 ∷ 1 ∷ 1 ∷ []))) ≡ 3
unfolding made_of too_short trace run step attempted_by mask_of bracket
told_three = ap length (met tuner in_ranges setting (memory (0 ∷ 1 ∷ 1 ∷ [])) kept_so.known.numbers kept_so.known.taken).entries

pub died_told : (length (heard setting new (memory (0 ∷ 1 ∷ 1 ∷ []))) ≡ 3)
    × ((leaves (called_with setting (memory (0 ∷ 1 ∷ 1 ∷ []))) new).reply.refusal ≡ STEP)
    × ((leaves (called_with setting (memory (0 ∷ 1 ∷ 1 ∷ []))) new).reply.index ≡ 1)
    × (get_or (leaves (called_with setting (memory (0 ∷ 1 ∷ 1 ∷ []))) new).bytes (51 + 5) 1 ≡ 1)
unfolding made_of lent_to tuner_bytes joined le_bytes over_tuner unless_refused ready_of tuner_of is_tuner tuner_fits flags_only le_value
    left_by call_of too_short trace run step attempted_by mask_of next_of bracket to_bits of_bits every
died_told = (told_three, refl, refl, refl)
