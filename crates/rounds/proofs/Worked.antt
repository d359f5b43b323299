-- The rule is no weaker than it must be, shown at a GPIO bit: an outcome and a reply below an entry do decide it. And its rounds worked out. Assumes nothing.
use Prim.Native.Nat.{ℕ}
use mathlib.Core.Path.{◌≡◌, refl}
use mathlib.Core.List.{List, [], ◌∷◌}
use lib.ListN.{replicate}
use Rattle.transcript.specs.declared.Entry.{Entry}
use Rattle.chip.specs.Calls.{too_short}
use Rattle.chip.specs.Steps.{every, run, step, trace}
use Rattle.device.specs.Accesses.{access_step, block_write}
use Rattle.device.specs.Gpio.{bit_steps, with_bit}
use Rattle.device.specs.Gpio.Order.{Bit}
use Rattle.sequences.specs.Asides.Other.{Pin}
use Rattle.rounds.specs.Driven.{Rounds, ended}
use Rattle.rounds.specs.Driven.RoundsBy.{begun, round}
use Rattle.rounds.specs.Scripts.{Ask, Script, made, step_at, took}
use Rattle.rounds.specs.Scripts.Ask.{Beside}
use Rattle.rounds.proofs.Rounds.{depends_on_before}

-- GPIO 5 goes high: the register is read, and written with the bit
abbrev bit : Ask
bit = Beside (Pin (Bit 5 1 []))

abbrev lent : List ℕ → List ℕ → Script
lent os rs = record { outcomes = os; replies = rs; room = replicate 40 0 }

abbrev reading : Entry
reading = record { kind = 8; outcome = 0; target = 2; n = 1; address = 0x3001; bytes = replicate 8 0 }

-- entry 0 is the read, whatever the script says: nothing stands before it
pub first_step : (o p a : ℕ) → reading ∷ [] ≡ step_at 0 (made bit (lent (o ∷ p ∷ []) (a ∷ [])))
unfolding took trace run step too_short access_step bit_steps
first_step o p a =
    (depends_on_before bit 0 (lent (0 ∷ 0 ∷ []) (0 ∷ [])) (lent (o ∷ p ∷ []) (a ∷ []))
    (record { outcomes = refl; replies = refl; refused = refl })
    ).here

-- entry 1 is what the reply says, however it ends
pub reply_decides : (p a : ℕ) → step_at 1 (made bit (lent (0 ∷ p ∷ []) (a ∷ []))) ≡ block_write 2 0x3001 (with_bit a 5) ∷ []
unfolding trace run step too_short access_step bit_steps
reply_decides p a = refl

-- and there is none where the read failed
pub outcome_decides : (p a : ℕ) → step_at 1 (made bit (lent (1 ∷ p ∷ []) (a ∷ []))) ≡ []
unfolding trace run step too_short access_step bit_steps
outcome_decides p a = refl

-- a receiver whose register holds 2 and whose write fails
pub bit_driven : Rounds bit (0 ∷ 1 ∷ []) (2 ∷ []) (ended reading 0 (2 ∷ []) ∷ ended (block_write 2 0x3001 0x22) 1 [] ∷ [])
unfolding every trace run step too_short access_step bit_steps
bit_driven =
    round (0 ∷ []) (2 ∷ []) (ended reading 0 (2 ∷ []) ∷ [])
    (round [] [] [] begun (lent (0 ∷ 0 ∷ []) (0 ∷ [])) (record { outcomes = refl; replies = refl; taken = refl }) reading refl 0 (2 ∷ []) refl refl)
    (lent (0 ∷ 0 ∷ []) (2 ∷ [])) (record { outcomes = refl; replies = refl; taken = refl }) (block_write 2 0x3001 0x22) refl 1 [] refl refl
