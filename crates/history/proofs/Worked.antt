-- A history that there is, worked out: a fresh record at 0x74, then a reload whose second write failed, then one that was done. It shows that the
-- theorems speak of something. Assumes nothing.
use Prim.Native.Nat.{ℕ}
use mathlib.Core.Path.{◌≡◌, refl}
use mathlib.Core.Bool.{true, false}
use mathlib.Core.List.{List, [], ◌∷◌, ◌++◌}
use native.Mathlib.Omega.{arith}
use lib.ListN.{length, replicate, drop}
use Rattle.chip.specs.declared.Chip.{Chip}
use Rattle.chip.specs.declared.Progress.TheVariants.{Refused11}
use Rattle.chip.specs.Chips.{attempted_by}
use Rattle.chip.specs.Entries.{repeater}
use Rattle.chip.specs.Steps.{chunk_bytes, run, step, trace}
use Rattle.history.specs.Programs.{reload_steps}
use Rattle.history.specs.Histories.{Fresh, History}
use Rattle.history.specs.Histories.History.{made}
use Rattle.history.proofs.Demand.{reload_called}

abbrev bytes : List ℕ
bytes = 1 ∷ 2 ∷ 3 ∷ 4 ∷ 5 ∷ 6 ∷ 7 ∷ 8 ∷ 9 ∷ 10 ∷ 11 ∷ 12 ∷ 13 ∷ 14 ∷ 15 ∷ 16 ∷ 17 ∷ 18 ∷ 19 ∷ 20 ∷ 21 ∷ 22 ∷ 23 ∷ 24 ∷ 25 ∷ 26 ∷ 27 ∷ []

abbrev fresh : Chip
fresh = record { address = 0x74; shadow = bytes; doubtful = replicate 27 true }

-- opened, a write done, a write failed, closed
abbrev outcomes : List ℕ
outcomes = 0 ∷ 0 ∷ 1 ∷ 0 ∷ []

pub second_failed : (trace outcomes (reload_steps bytes) fresh).progress ≡ Refused11 2
unfolding trace run step attempted_by chunk_bytes
second_failed = refl

pub then_closed : drop 3 (trace outcomes (reload_steps bytes) fresh).log ≡ repeater 0 true ∷ []
unfolding trace run step attempted_by chunk_bytes
then_closed = refl

pub first_sure : (trace outcomes (reload_steps bytes) fresh).chip.doubtful ≡ replicate 7 false ++ replicate 20 true
unfolding trace run step attempted_by chunk_bytes
first_sure = refl

-- an opening that fails is not closed
pub not_closed : (trace (1 ∷ []) (reload_steps bytes) fresh).log ≡ repeater 1 false ∷ []
unfolding trace run step attempted_by chunk_bytes
not_closed = refl

-- all done: nine entries, the shadow at the bytes sent, no doubt
pub all_done : length (trace [] (reload_steps bytes) fresh).log ≡ 9
unfolding trace run step attempted_by chunk_bytes
all_done = refl

pub no_doubt : (trace [] (reload_steps bytes) fresh).chip.doubtful ≡ replicate 27 false
unfolding trace run step attempted_by chunk_bytes
no_doubt = refl

pub shadow_set : (trace [] (reload_steps bytes) fresh).chip.shadow ≡ bytes
unfolding trace run step attempted_by chunk_bytes
shadow_set = refl

-- and it is a history
is_fresh : Fresh bytes fresh
is_fresh = record { chip = omega arith; long = refl; shadow = refl; doubtful = refl }

abbrev cut : Chip
cut = (trace outcomes (reload_steps bytes) fresh).chip

pub again : History bytes (trace [] (reload_steps cut.shadow) cut).chip ([] ++ (trace outcomes (reload_steps bytes) fresh).log ++ (trace [] (reload_steps cut.shadow) cut).log)
again = reload_called bytes cut ([] ++ (trace outcomes (reload_steps bytes) fresh).log) (reload_called bytes fresh [] (made fresh is_fresh) outcomes) []
