-- What a caller may rely on where there is no plan. Assumes nothing.
use Prim.Native.Nat.{ℕ}
use mathlib.Core.Path.{◌≡◌, refl}
use mathlib.Core.Bool.{Bool, true, false, cond}
use mathlib.Core.List.{List, [], ◌∷◌}
use lib.Dec.{ltb}
use lib.IntN.{ℤ, pos, negsuc, ◌+ℤ◌}
use mir.Syntax.{w64}
use mir.Val.{to_z}
use Rattle.refusals.specs.Table.{FREQUENCY, TABLE}
use Rattle.bands.specs.declared.Band.{Band}
use Rattle.bands.specs.declared.Planned.{Planned}
use Rattle.bands.specs.Tables.{bands_of, holds, landed, plan_at, plan_by, plan_in, refused, table_ok, tuned}

-- 19 for a malformed table, whatever the frequency
pub malformed : (s : List ℕ) (hz : ℕ) → table_ok s ≡ false → plan_by s hz ≡ refused TABLE
unfolding plan_by
malformed s hz h = rw h

-- refused, an answer is nothing but its number
abbrev Plain : Planned → Type 0
Plain p = (p.refusal ≡ 0 → ⊥) → p ≡ refused p.refusal

either : (t : Bool) (p q : Planned) → Plain p → Plain q → Plain (cond t p q)
either true p q f g = f
either false p q f g = g

landed_plain : (b : Band) (z : ℤ) → Plain (landed b z)
landed_plain b (pos n) = either (ltb n 18446744073709551616) (tuned b n) (refused FREQUENCY) (λ h. absurd (h refl)) (λ h. refl)
landed_plain b (negsuc n) = λ h. refl

in_plain : (bs : List Band) (hz : ℕ) → Plain (plan_in bs hz)
unfolding plan_in plan_at
in_plain [] hz = λ h. refl
in_plain (b ∷ bs) hz = either (holds b hz) (plan_at b hz) (plan_in bs hz) (landed_plain b (pos hz +ℤ to_z w64 b.shift)) (in_plain bs hz)

pub no_plan : (s : List ℕ) (hz : ℕ) → ((plan_by s hz).refusal ≡ 0 → ⊥) → plan_by s hz ≡ refused (plan_by s hz).refusal
unfolding plan_by
no_plan s hz = either (table_ok s) (plan_in (bands_of s) hz) (refused TABLE) (in_plain (bands_of s) hz) (λ h. refl)
