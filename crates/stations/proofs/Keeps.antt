-- What a tuning, a board-level tune and a reload leave of a tuner's record, whatever they are answered: kind, IF, both references and the chip's
-- address. Assumes nothing.
use Prim.Native.Nat.{ℕ}
use mathlib.Core.Path.{◌≡◌, refl, ◌∙◌}
use mathlib.Core.Bool.{Bool, true, false, cond}
use mathlib.Core.List.{List}
use lib.Dec.{eqb}
use Rattle.boards.specs.Hops.{hop_result}
use Rattle.refusals.specs.declared.Answer.{Answer}
use Rattle.refusals.specs.declared.Answer.TheVariants.{Refused}
use Rattle.chip.specs.declared.Chip.{Chip}
use Rattle.chip.specs.Calls.{call_of, called, performed}
use Rattle.chip.specs.Courses.{left_by}
use Rattle.chip.specs.Steps.{Step, Trace, in_list, trace}
use Rattle.chip.proofs.Laws.{run_address}
use Rattle.driver.specs.declared.Driver.{Driver}
use Rattle.driver.specs.Calls.{Both}
use Rattle.r82xx.specs.declared.Tuner.{Tuner}
use Rattle.r82xx.specs.Orders as tuner
use Rattle.r82xx.specs.Orders.Order.{Reload, Tune}
use Rattle.sequences.specs.Calls.{call, tuner_after}
use Rattle.sequences.specs.Calls.Order.{BoardTune, Tuned}

pub record Same (t u : Tuner) : Type 0 where
  pub kind : u.kind ≡ t.kind
  pub ifreq : u.ifreq ≡ t.ifreq
  pub nominal : u.nominal ≡ t.nominal
  pub corrected : u.corrected ≡ t.corrected
  pub address : u.chip.address ≡ t.chip.address

pub same_then : (t u v : Tuner) → Same t u → Same u v → Same t v
same_then t u v a b =
    record {
      kind = b.kind ∙ a.kind;
      ifreq = b.ifreq ∙ a.ifreq;
      nominal = b.nominal ∙ a.nominal;
      corrected = b.corrected ∙ a.corrected;
      address = b.address ∙ a.address;
    }

-- what holds of the record as the steps left it, and of the one given, holds of the one handed back
kept : {R : Type 0} (P : R → Type 0) (number : ℕ) (whole : Answer) (os : List ℕ) (ss : List Step) (c : Chip) (keep : Trace → R) (old : R) (room : List ℕ)
    → P (keep (trace os ss c)) → P old → P (call_of number whole os ss c keep old room).next
unfolding call_of
kept {R} P number whole os ss c keep old room a b = go (eqb number 0)
  where
    go : (x : Bool) → P (cond x (performed whole keep room (trace os ss c)) (called old room 0 (Refused number))).next
    go true = a
    go false = b

pub itself : (t : Tuner) → Same t t
itself t = record { kind = refl; ifreq = refl; nominal = refl; corrected = refl; address = refl }

same_address : (os : List ℕ) (ss : List Step) (c : Chip) → (trace os ss c).chip.address ≡ c.address
unfolding trace
same_address os ss c = run_address in_list os ss _

module _ (t : Tuner) (os room : List ℕ) where
  pub reload_same : Same t (tuner_after (call (Tuned Reload) os room) t)
  unfolding tuner.result_of left_by
  reload_same =
      kept (Same t) _ _ os _ t.chip _ t room
      (record { kind = refl; ifreq = refl; nominal = refl; corrected = refl; address = same_address os _ t.chip }) (itself t)

  pub tune_same : (hz : ℕ) (rs : List ℕ) → Same t (tuner_after (call (Tuned (Tune hz rs)) os room) t)
  unfolding tuner.result_of left_by
  tune_same hz rs =
      kept (Same t) _ _ os _ t.chip _ t room
      (record { kind = refl; ifreq = refl; nominal = refl; corrected = refl; address = same_address os _ t.chip }) (itself t)

  pub hop_same : (hz : ℕ) (table rs : List ℕ) (d : Driver) → Same t (tuner_after (call (BoardTune hz table rs d) os room) t)
  unfolding hop_result left_by
  hop_same hz table rs d =
      kept (λ (x : Both). Same t x.tuner) _ _ os _ t.chip _ _ room
      (record { kind = refl; ifreq = refl; nominal = refl; corrected = refl; address = same_address os _ t.chip }) (itself t)
