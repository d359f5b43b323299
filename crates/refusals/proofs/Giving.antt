-- The three cases of a lent slice. Assumes nothing.
use Prim.Native.Nat.{ℕ, ◌+◌, ◌<◌, ◌≤◌}
use mathlib.Core.Path.{◌≡◌, ap, ◌∙◌}
use mathlib.Core.List.{List, ◌++◌, append-nil}
use native.Mathlib.Omega.{arith}
use borrow.Author.Tests.{eq-eqb, ne_eqb, lt-ltb, le-ltb}
use lib.ListN.{length, drop_of_length-le}
use lib.Seq.{sets, sets-eq}
use Rattle.refusals.specs.declared.Answer.TheVariants.{Done, Refused}
use Rattle.refusals.specs.Lent.{given, lent_to}
use Rattle.refusals.specs.Table.{ROOM}

module _ (refusal value : ℕ) (bytes out : List ℕ) where
  pub refused : 0 < refusal → given (Refused refusal) out ≡ lent_to refusal value bytes out
  unfolding lent_to
  refused h = rw (ne_eqb refusal 0 (λ e. omega arith))

  pub too_short : refusal ≡ 0 → length out < length bytes → given (Refused ROOM) out ≡ lent_to refusal value bytes out
  unfolding lent_to
  too_short z h = rw (eq-eqb refusal 0 z, lt-ltb (length out) (length bytes) h)

  pub laid : refusal ≡ 0 → length bytes ≤ length out → given (Done value) (sets out 0 bytes) ≡ lent_to refusal value bytes out
  unfolding lent_to
  laid z h = rw (eq-eqb refusal 0 z, le-ltb (length out) (length bytes) h)

-- bytes laid over as many leave nothing of them
pub covered : (l s : List ℕ) → length s ≡ length l → sets l 0 s ≡ s
covered l s h =
    let past : length l ≤ 0 + length s = omega arith in
    sets-eq s l 0 (omega arith) ∙ ap (λ (u : List ℕ). s ++ u) (drop_of_length-le l past) ∙ append-nil s
