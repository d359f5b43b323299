-- `witness::noted_demod` meets its contract. The loop's invariant: the slots from k on, over what is told by then, are all slots over what was told.
-- Assumes nothing.
use mathlib.Core.Path.{◌≡◌}
use mathlib.Core.List.{[], ◌∷◌}
use Rattle.restoring.specs.Standing.{over}
use Rattle.witness.proofs.Slots.{from}
use Rattle.witness.proofs.noted_demod.Given as goal

abbrev pub invariant-loop-k : goal.invariant-loop-k
invariant-loop-k l = over (from (l.e ∷ []) l.k) 0 l.known ≡ over (from (l.e ∷ []) 8) 0 l.initial.known
