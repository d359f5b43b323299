-- `restoring::walked` meets its contract. The loop's invariant: what stands before `end` is sections end to end exactly where the slice is, and its entries, over what is told by then, are all entries over what was told.
-- Assumes nothing.
use Prim.Native.Nat.{◌≤◌}
use mathlib.Core.Path.{◌≡◌}
use lib.ListN.{length, take}
use Rattle.sections.specs.Chain.{chain, chain_entries}
use Rattle.restoring.specs.Standing.{over, known_in}
use Rattle.restoring.proofs.walked.Given as goal

abbrev pub invariant-loop-end : goal.invariant-loop-end
invariant-loop-end l = (l.end ≤ length l.s)
    × ((chain (take l.end l.s) ≡ chain l.s)
    × (over (known_in l.address (chain_entries (take l.end l.s))) 0 l.known ≡ over (known_in l.address (chain_entries l.s)) 0 l.initial.known))

abbrev pub decreases-loop-end : goal.decreases-loop-end
decreases-loop-end l = l.end
