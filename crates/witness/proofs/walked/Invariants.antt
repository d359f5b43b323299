-- `witness::walked` meets its contract. The loop's invariant: what stands before `end` is sections end to end exactly where the slice is, and its entries, over what is gathered by then, are all entries over nothing.
-- Assumes nothing.
use Prim.Native.Nat.{◌≤◌}
use mathlib.Core.Path.{◌≡◌}
use lib.ListN.{length, take}
use Rattle.sections.specs.Chain.{chain, chain_entries}
use Rattle.witness.specs.Walk.{seen_all}
use Rattle.witness.proofs.walked.Given as goal

abbrev pub invariant-loop-end : goal.invariant-loop-end
invariant-loop-end l = (l.end ≤ length l.s)
    × ((chain (take l.end l.s) ≡ chain l.s)
    × (seen_all l.address (chain_entries (take l.end l.s)) l.seen ≡ seen_all l.address (chain_entries l.s) l.initial.seen))

abbrev pub decreases-loop-end : goal.decreases-loop-end
decreases-loop-end l = l.end
