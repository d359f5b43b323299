-- `expansion::counted` meets its contract. The loop's invariant: the entries so far and those of the bytes left make the whole, and all are heard if those left are.
-- Assumes nothing.
use Prim.Native.Nat.{◌+◌, ◌-◌, ◌≤◌}
use mathlib.Core.Path.{◌≡◌}
use lib.ListN.{length, drop}
use Rattle.expansion.specs.Expansion.{all_heard, heard_entries}
use Rattle.expansion.proofs.counted.Given as goal

abbrev pub invariant-loop-at : goal.invariant-loop-at
invariant-loop-at l = (l.i ≤ 4096)
    × (l.at ≤ length l.b)
    × (all_heard (4096 - l.i) (drop l.at l.b) ≡ all_heard 4096 l.b)
    × (l.i + length (heard_entries (4096 - l.i) (drop l.at l.b)) ≡ length (heard_entries 4096 l.b))

abbrev pub decreases-loop-at : goal.decreases-loop-at
decreases-loop-at l = length l.b - l.at
