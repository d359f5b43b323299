-- `wire::get` meets its contract. The loop's invariant: n is the value of the bytes from i on, and below 256 to their number.
-- Assumes nothing.
use Prim.Native.Nat.{◌≤◌, ◌<◌, ◌+◌, ◌-◌, ◌^◌}
use mathlib.Core.Path.{◌≡◌}
use lib.ListN.{take, drop}
use Rattle.wire.specs.Bytes.{le_value}
use Rattle.wire.proofs.get.Given as goal

abbrev pub invariant-loop-i : goal.invariant-loop-i
invariant-loop-i l = (l.i ≤ l.k) × ((l.n ≡ le_value (take (l.k - l.i) (drop (l.at + l.i) l.s))) × (l.n < 256 ^ (l.k - l.i)))

abbrev pub decreases-loop-i : goal.decreases-loop-i
decreases-loop-i l = l.i
