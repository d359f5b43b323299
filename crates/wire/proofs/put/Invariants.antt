-- `wire::put` meets its contract. The loop's invariant: storing the bytes that are left gives what storing all of them gave.
-- Assumes nothing.
use Prim.Native.Nat.{◌≤◌, ◌+◌, ◌-◌}
use mathlib.Core.Path.{◌≡◌}
use lib.ListN.{length}
use lib.Seq.{sets}
use Rattle.wire.specs.Bytes.{le_bytes}
use Rattle.wire.proofs.put.Given as goal

abbrev pub invariant-loop-i : goal.invariant-loop-i
invariant-loop-i l = (l.i ≤ l.k) × ((length l.s ≡ length l.initial.s) × (sets l.s (l.at + l.i) (le_bytes (l.k - l.i) l.rest) ≡ sets l.initial.s l.at (le_bytes l.k l.n)))

abbrev pub decreases-loop-i : goal.decreases-loop-i
decreases-loop-i l = l.k - l.i
