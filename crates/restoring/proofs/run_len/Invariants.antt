-- `restoring::run_len` meets its contract. The loop's invariant: what is counted, and the run from there, are the whole run.
-- Assumes nothing.
use Prim.Native.Nat.{◌≤◌, ◌+◌, ◌-◌}
use mathlib.Core.Path.{◌≡◌}
use Rattle.restore.specs.Restore.{run_len}
use Rattle.restoring.specs.Standing.{sure_of}
use Rattle.restoring.proofs.run_len.Given as goal

abbrev pub invariant-loop-k : goal.invariant-loop-k
invariant-loop-k l = (l.k ≤ 7) × (l.k + run_len (sure_of l.known) (7 - l.k) (l.i + l.k) ≡ run_len (sure_of l.known) 7 l.i)
