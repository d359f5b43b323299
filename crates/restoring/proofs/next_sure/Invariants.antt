-- `restoring::next_sure` meets its contract. The loop's invariant: the next from here is the next from the start.
-- Assumes nothing.
use Prim.Native.Nat.{◌-◌}
use mathlib.Core.Path.{◌≡◌}
use Rattle.restoring.specs.Standing.{next_sure, sure_of}
use Rattle.restoring.proofs.next_sure.Given as goal

abbrev pub invariant-loop-r : goal.invariant-loop-r
invariant-loop-r l = next_sure (sure_of l.known) (32 - l.r) l.r ≡ next_sure (sure_of l.known) (32 - l.i) l.i
