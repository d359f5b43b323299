-- `restoring::noted` meets its contract. The loop's invariant: the registers from the j-th on, over what is told by then, are all registers of the write over what was told.
-- Assumes nothing.
use Prim.Native.Nat.{◌-◌}
use mathlib.Core.Path.{◌≡◌}
use Rattle.attempts.specs.Attempts.{done, first_of}
use Rattle.restoring.specs.Standing.{over}
use Rattle.restoring.proofs.Telling.{rest}
use Rattle.restoring.proofs.noted.Given as goal

abbrev pub invariant-loop-j : goal.invariant-loop-j
invariant-loop-j l = over (rest (first_of l.fn.e) l.fn.e.n (done l.fn.e) l.fn.e.bytes (l.j - 1)) 0 l.known ≡ over (rest (first_of l.fn.e) l.fn.e.n (done l.fn.e) l.fn.e.bytes 0) 0 l.initial.known
