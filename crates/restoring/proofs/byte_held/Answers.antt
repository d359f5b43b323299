-- `restoring::byte_held` meets its contract.
-- Assumes nothing.
use native.Mathlib.Omega.{arith}
use borrow.Author.Tests.{ne_eqb}
use Rattle.restoring.specs.Standing.{held_of, sure_of}
use Rattle.restoring.proofs.Laying.{none_past}
use Rattle.restoring.proofs.byte_held.Goals as goal

pub returns-then-r-gt31 : goal.returns-then-r-gt31
unfolding held_of
returns-then-r-gt31 c = rw (← none_past c.args.known.now c.args.r (omega arith))

pub returns-in-Some : goal.returns-in-Some
unfolding held_of sure_of
returns-in-Some c = rw (c.in-Some.is, c.if-sent-eq2.true)

pub returns-in_default : goal.returns-in_default
unfolding held_of sure_of
returns-in_default c = rw (c.in-Some.is, ne_eqb _ 2 c.if-sent-eq2.false)

pub returns-in_default-2 : goal.returns-in_default-2
unfolding held_of sure_of
returns-in_default-2 c = rw c.in_default.is
