-- `restoring::sure` meets its contract.
-- Assumes nothing.
use native.Mathlib.Omega.{arith}
use Rattle.restoring.specs.Standing.{sure_of}
use Rattle.restoring.proofs.Laying.{none_past}
use Rattle.restoring.proofs.sure.Goals as goal

pub returns-then-r-gt31 : goal.returns-then-r-gt31
returns-then-r-gt31 c = none_past c.args.known.now c.args.r (omega arith)

pub returns-in-Some : goal.returns-in-Some
unfolding sure_of
returns-in-Some c = rw c.in-Some.is

pub returns-in-None : goal.returns-in-None
unfolding sure_of
returns-in-None c = rw c.in-None.is
