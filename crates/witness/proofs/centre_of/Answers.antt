-- `witness::centre_of` meets its contract.
-- Assumes nothing.
use Prim.Native.Nat.{◌-◌}
use mathlib.Core.Path.{◌≡◌, refl}
use native.Mathlib.Omega.{arith}
use Rattle.evidence.specs.Evidence.{centre_of}
use Rattle.witness.proofs.centre_of.Goals as goal

pub returns-then-lo-offset : goal.returns-then-lo-offset
unfolding centre_of
returns-then-lo-offset c =
    let a = c.args in
    let none : a.lo - a.offset ≡ 0 = omega arith in
    rw none

pub returns : goal.returns
unfolding centre_of
returns c = refl
