-- `answers::coefficients` meets its contract. The loop's invariant: the numbers read, with those that are left to read, are all sixteen.
-- Assumes nothing.
use Prim.Native.Nat.{◌≤◌, ◌-◌, ◌*◌}
use mathlib.Core.Path.{◌≡◌}
use mathlib.Core.List.{◌++◌}
use lib.ListN.{length, take, drop}
use Rattle.answers.specs.Lent.{words_in}
use Rattle.answers.proofs.coefficients.Given as goal

abbrev pub invariant-loop-i : goal.invariant-loop-i
invariant-loop-i l = (l.i ≤ 16) × ((length l.v ≡ 16) × (take l.i l.v ++ words_in (16 - l.i) (drop (4 * l.i) l.s) ≡ words_in 16 l.s))
