-- `answers::put_words` meets its contract. The loop's invariant: storing the numbers that are left gives what storing all of them gave.
-- Assumes nothing.
use Prim.Native.Nat.{◌≤◌, ◌*◌}
use mathlib.Core.Path.{◌≡◌}
use lib.ListN.{length, drop}
use lib.Seq.{sets}
use Rattle.answers.specs.Lent.{word_bytes}
use Rattle.answers.proofs.put_words.Given as goal

abbrev pub invariant-loop-i : goal.invariant-loop-i
invariant-loop-i l = (l.i ≤ length l.v) × ((length l.out ≡ length l.initial.out) × (sets l.out (4 * l.i) (word_bytes (drop l.i l.v)) ≡ sets l.initial.out 0 (word_bytes l.v)))
