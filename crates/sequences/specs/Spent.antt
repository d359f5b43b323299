-- How many replies a run takes, read off its entries, and how many are asked for. Document 01, "Transcript and script": "reply bytes in order of reading"; "3 I2C read |
-- chip | 1..5", "8 block read | block | 1"; "Per call, the most entries and the replies needed".
-- Assumes nothing.
use Rattle.std.specs.Prelude.{ℕ, ◌+◌, ◌||◌, cond, List, [], ◌∷◌, eqb}
use Rattle.transcript.specs.declared.Entry.{Entry}
use Rattle.chip.specs.Courses.{Course}
use Rattle.chip.specs.Courses.Course.{Still, Taken}

-- a read of n bytes takes n replies, also one that failed: it was given them
abbrev pub replies_for : Entry → ℕ
replies_for e = cond (eqb e.kind 3 || eqb e.kind 8) e.n 0

unfoldable pub spent_in : List Entry → ℕ
spent_in [] = 0
spent_in (e ∷ es) = replies_for e + spent_in es

-- "the replies needed": shorter ones are refused 10
abbrev pub replies_asked : {R : Type 0} → Course R → ℕ
replies_asked (Still next answer) = 0
replies_asked (Taken argument n m rs whole ss keep) = m
