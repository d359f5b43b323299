-- What a closure's steps are, between an opening and its closing, by the predicates of the closure's bound. Assumes nothing.
use Rattle.std.specs.Prelude.{◌≡◌, ℕ, ◌+◌, ◌≤◌, Bool, List, length}
use Rattle.std.specs.Fn.{Once}
use denote.Ref.{MutBor}
use Rattle.chip.specs.declared.Log.{Log}
use Rattle.chip.specs.Chips.{chip_of}
use Rattle.chip.specs.InCode.{closing, in_room, on_log}
use Rattle.chip.specs.Steps.{Step, closing_owed, run}

-- what is lent to them: the shadow, its doubts, the room
abbrev pub Lent : Type 0
Lent = MutBor (List ℕ) × (MutBor (List Bool) × (MutBor (List ℕ) × Unit {0}))

module _ {F : Type 0} (g : Once F (Log × (ℕ × Lent)) (Log × Lent)) (f : F) where
  -- they may be called on a log of so many entries at most, its closing with them, and a room of that length
  abbrev pub MayRun : ℕ → ℕ → Type 0
  MayRun most room = (l : Log) (address : ℕ) (shadow : MutBor (List ℕ)) (doubtful : MutBor (List Bool)) (r : MutBor (List ℕ))
      → l.count + closing_owed l.opened ≤ most → length r.now ≡ room → g.pre f (l, (address, (shadow, (doubtful, (r, tt)))))

  -- they add n entries at most
  abbrev pub AddsAtMost : ℕ → Type 0
  AddsAtMost n = (l : Log) (address : ℕ) (lent : Lent) (x : Log) (left : Lent)
      → g.post f (l, (address, lent)) (x, left) → x.count + closing_owed x.opened ≤ l.count + n + closing_owed l.opened

  -- of a chip at that address they are this program, with the closing where one of its steps fails
  abbrev pub Runs : List ℕ → ℕ → List Step → Type 0
  Runs os address ss = (l : Log) (lent : Lent) (x : Log) (left : Lent) → g.post f (l, (address, lent)) (x, left)
      → on_log (chip_of address left.0.now left.1.0.now) x left.1.1.0.now
      ≡ closing in_room os (run in_room os ss (on_log (chip_of address lent.0.now lent.1.0.now) l lent.1.1.0.now))
