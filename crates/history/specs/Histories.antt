-- What demand 3 states: a record that follows entries, a sequence of calls from a fresh record with its entries end to end, a cut call
-- against the uncut one, and how a call went as its entries tell it.
--
-- The premises, in plain words, are those of crate `attempts`: nothing else writes the chip, a write reported done landed whole, a failed one
-- may have left anything in the registers that it named. Nothing is said of real USB, of two hosts on one chip, or of the chip's own doings.
-- Assumes nothing.
use Rattle.std.specs.Prelude.{ℕ, ◌+◌, ◌≤◌, ◌<◌, ◌≡◌, Bool, true, false, cond, ◌&&◌, ◌||◌, List, [], ◌∷◌, ◌++◌, eqb, length, get_or, replicate}
use Rattle.transcript.specs.declared.Entry.{Entry}
use Rattle.transcript.specs.Entries.{bare}
use Rattle.attempts.specs.Attempts.{Regs, byte_in, done, doubt_in, first_of, last_in}
use Rattle.refusals.specs.declared.Answer.{Answer}
use Rattle.refusals.specs.declared.Answer.TheVariants.{Done, Refused, Stopped}
use Rattle.chip.specs.declared.Chip.{Chip}
use Rattle.chip.specs.declared.Progress.{Progress}
use Rattle.chip.specs.declared.Progress.TheVariants.{Going, Refused11}
use Rattle.chip.specs.Entries.{repeater}
use Rattle.chip.specs.Steps.{Step, every, trace}
use Rattle.history.specs.Programs.{beside, fine}

-- a record follows entries: "doubtful are exactly those never attempted or last attempted in vain", and the shadow's byte is the last
-- attempted in the entries, or the initial one where none was (#106). Register 5 + i is the record's i.
pub record Tracks (init : List ℕ) (c : Chip) (es : List Entry) : Type 0 where
  pub chip : c.address ≤ 255
  pub marks : length c.doubtful ≡ 27
  pub bytes : length c.shadow ≡ 27
  pub doubtful : (i : ℕ) → i < 27 → get_or c.doubtful i true ≡ doubt_in (last_in c.address es (5 + i))
  pub shadow : (i : ℕ) → i < 27 → get_or c.shadow i 0 ≡ byte_in (get_or init i 0) (last_in c.address es (5 + i))

-- "per register the byte last attempted (fresh: `INIT_ARRAY`) and a doubtful mark (fresh: all)", the former the shadow's since #106
pub record Fresh (init : List ℕ) (c : Chip) : Type 0 where
  pub chip : c.address ≤ 255
  pub long : length init ≡ 27
  pub shadow : c.shadow ≡ init
  pub doubtful : c.doubtful ≡ replicate 27 true

-- "any sequence of calls from a fresh record, each on the record the last handed back, with any outcomes": the record at its end, and the
-- entries of all its calls end to end. A call runs a program of fine steps and hands its trace's chip back; one without steps (refused, `set_ppm`,
-- notch) leaves record and entries as they were, and so the history; one that touches no tuner record runs its program over any other chip's record.
pub data History (init : List ℕ) : Chip → List Entry → Type 0 where
  made : (c : Chip) → Fresh init c → History init c []
  called : (c : Chip) (es : List Entry) → History init c es → (os : List ℕ) (ss : List Step) → every fine ss ≡ true
      → History init (trace os ss c).chip (es ++ (trace os ss c).log)
  aside : (c : Chip) (es : List Entry) → History init c es → (k : Chip) (os : List ℕ) (ss : List Step) → every beside ss ≡ true
      → History init c (es ++ (trace os ss k).log)

-- "at most the repeater's closing"
pub data Closing : List Entry → Type 0 where
  nothing : Closing []
  closed : (ok : Bool) → Closing (repeater 0 ok ∷ [])

-- the entries of a call that failed at entry i, and those of the uncut call: the same up to the failing one, which is the same step; after it
-- the cut call has at most a closing, and none after a failed opening
pub record Cut (i : ℕ) (cut whole : List Entry) : Type 0 where
  pub earlier : List Entry
  pub last : Entry
  pub there : Entry
  pub closing : List Entry
  pub later : List Entry
  pub index : i ≡ length earlier
  pub cuts : cut ≡ earlier ++ (last ∷ closing)
  pub wholes : whole ≡ earlier ++ (there ∷ later)
  pub same : bare last ≡ bare there
  pub failed : done last ≡ false
  pub met : done there ≡ true
  pub closes : Closing closing
  pub shut : eqb last.kind 1 ≡ true → closing ≡ []

-- what a reload that was done leaves at register 5 + i: "all 27 registers and the shadow at the last attempted bytes", and no doubt
pub record Restored (byte i : ℕ) (c : Chip) (chip : Regs) : Type 0 where
  pub holds : chip (5 + i) ≡ byte
  pub shadow : get_or c.shadow i 0 ≡ byte
  pub doubtful : get_or c.doubtful i true ≡ false

abbrev pub is_closing : Entry → Bool
is_closing e = eqb e.kind 1 && eqb (first_of e) 0

-- an entry after which a call goes on: it was done, or "A failed closing is recorded and otherwise ignored"
abbrev pub passable : Entry → Bool
passable e = done e || is_closing e

-- how a call went, told by its entries: "a step other than a closing failed", the first one, by its index
unfoldable pub progress_from : ℕ → List Entry → Progress
progress_from k [] = Going
progress_from k (e ∷ es) = cond (passable e) (progress_from (k + 1) es) (Refused11 k)

abbrev pub progress_in : List Entry → Progress
progress_in es = progress_from 0 es

-- an answer of a call whose steps are all done: a value or a refusal of its own, never a step's failing
abbrev pub stops : Answer → Bool
stops (Done value) = false
stops (Refused number) = false
stops (Stopped index) = true

-- a call that is answered with a value
abbrev pub is_done : Answer → Bool
is_done (Done value) = true
is_done (Refused number) = false
is_done (Stopped index) = false
