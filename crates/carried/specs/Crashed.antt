-- A host that drives an exported call in rounds, on the bytes that it holds, and may die at any moment. include/pasetone.h: "call with what is known so far (done and 0
-- for the rest), take the first step that was not taken yet, put its outcome and what it read into the script, call again with the same record." The rounds are those of
-- crate `rounds`; here a round is a call of the boundary, and what it tells is what the host reads from its room.
-- Assumes nothing.
use Rattle.std.specs.Prelude.{ℕ, ◌≡◌, true, List, length, take}
use Rattle.transcript.specs.declared.Entry.{Entry}
use Rattle.rounds.specs.Driven.{RestFailed, RoundsBy}
use Rattle.rounds.specs.Scripts.{Script, tuner_with}
use Rattle.chip.specs.Steps.{every}
use Rattle.commands.specs.Over.{Feeds, feed_over}
use Rattle.sequences.specs.Calls.{is_byte}
use Rattle.carried.specs.Exported.{Exported, Lent, entries_of, leaves, lent, stands, typed}
use Rattle.carried.specs.Fed.{fed_entries, plain_fed}
use Rattle.carried.specs.Exported.Exported.{Own, Rate, Correct, Path, Hop}

-- what is lent to a call: its script, a room, and slices for the next record and for the driver's. What they hold may be another in each round
pub record Memory : Type 0 where
  pub outcomes : List ℕ
  pub replies : List ℕ
  pub room : List ℕ
  pub next : List ℕ
  pub slot : List ℕ

-- the same exported call with these replies and this slice
abbrev pub exported_with : List ℕ → List ℕ → Exported → Exported
exported_with rs slot (Own o) = Own (tuner_with rs o)
exported_with rs slot (Rate rate table driver own) = Rate rate table driver slot
exported_with rs slot (Correct ppm driver) = Correct ppm driver
exported_with rs slot (Path path own) = Path path rs
exported_with rs slot (Hop hz table own driver other) = Hop hz table rs driver slot

abbrev pub called_with : Exported → Memory → Lent
called_with e m = lent (exported_with m.replies m.slot e) m.outcomes m.room m.next

-- the entries that the host reads after it
abbrev pub heard : Exported → List ℕ → Memory → List Entry
heard e b m = entries_of (called_with e m) b

-- memory whose script begins with what is known, replies that are bytes, and enough of it: the call on the bytes b is not refused before any step
pub record Knows (e : Exported) (b os rs : List ℕ) (m : Memory) : Type 0 where
  pub outcomes : take (length os) m.outcomes ≡ os
  pub replies : take (length rs) m.replies ≡ rs
  pub numbers : typed (exported_with m.replies m.slot e) ≡ true
  pub taken : stands (leaves (called_with e m) b).reply ≡ true

-- rounds of the call on the bytes b: the outcomes and replies known after them, and what was done on the receiver
abbrev pub Rounds : Exported → List ℕ → List ℕ → List ℕ → List Entry → Type 0
Rounds e b = RoundsBy (Knows e b) (heard e b)

-- what a host that died had kept: what was known, and failed for all the rest
pub record Kept (e : Exported) (b os rs : List ℕ) (m : Memory) : Type 0 where
  pub known : Knows e b os rs m
  pub vain : RestFailed os m.outcomes

-- ---- the same of a command of a line

-- a feeding with a script, on the same bytes in each round: table, chunk, the stream's, the driver's d and the tuner's b. It changes them where they lie, so a host that
-- drives it in rounds gives it copies
abbrev pub fed_with : (table chunk stream d b : List ℕ) → Script → Feeds
fed_with table chunk stream d b s = feed_over table chunk s.replies s.outcomes stream d b s.room

pub record FedKnows (table chunk stream d b os rs : List ℕ) (s : Script) : Type 0 where
  pub outcomes : take (length os) s.outcomes ≡ os
  pub replies : take (length rs) s.replies ≡ rs
  pub numbers : every is_byte s.replies ≡ true
  pub taken : stands (plain_fed (fed_with table chunk stream d b s).answer) ≡ true

abbrev pub FedRounds : (table chunk stream d b : List ℕ) → List ℕ → List ℕ → List Entry → Type 0
FedRounds table chunk stream d b = RoundsBy (FedKnows table chunk stream d b) (λ s. fed_entries (fed_with table chunk stream d b s))
