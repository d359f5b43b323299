-- Demand 3 as a host lives it: "Take any sequence of calls from a fresh record, each on the record the last handed back, with any outcomes", the record being
-- bytes.
-- Assumes nothing.
use Rattle.std.specs.Prelude.{ℕ, ◌≤◌, ◌≡◌, true, List, [], ◌++◌, take}
use Rattle.transcript.specs.declared.Entry.{Entry}
use Rattle.refusals.specs.declared.Answer.TheVariants.{Done}
use Rattle.tuners.specs.Still.{fresh_into}
use Rattle.sequences.specs.Asides.{Aside, aside_given}
use Rattle.carried.specs.Exported.{Lent, aside_entries_of, entries_of, leaves, typed}

-- the bytes that the host holds at its end, and the entries that it read from its rooms, end to end. The first bytes are those that `pasetone_tuner_new`
-- wrote, into any slice; the address is a byte. Calls that take no record may stand between
pub data Carried : List ℕ → List Entry → Type 0 where
  fresh : (kind address nominal : ℕ) (out : List ℕ) → address ≤ 255 → (fresh_into kind address nominal out).answer ≡ Done 0
      → Carried (take 78 (fresh_into kind address nominal out).out) []
  next : (b : List ℕ) (es : List Entry) → Carried b es → (k : Lent) → typed k.exported ≡ true → Carried (leaves k b).bytes (es ++ entries_of k b)
  between : (b : List ℕ) (es : List Entry) → Carried b es → (a : Aside) → aside_given a.other ≡ true → Carried b (es ++ aside_entries_of a)
