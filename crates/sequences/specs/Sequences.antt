-- Demand 3: "Take any sequence of calls from a fresh record, each on the record the last handed back, with any outcomes."
-- Assumes nothing.
use Rattle.std.specs.Prelude.{ℕ, ◌≤◌, ◌≡◌, true, List, [], ◌++◌}
use Rattle.transcript.specs.declared.Entry.{Entry}
use Rattle.refusals.specs.declared.Answer.TheVariants.{Done}
use Rattle.r82xx.specs.declared.Tuner.{Tuner}
use Rattle.r82xx.specs.Record.{made_of}
use Rattle.sequences.specs.Calls.{Call, tuner_after, entries, given}
use Rattle.sequences.specs.Asides.{Aside, aside_entries, aside_given}

-- the record at its end, and the entries of all its calls end to end. The address is a byte
pub data Sequence : Tuner → List Entry → Type 0 where
  fresh : (kind address nominal : ℕ) → address ≤ 255 → (made_of kind address nominal).answer ≡ Done 0
      → Sequence (made_of kind address nominal).tuner []
  next : (t : Tuner) (es : List Entry) → Sequence t es → (k : Call) → given k.order t ≡ true → Sequence (tuner_after k t) (es ++ entries k t)
  between : (t : Tuner) (es : List Entry) → Sequence t es → (a : Aside) → aside_given a.other ≡ true → Sequence t (es ++ aside_entries a)
