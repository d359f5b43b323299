-- The tuner's calls without steps, over bytes. They make no entry; the answer's bytes are lent as by crate answers: an argument's refusal, then 8.
-- Assumes nothing.
use Rattle.std.specs.Prelude.{ℕ, Bool, cond, List}
use Rattle.answers.specs.Lent.{table_into}
use Rattle.refusals.specs.Lent.{Given, answered_to, given}
use Rattle.refusals.specs.declared.Answer.{Answer}
use Rattle.refusals.specs.declared.Answer.TheVariants.{Refused}
use Rattle.refusals.specs.Table.{SETUP}
use Rattle.chip.specs.Calls.{Called}
use Rattle.r82xx.specs.Orders.{Order, quietly}
use Rattle.r82xx.specs.Record.{made_of}
use Rattle.records.specs.Tuners.{tuner_bytes, tuner_of}
use Rattle.station.specs.Station.{oscillator_of}

-- what is made of the record that bytes are read as, or what is returned where they are not valid; for any kind of record, since crate drivers uses it for its own
unfoldable pub of_record : {R A : Type 0} → Bool → R → (R → A) → A → A
of_record ok r make none = cond ok (make r) none

-- a fresh one
abbrev pub fresh_into : ℕ → ℕ → ℕ → List ℕ → Given
fresh_into kind address nominal out =
    answered_to (made_of kind address nominal).answer (tuner_bytes (made_of kind address nominal).tuner) out

-- the record that a call without steps makes of the one that it is given
abbrev pub changed_to : {R : Type 0} → (R → List ℕ) → (R → Called R) → List ℕ → R → Given
changed_to bytes call out r = answered_to (call r).answer (bytes (call r).next) out

-- a row of the table without steps, on the record that the bytes are; 1 where they are not valid
abbrev pub changed_into : Order → List ℕ → List ℕ → Given
changed_into o b out =
    of_record (tuner_of b).ok (tuner_of b).tuner (changed_to tuner_bytes (quietly o) out) (given (Refused SETUP) out)

-- its answer alone
abbrev pub answer_over : Order → List ℕ → Answer
answer_over o b = of_record (tuner_of b).ok (tuner_of b).tuner (λ t. (quietly o t).answer) (Refused SETUP)

-- where the oscillator stands by the record; 20 after 1
abbrev pub oscillator_over : List ℕ → Answer
oscillator_over b = of_record (tuner_of b).ok (tuner_of b).tuner oscillator_of (Refused SETUP)

-- the gain table's bytes
abbrev pub table_over : List ℕ → List ℕ → Given
table_over b out = of_record (tuner_of b).ok (tuner_of b).tuner (λ t. table_into t out) (given (Refused SETUP) out)
