-- Answers of a known size that a host takes as bytes in a slice that it lends. A slice that is too short is refused 8, after the arguments; a longer one is
-- fine, and its bytes past the answer stay; refused, all of it is as it was.
-- Assumes nothing.
use Rattle.std.specs.Prelude.{ℕ, cond, List, eqb, ltb, length}
use Rattle.std.proofs.lemmas.List.Edits.{sets}
use Rattle.refusals.specs.declared.Answer.{Answer}
use Rattle.refusals.specs.declared.Answer.TheVariants.{Done, Refused}
use Rattle.refusals.specs.Answers.{number_of, value_of}
use Rattle.refusals.specs.Table.{ROOM}

-- an answer and what the lent slice holds afterwards
pub record Given : Type 0 where
  pub answer : Answer
  pub out : List ℕ

abbrev pub given : Answer → List ℕ → Given
given answer out = record { answer = answer; out = out }

-- "Order: arguments (1 to 7, and 2 for hz), then 8": an argument's refusal, 0 for none, then the slice
unfoldable pub lent_to : ℕ → ℕ → List ℕ → List ℕ → Given
lent_to refusal value bytes out =
    cond (eqb refusal 0)
    (cond (ltb (length out) (length bytes)) (given (Refused ROOM) out) (given (Done value) (sets out 0 bytes)))
    (given (Refused refusal) out)

-- an answer's bytes
abbrev pub answered_to : Answer → List ℕ → List ℕ → Given
answered_to a bytes out = lent_to (number_of a) (value_of a) bytes out
