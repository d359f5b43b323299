-- An answer in document 01's numbers: "A refused call's value is 0; 11 also gives the failing entry's index".
-- Assumes nothing.
use Rattle.std.specs.Prelude.{ℕ}
use Rattle.refusals.specs.declared.Answer.{Answer}
use Rattle.refusals.specs.declared.Answer.TheVariants.{Done, Refused, Stopped}
use Rattle.refusals.specs.Table.{STEP}

abbrev pub number_of : Answer → ℕ
number_of (Done value) = 0
number_of (Refused number) = number
number_of (Stopped index) = STEP

abbrev pub value_of : Answer → ℕ
value_of (Done value) = value
value_of (Refused number) = 0
value_of (Stopped index) = 0

abbrev pub index_of : Answer → ℕ
index_of (Done value) = 0
index_of (Refused number) = 0
index_of (Stopped index) = index
