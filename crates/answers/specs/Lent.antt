-- Answers of fixed size that a host takes as bytes in a slice that it lends, laid there as crate refusals does.
-- Assumes nothing.
use Rattle.std.specs.Prelude.{ℕ, zero, suc, Bool, true, false, cond, List, [], ◌∷◌, ◌++◌, map, eqb, ℤ, pos, length, take, drop, Option, Some, None}
use Rattle.std.specs.Int.{w32}
use Rattle.std.proofs.Common.{of_z, to_z}
use Rattle.bands.specs.Tables.{plan_by}
use Rattle.board.specs.declared.Board.{Board}
use Rattle.board.specs.declared.Plan.{Plan}
use Rattle.board.specs.Numbers.{route_number}
use Rattle.board.specs.Plans.{board_plan}
use Rattle.refusals.specs.declared.Answer.TheVariants.{Refused}
use Rattle.fir.specs.Packing.{packed, unpack_of}
use Rattle.gain.specs.Steps.{steps}
use Rattle.refusals.specs.Lent.{Given, given, lent_to}
use Rattle.refusals.specs.Table.{SETUP, COEFFICIENT}
use Rattle.r82xx.specs.declared.Tuner.{Tuner}
use Rattle.r82xx.specs.Record.{sound}
use Rattle.registers.specs.Rates.{if_regs_of, resample_regs_of}
use Rattle.wire.specs.Bytes.{le_bytes, le_value}

-- the two register calls of src/registers.rs
abbrev pub if_into : ℕ → ℕ → List ℕ → Given
if_into hz xtal out = lent_to (if_regs_of hz xtal).refusal 0 (if_regs_of hz xtal).bytes out

abbrev pub resample_into : ℕ → ℕ → List ℕ → Given
resample_into rate xtal out = lent_to (resample_regs_of rate xtal).refusal 0 (resample_regs_of rate xtal).bytes out

-- a plan: its hz as the value; inverted, path (3 none), notch as bytes. A number that names no board is refused 1
abbrev pub bit_of : Bool → ℕ
bit_of true = 1
bit_of false = 0

abbrev pub plan_bytes : Plan → List ℕ
plan_bytes p = bit_of p.inverted ∷ route_number p.path ∷ bit_of p.notch ∷ []

unfoldable pub plan_into : Option Board → ℕ → List ℕ → Given
plan_into None hz out = given (Refused SETUP) out
plan_into (Some b) hz out = lent_to 0 (board_plan b hz).hz (plan_bytes (board_plan b hz)) out

-- the same by a table. Document 02, #113: "new 19 table, for a malformed table; then 2 for a frequency in no band or shifted below 0 or past u64"; then 8
abbrev pub plan_by_into : List ℕ → ℕ → List ℕ → Given
plan_by_into table hz out = lent_to (plan_by table hz).refusal (plan_by table hz).plan.hz (plan_bytes (plan_by table hz).plan) out

-- signed numbers of 32 bits as bytes, low byte first, and the first n numbers of such bytes
unfoldable pub word_bytes : List ℤ → List ℕ
word_bytes [] = []
word_bytes (z ∷ zs) = le_bytes 4 (of_z w32 z) ++ word_bytes zs

unfoldable pub words_in : ℕ → List ℕ → List ℤ
words_in zero s = []
words_in (suc n) s = to_z w32 (le_value (take 4 s)) ∷ words_in n (drop 4 s)

-- the FIR packer and unpacker over lent bytes. Bytes that are not sixteen numbers, or not the twenty of a packing, are refused 7
unfoldable pub pack_into : List ℕ → List ℕ → Given
pack_into s out =
    cond (eqb (length s) 64) (lent_to (packed (words_in 16 s)).refusal 0 (packed (words_in 16 s)).bytes out) (given (Refused COEFFICIENT) out)

unfoldable pub unpack_into : List ℕ → List ℕ → Given
unpack_into s out = cond (eqb (length s) 20) (lent_to 0 0 (word_bytes (unpack_of s)) out) (given (Refused COEFFICIENT) out)

-- the gain table. "A given record out of its ranges .. is refused 1 first"
unfoldable pub table_into : Tuner → List ℕ → Given
table_into t out = cond (sound t) (lent_to 0 0 (word_bytes (map pos steps)) out) (given (Refused SETUP) out)
