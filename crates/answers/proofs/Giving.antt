-- The two cases of the FIR calls' bytes, the gain table; the refusals of the register calls are bytes.
-- Assumes nothing.
use Prim.Native.Nat.{ℕ, ◌<◌}
use mathlib.Core.Path.{◌≡◌, refl, sym}
use mathlib.Core.Bool.{Bool, true, false, cond}
use mathlib.Core.List.{List, [], map}
use native.Mathlib.Omega.{arith}
use borrow.Author.Tests.{eq-eqb, ne_eqb}
use lib.Dec.{eqb}
use lib.IntN.{ℤ, pos}
use lib.ListN.{length, replicate}
use Rattle.refusals.specs.Lent.{Given, given, lent_to}
use Rattle.refusals.proofs.Giving.{refused}
use Rattle.answers.specs.Lent.{pack_into, table_into, unpack_into, word_bytes, words_in}
use Rattle.refusals.specs.Answers.{number_of}
use Rattle.chip.specs.Calls.{called}
use Rattle.chip.specs.Courses.{left_by}
use Rattle.refusals.specs.declared.Answer.TheVariants.{Done, Refused}
use Rattle.refusals.specs.Table.{SETUP, COEFFICIENT}
use Rattle.fir.specs.Packing.{packed, unpack_of}
use Rattle.gain.specs.Steps.{steps}
use Rattle.r82xx.specs.Orders.{result_of, table_of}
use Rattle.r82xx.specs.declared.Table.{Table}
use Rattle.r82xx.specs.declared.Tuner.{Tuner}
use Rattle.r82xx.specs.Record.{sound}
use Rattle.registers.specs.declared.IfRegs.{IfRegs}
use Rattle.registers.specs.declared.ResampleRegs.{ResampleRegs}
use Rattle.registers.specs.Rates.{if_regs_of, resample_regs_of, zero_number}

-- bytes for the FIR calls, of the right length or not
module _ (s out : List ℕ) where
  pub no_packing : (length s ≡ 64 → ⊥) → given (Refused COEFFICIENT) out ≡ pack_into s out
  unfolding pack_into
  no_packing h = rw (ne_eqb (length s) 64 h)

  pub packing : length s ≡ 64 → lent_to (packed (words_in 16 s)).refusal 0 (packed (words_in 16 s)).bytes out ≡ pack_into s out
  unfolding pack_into
  packing h = rw (eq-eqb (length s) 64 h)

  pub no_unpacking : (length s ≡ 20 → ⊥) → given (Refused COEFFICIENT) out ≡ unpack_into s out
  unfolding unpack_into
  no_unpacking h = rw (ne_eqb (length s) 20 h)

  pub unpacking : length s ≡ 20 → lent_to 0 0 (word_bytes (unpack_of s)) out ≡ unpack_into s out
  unfolding unpack_into
  unpacking h = rw (eq-eqb (length s) 20 h)

-- the gain table: its answer's number tells whether the record is sound
abbrev lent_table : Table → List ℕ → Given
lent_table r out = lent_to (number_of r.answer) 0 (word_bytes r.steps) out

table_cases : (b : Bool) (t : Tuner) (zeros : List ℤ) (out : List ℕ)
    → lent_table (record { answer = (cond b (called t [] 0 (Done 0)) (called t [] 0 (Refused SETUP))).answer; steps = cond b (map pos steps) zeros }) out
    ≡ cond b (lent_to 0 0 (word_bytes (map pos steps)) out) (given (Refused SETUP) out)
table_cases true t zeros out = refl
table_cases false t zeros out = sym (refused SETUP 0 (word_bytes zeros) out (omega arith))

pub table_given : (t : Tuner) (out : List ℕ) → lent_table (table_of t) out ≡ table_into t out
unfolding table_of result_of left_by table_into
table_given t out = table_cases (sound t) t (replicate 29 (pos 0)) out

-- a choice of two is small where both are
if_either : (b : Bool) (x y : IfRegs) → x.refusal < 256 → y.refusal < 256 → (cond b x y).refusal < 256
if_either true x y h k = h
if_either false x y h k = k

resample_either : (b : Bool) (x y : ResampleRegs) → x.refusal < 256 → y.refusal < 256 → (cond b x y).refusal < 256
resample_either true x y h k = h
resample_either false x y h k = k

pub if_small : (hz xtal : ℕ) → (if_regs_of hz xtal).refusal < 256
unfolding if_regs_of
if_small hz xtal = if_either (eqb xtal 0) _ _ (omega arith) (omega arith)

zero_small : (a b : Bool) → ◌<◌ (cond a 3 (cond b 4 0)) 256
zero_small true b = omega arith
zero_small false true = omega arith
zero_small false false = omega arith

pub resample_small : (rate xtal : ℕ) → (resample_regs_of rate xtal).refusal < 256
unfolding resample_regs_of
resample_small rate xtal = resample_either (eqb (zero_number rate xtal 0) 0) _ _ (omega arith) (zero_small (eqb rate 0) (eqb xtal 0))
