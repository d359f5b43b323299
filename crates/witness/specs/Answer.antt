-- The answer that sections give of the station that a receiver stands on, as 52 bytes, and the call. Design 03, section 2: "bytes 0 to 5 marks of oscillator,
-- IF, rate, DDC, lock, centre; 6 the DDC byte, 7 zero; u32 at 8 tries, 12 the IF's 22-bit word, 16 the ratio; u64 at 20 the rate in Hz, 28 and 36
-- oscillator and IF in units of 2^-23 Hz, 44 the centre in whole Hz. What is not sure is 0. Numbers low byte first."
-- Assumes nothing.
use Rattle.std.specs.Prelude.{ℕ, cond, ◌&&◌, ◌||◌, List, [], ◌∷◌, eqb, ltb}
use Rattle.wire.specs.Bytes.{le_bytes}
use Rattle.wire.specs.Parts.{joined}
use Rattle.transcript.specs.declared.Entry.{Entry}
use Rattle.sections.specs.Chain.{chain_entries}
use Rattle.refusals.specs.Lent.{Given, lent_to}
use Rattle.refusals.specs.Table.{CORRECTION}
use Rattle.restore.specs.Restore.{refused_by}
use Rattle.evidence.specs.Demodulator.{last_at}
use Rattle.evidence.specs.Evidence.{both_mark, centre_of, chip_byte, demod_byte, if_mark, if_units, if_word, lo_mark, lo_units, lock_mark, mark_of, rate_in, rate_mark, ratio_in, tries_of}
use Rattle.witness.specs.declared.Marks.{Marks}
use Rattle.witness.specs.declared.Numbers.{Numbers}
use Rattle.witness.specs.Walk.{most}

-- ---- what is told

abbrev pub marks_of : ℕ → List Entry → Marks
marks_of address es =
    record { oscillator = lo_mark address es; offset = if_mark es; rate = rate_mark es; ddc = mark_of (last_at es 0x15); lock = lock_mark address es }

-- the numbers, of any bytes that the chip's registers (f) and the demodulator's (g) hold
abbrev pub numbers_by : (ℕ → ℕ) → (ℕ → ℕ) → ℕ → ℕ → ℕ → Numbers
numbers_by f g tries r xtal =
    record {
      tries = tries;
      ddc = g 0x15;
      word = if_word g;
      ratio = ratio_in g;
      rate = rate_in xtal g;
      oscillator = lo_units r f;
      offset = if_units xtal g;
    }

abbrev pub numbers_of : ℕ → List Entry → ℕ → ℕ → Numbers
numbers_of address es r xtal = numbers_by (chip_byte address es) (demod_byte es) (most (tries_of address es)) r xtal

-- "Centre: oscillator less IF; mark 1 where the IF is larger"
unfoldable pub centre_mark : Marks → Numbers → ℕ
centre_mark m n =
    let both = both_mark m.oscillator m.offset in
    cond (eqb both 2 && ltb n.oscillator n.offset) 1 both

-- "What is not sure is 0"
abbrev pub if_sure : ℕ → ℕ → ℕ
if_sure mark n = cond (eqb mark 2) n 0

-- ---- its bytes

abbrev pub widths : List ℕ
widths = 1 ∷ 1 ∷ 1 ∷ 1 ∷ 1 ∷ 1 ∷ 1 ∷ 1 ∷ 4 ∷ 4 ∷ 4 ∷ 8 ∷ 8 ∷ 8 ∷ 8 ∷ []

abbrev pub parts : Marks → Numbers → List (List ℕ)
parts m n =
    le_bytes 1 m.oscillator
    ∷ le_bytes 1 m.offset
    ∷ le_bytes 1 m.rate
    ∷ le_bytes 1 m.ddc
    ∷ le_bytes 1 m.lock
    ∷ le_bytes 1 (centre_mark m n)
    ∷ le_bytes 1 (if_sure m.ddc n.ddc)
    ∷ le_bytes 1 0
    ∷ le_bytes 4 n.tries
    ∷ le_bytes 4 (if_sure m.offset n.word)
    ∷ le_bytes 4 (if_sure m.rate n.ratio)
    ∷ le_bytes 8 (if_sure m.rate n.rate)
    ∷ le_bytes 8 (if_sure m.oscillator n.oscillator)
    ∷ le_bytes 8 (if_sure m.offset n.offset)
    ∷ le_bytes 8 (if_sure (centre_mark m n) (centre_of n.oscillator n.offset))
    ∷ []

unfoldable pub answer_bytes : Marks → Numbers → List ℕ
answer_bytes m n = joined (parts m n)

unfoldable pub evidence_bytes : ℕ → List Entry → ℕ → ℕ → List ℕ
evidence_bytes address es r xtal = answer_bytes (marks_of address es) (numbers_of address es r xtal)

-- "Refusals: 4 for either reference 0, 12 for any section, then 8." The value is 0.
unfoldable pub refusal_by : ℕ → ℕ → List ℕ → ℕ
refusal_by r xtal s = cond (eqb r 0 || eqb xtal 0) CORRECTION (refused_by s)

unfoldable pub evidence_into : List ℕ → ℕ → ℕ → ℕ → List ℕ → Given
evidence_into s address r xtal out = lent_to (refusal_by r xtal s) 0 (evidence_bytes address (chain_entries s) r xtal) out
