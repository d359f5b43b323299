-- What the walk left in the arrays is what the entries tell: the answer that is laid out is the one of the definition. Assumes nothing.
use Prim.Native.Nat.{ℕ, ◌*◌, ◌/◌, ◌^◌, ◌<◌}
use mathlib.Core.Path.{◌≡◌, refl, sym, ap, ap₂, ◌∙◌}
use mathlib.Core.Bool.{Bool, true, false, cond, ◌&&◌, ◌||◌}
use mathlib.Core.List.{List, [], ◌∷◌, map}
use native.Mathlib.Omega.{arith}
use lib.Dec.{eqb, leb, ltb}
use lib.ListN.{length}
use lib.Seq.{sets}
use Rattle.wire.specs.Bytes.{le_bytes}
use Rattle.wire.specs.Parts.{Sized, laid}
use Rattle.wire.proofs.Widths.{length-le_bytes}
use Rattle.wire.proofs.Joins.{laid_joined, length_joined}
use Rattle.transcript.specs.declared.Entry.{Entry}
use Rattle.refusals.specs.declared.Answer.TheVariants.{Refused}
use Rattle.refusals.specs.Lent.{given, lent_to}
use Rattle.refusals.proofs.Giving as giving
use Rattle.refusals.specs.Table.{CORRECTION}
use Rattle.attempts.specs.Attempts.{last_in}
use Rattle.attempts.specs.Namings.{Last, byte_in}
use Rattle.attempts.specs.Namings.Last.{Never, Tried}
use Rattle.sections.specs.Chain.{chain, chain_entries}
use Rattle.restore.specs.Restore.{refused_by}
use Rattle.restoring.specs.Standing.{Known, byte_of, counts, known_in, known_of, over}
use Rattle.restoring.proofs.Overs.{over_long}
use Rattle.restoring.proofs.Settled.{blank, stands, stands_by}
use Rattle.evidence.specs.Demodulator.{last_at}
use Rattle.registers.specs.Rates.{negated_of}
use Rattle.evidence.specs.Evidence.{chip_byte, demod_byte, if_mark, if_places, if_units, if_word, lasts, lo_mark, lo_units, mark_all, mark_of, oscillator, rate_in, rate_mark, rate_places, ratio_in, same}
use Rattle.witness.specs.declared.Marks.{Marks}
use Rattle.witness.specs.declared.Numbers.{Numbers}
use Rattle.witness.specs.declared.Seen.{Seen}
use Rattle.witness.specs.declared.Stage.TheVariants.{Open}
use Rattle.witness.specs.declared.Waiting.{Waiting}
use Rattle.witness.specs.Walk.{demod_in, place_of, seen, seen_all, waited_all, waiting}
use Rattle.witness.specs.Answer.{answer_bytes, evidence_bytes, evidence_into, marks_of, numbers_of, parts, refusal_by, widths}
use Rattle.witness.specs.InCode.{all_are, at, in_slot, mark_from, mark_known, marks_in, numbers_in}
use Rattle.witness.proofs.Slots.{past_none}
use Rattle.witness.proofs.Waits.{lock_told, tries_told}

-- ---- the bytes

sized : (m : Marks) (n : Numbers) → Sized widths (parts m n)
sized m n = (
  length-le_bytes 1 _,
  (
    length-le_bytes 1 _,
    (
      length-le_bytes 1 _,
      (
        length-le_bytes 1 _,
        (
          length-le_bytes 1 _,
          (
            length-le_bytes 1 _,
            (
              length-le_bytes 1 _,
              (
                length-le_bytes 1 _,
                (length-le_bytes 4 _, (length-le_bytes 4 _, (length-le_bytes 4 _, (length-le_bytes 8 _, (length-le_bytes 8 _, (length-le_bytes 8 _, (length-le_bytes 8 _, tt))))))),
              ),
            ),
          ),
        ),
      ),
    ),
  ),
)

pub long : (m : Marks) (n : Numbers) → length (answer_bytes m n) ≡ 52
unfolding answer_bytes
long m n = length_joined widths (parts m n) (sized m n)

-- the parts stored one after the other over 52 bytes
pub image_whole : (m : Marks) (n : Numbers) (l : List ℕ) → length l ≡ 52 → laid l 0 widths (parts m n) ≡ answer_bytes m n
unfolding answer_bytes
image_whole m n l e = laid_joined l 0 widths (parts m n) (sized m n) ∙ giving.covered l (answer_bytes m n) (long m n ∙ sym e)

-- one part more
pub then : {l was next : List ℕ} {v w : ℕ} (at k : ℕ) → next ≡ sets l at (le_bytes k v) → l ≡ was → v ≡ w → next ≡ sets was at (le_bytes k w)
then at k e p q = e ∙ ap₂ (λ (x : List ℕ) (n : ℕ). sets x at (le_bytes k n)) p q

-- ---- marks and bytes of the arrays

mark_same : (l : Last) → mark_known (known_of l) ≡ mark_of l
mark_same Never = refl
mark_same (Tried byte true) = refl
mark_same (Tried byte false) = refl

byte_same : (l : Last) → byte_of (known_of l) ≡ byte_in 0 l
byte_same Never = refl
byte_same (Tried byte ok) = refl

all_same : (m : ℕ) (ls : List Last) → all_are m (map known_of ls) ≡ same m ls
all_same m [] = refl
all_same m (l ∷ ls) = ap₂ (λ (k : ℕ) (b : Bool). eqb k m && b) (mark_same l) (all_same m ls)

mark_of_all : (ls : List Last) → mark_from (map known_of ls) ≡ mark_all ls
unfolding mark_all
mark_of_all ls = ap₂ (λ (a b : Bool). cond a 2 (cond b 0 1)) (all_same 2 ls) (all_same 0 ls)

module _ (address : ℕ) (es : List Entry) (chip : List Known) (long : length chip ≡ 32) (after : chip ≡ over (known_in address es) 0 blank) where
  there : (r : ℕ) → counts r ≡ true → at chip r ≡ known_of (last_in address es r)
  unfolding known_in
  there r h = stands address es chip long after r ∙ rw h

  chip_byte_lem : (r : ℕ) → counts r ≡ true → byte_of (at chip r) ≡ chip_byte address es r
  chip_byte_lem r h = ap byte_of (there r h) ∙ byte_same (last_in address es r)

  pub lo_mark_lem : mark_from (at chip 0x10 ∷ at chip 0x12 ∷ at chip 0x14 ∷ at chip 0x15 ∷ at chip 0x16 ∷ []) ≡ lo_mark address es
  unfolding counts
  lo_mark_lem =
      rw (there 0x10 refl, there 0x12 refl, there 0x14 refl, there 0x15 refl, there 0x16 refl) (mark_of_all (lasts (last_in address es) oscillator))

  pub lo_units_lem : (r : ℕ) → lo_units r (λ q. byte_of (at chip q)) ≡ lo_units r (chip_byte address es)
  unfolding counts lo_units
  lo_units_lem r = rw (chip_byte_lem 0x10 refl, chip_byte_lem 0x12 refl, chip_byte_lem 0x14 refl, chip_byte_lem 0x15 refl, chip_byte_lem 0x16 refl)

module _ (es : List Entry) (demod : List Known) (long : length demod ≡ 32) (after : demod ≡ over (demod_in es) 0 blank) where
  slot : (k : ℕ) → (leb 8 k && ltb k 16) ≡ true → at demod k ≡ known_of (last_at es (place_of k))
  unfolding demod_in
  slot k h = stands_by (demod_in es) (λ r far. past_none es r (omega arith)) demod long after k ∙ rw h

  slot_byte : (k : ℕ) → (leb 8 k && ltb k 16) ≡ true → byte_of (at demod k) ≡ demod_byte es (place_of k)
  slot_byte k h = ap byte_of (slot k h) ∙ byte_same (last_at es (place_of k))

  pub if_mark_lem : mark_from (in_slot demod 0x19 ∷ in_slot demod 0x1a ∷ in_slot demod 0x1b ∷ []) ≡ if_mark es
  if_mark_lem = rw (slot 9 refl, slot 10 refl, slot 11 refl) (mark_of_all (lasts (last_at es) if_places))

  pub rate_mark_lem : mark_from (in_slot demod 0x9f ∷ in_slot demod 0xa0 ∷ in_slot demod 0xa1 ∷ in_slot demod 0xa2 ∷ []) ≡ rate_mark es
  rate_mark_lem = rw (slot 12 refl, slot 13 refl, slot 14 refl, slot 15 refl) (mark_of_all (lasts (last_at es) rate_places))

  pub ddc_mark_lem : mark_known (in_slot demod 0x15) ≡ mark_of (last_at es 0x15)
  ddc_mark_lem = ap mark_known (slot 8 refl) ∙ mark_same (last_at es 0x15)

  pub ddc_byte_lem : byte_of (in_slot demod 0x15) ≡ demod_byte es 0x15
  ddc_byte_lem = slot_byte 8 refl

  abbrev pub bytes : ℕ → ℕ
  bytes q = byte_of (in_slot demod q)

  pub if_word_lem : if_word bytes ≡ if_word (demod_byte es)
  if_word_lem = rw (slot_byte 9 refl, slot_byte 10 refl, slot_byte 11 refl)

  pub if_units_lem : (xtal : ℕ) → if_units xtal bytes ≡ if_units xtal (demod_byte es)
  unfolding if_units
  if_units_lem xtal = ap (λ (word : ℕ). 2 * (negated_of word * xtal)) if_word_lem

  pub ratio_same : ratio_in bytes ≡ ratio_in (demod_byte es)
  ratio_same = rw (slot_byte 12 refl, slot_byte 13 refl, slot_byte 14 refl, slot_byte 15 refl)

  pub rate_same : (xtal : ℕ) → rate_in xtal bytes ≡ rate_in xtal (demod_byte es)
  unfolding rate_in
  rate_same xtal = ap (λ (ratio : ℕ). cond (eqb ratio 0) 0 (xtal * 2 ^ 22 / ratio)) ratio_same

-- ---- the call

abbrev pub nothing : Seen
nothing = seen blank blank (waiting Open 0 0)

module _ (address : ℕ) (es : List Entry) (all : Seen) (after : all ≡ seen_all address es nothing) where
  chip_after_lem : all.chip ≡ over (known_in address es) 0 blank
  unfolding seen_all
  chip_after_lem = ap (λ (s : Seen). s.chip) after

  demod_after : all.demod ≡ over (demod_in es) 0 blank
  unfolding seen_all
  demod_after = ap (λ (s : Seen). s.demod) after

  lc : length all.chip ≡ 32
  lc = ap length chip_after_lem ∙ over_long (known_in address es) 0 blank

  ld : length all.demod ≡ 32
  ld = ap length demod_after ∙ over_long (demod_in es) 0 blank

  waiting_after : all.waiting ≡ waited_all address es (waiting Open 0 0)
  unfolding seen_all
  waiting_after = ap (λ (s : Seen). s.waiting) after

  marks_same : marks_in all ≡ marks_of address es
  unfolding marks_in
  marks_same i =
      record {
        oscillator = lo_mark_lem address es all.chip lc chip_after_lem i;
        offset = if_mark_lem es all.demod ld demod_after i;
        rate = rate_mark_lem es all.demod ld demod_after i;
        ddc = ddc_mark_lem es all.demod ld demod_after i;
        lock = (ap (λ (u : Waiting). u.lock) waiting_after ∙ lock_told address es) i;
      }

  numbers_same : (r xtal : ℕ) → numbers_in all r xtal ≡ numbers_of address es r xtal
  unfolding numbers_in
  numbers_same r xtal i =
      record {
        tries = (ap (λ (u : Waiting). u.tries) waiting_after ∙ tries_told address es) i;
        ddc = ddc_byte_lem es all.demod ld demod_after i;
        word = if_word_lem es all.demod ld demod_after i;
        ratio = ratio_same es all.demod ld demod_after i;
        rate = rate_same es all.demod ld demod_after xtal i;
        oscillator = lo_units_lem address es all.chip lc chip_after_lem r i;
        offset = if_units_lem es all.demod ld demod_after xtal i;
      }

  pub answer_same : (r xtal : ℕ) (m : Marks) (n : Numbers) (image : List ℕ) → m ≡ marks_in all → n ≡ numbers_in all r xtal
      → image ≡ answer_bytes m n → image ≡ evidence_bytes address es r xtal
  unfolding evidence_bytes
  answer_same r xtal m n image p q is = is ∙ ap₂ answer_bytes (p ∙ marks_same) (q ∙ numbers_same r xtal)

module _ (s : List ℕ) (address r xtal : ℕ) (out : List ℕ) where
  by_refusal : (k : ℕ) → k ≡ refusal_by r xtal s → 0 < k → given (Refused k) out ≡ evidence_into s address r xtal out
  unfolding evidence_into
  by_refusal k is some =
      let bytes = evidence_bytes address (chain_entries s) r xtal in
      giving.refused k 0 bytes out some ∙ ap (λ (n : ℕ). lent_to n 0 bytes out) is

  pub no_reference : (eqb r 0 || eqb xtal 0) ≡ true → given (Refused CORRECTION) out ≡ evidence_into s address r xtal out
  unfolding refusal_by
  no_reference h = by_refusal 4 (rw h) (omega arith)

  pub no_section : (k : ℕ) → (eqb r 0 || eqb xtal 0) ≡ false → k ≡ refused_by s → (k ≡ 0 → ⊥) → given (Refused k) out ≡ evidence_into s address r xtal out
  unfolding refusal_by
  no_section k h is some = by_refusal k (rw h is) (omega (arith, some))

  pub lends : (image : List ℕ) → (eqb r 0 || eqb xtal 0) ≡ false → chain s ≡ true → image ≡ evidence_bytes address (chain_entries s) r xtal
      → lent_to 0 0 image out ≡ evidence_into s address r xtal out
  unfolding evidence_into refusal_by
  lends image h good is =
      let none_refused : refusal_by r xtal s ≡ 0 = rw (h, good) in
      ap₂ (λ (k : ℕ) (bytes : List ℕ). lent_to k 0 bytes out) (sym none_refused) is
