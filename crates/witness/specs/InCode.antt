-- How the code's arrays stand for what is told: a mark of one and of several registers, and a byte of the demodulator's by its register.
-- Assumes nothing.
use Rattle.std.specs.Prelude.{ℕ, Bool, cond, List, [], ◌∷◌, eqb, get_or, None, Some}
use Rattle.std.specs.List.{list_all}
use Rattle.restoring.specs.Standing.{Known, byte_of}
use Rattle.witness.specs.declared.Marks.{Marks}
use Rattle.witness.specs.declared.Numbers.{Numbers}
use Rattle.witness.specs.declared.Seen.{Seen}
use Rattle.witness.specs.Answer.{numbers_by}

-- "0 never, 1 doubtful, 2 sure"
abbrev pub mark_known : Known → ℕ
mark_known None = 0
mark_known (Some s) = s.mark

abbrev pub all_are : ℕ → List Known → Bool
all_are mark ks = list_all (λ (k : Known). eqb (mark_known k) mark) ks

-- sure where all are, never where all are, else doubtful
abbrev pub mark_from : List Known → ℕ
mark_from ks = cond (all_are 2 ks) 2 (cond (all_are 0 ks) 0 1)

abbrev pub at : List Known → ℕ → Known
at l r = get_or l r None

abbrev pub slot_of : ℕ → ℕ
slot_of r = cond (eqb r 0x15) 8 (cond (eqb r 0x19) 9 (cond (eqb r 0x1a) 10 (cond (eqb r 0x1b) 11 (cond (eqb r 0x9f) 12 (cond (eqb r 0xa0) 13 (cond (eqb r 0xa1) 14 15))))))

abbrev pub in_slot : List Known → ℕ → Known
in_slot l r = at l (slot_of r)

unfoldable pub marks_in : Seen → Marks
marks_in seen =
    record {
      oscillator = mark_from (at seen.chip 0x10 ∷ at seen.chip 0x12 ∷ at seen.chip 0x14 ∷ at seen.chip 0x15 ∷ at seen.chip 0x16 ∷ []);
      offset = mark_from (in_slot seen.demod 0x19 ∷ in_slot seen.demod 0x1a ∷ in_slot seen.demod 0x1b ∷ []);
      rate = mark_from (in_slot seen.demod 0x9f ∷ in_slot seen.demod 0xa0 ∷ in_slot seen.demod 0xa1 ∷ in_slot seen.demod 0xa2 ∷ []);
      ddc = mark_known (in_slot seen.demod 0x15);
      lock = seen.waiting.lock;
    }

unfoldable pub numbers_in : Seen → ℕ → ℕ → Numbers
numbers_in seen r xtal = numbers_by (λ q. byte_of (at seen.chip q)) (λ q. byte_of (in_slot seen.demod q)) seen.waiting.tries r xtal
