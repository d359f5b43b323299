-- The centre of theorem `filed` is the one in the 52 bytes that `pasetone_evidence` writes: its mark and its number, and the marks of oscillator and IF.
-- Assumes nothing.
use Prim.Native.Nat.{ℕ}
use mathlib.Core.Path.{◌≡◌, ap, ◌∙◌}
use mathlib.Core.List.{List}
use Rattle.transcript.specs.declared.Entry.{Entry}
use Rattle.evidence.specs.Evidence.{centre_in, centre_of}
use Rattle.stations.specs.Centre.{Filed}
use Rattle.witness.specs.Answer as answer
use Rattle.witness.specs.Answer.{if_sure, marks_of, numbers_of}
use Rattle.witness.proofs.Told.{told_mark}

pub record Answered (address r xtal : ℕ) (es : List Entry) : Type 0 where
  pub oscillator : (marks_of address es).oscillator ≡ 2
  pub offset : (marks_of address es).offset ≡ 2
  pub mark : answer.centre_mark (marks_of address es) (numbers_of address es r xtal) ≡ 2
  pub centre : if_sure (answer.centre_mark (marks_of address es) (numbers_of address es r xtal)) (centre_of (numbers_of address es r xtal).oscillator (numbers_of address es r xtal).offset)
      ≡ centre_in address r xtal es

pub answered : (hz address r xtal : ℕ) (es : List Entry) → Filed hz address r xtal es → Answered address r xtal es
answered hz address r xtal es w =
    let two = told_mark address es r xtal ∙ w.mark in
    record {
      oscillator = w.lo;
      offset = w.offset;
      mark = two;
      centre = ap (λ (m : ℕ). if_sure m (centre_in address r xtal es)) two;
    }
