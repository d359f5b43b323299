-- The answer's numbers are those that the theorems speak of (crates stations and carried): the centre with its mark, and the DDC byte's mark. Assumes nothing.
use Prim.Native.Nat.{ℕ}
use mathlib.Core.Path.{◌≡◌, refl}
use mathlib.Core.List.{List}
use Rattle.transcript.specs.declared.Entry.{Entry}
use Rattle.evidence.specs.Evidence as evidence
use Rattle.evidence.specs.Evidence.{centre_in, centre_of, ddc_mark}
use Rattle.witness.specs.Answer.{centre_mark, marks_of, numbers_of}

module _ (address : ℕ) (es : List Entry) (r xtal : ℕ) where
  pub told_mark : centre_mark (marks_of address es) (numbers_of address es r xtal) ≡ evidence.centre_mark address r xtal es
  unfolding centre_mark
  told_mark = refl

  pub told_centre : centre_of (numbers_of address es r xtal).oscillator (numbers_of address es r xtal).offset ≡ centre_in address r xtal es
  told_centre = refl

  pub told_ddc : (marks_of address es).ddc ≡ ddc_mark es
  told_ddc = refl
