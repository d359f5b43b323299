-- `witness::numbers_in` meets its contract.
-- Assumes nothing.
use Rattle.evidence.specs.Evidence.{if_units, lo_units, rate_in}
use Rattle.witness.specs.InCode.{numbers_in}
use Rattle.witness.proofs.numbers_in.Goals as goal

pub returns : goal.returns
unfolding numbers_in rate_in lo_units if_units
returns c =
    rw (
      c.offset_of.ensures,
      c.units.ensures,
      c.rate_of.ensures,
      c.ratio_of-ratio.ensures,
      c.word_of-word.ensures,
      c.byte_of.ensures,
      c.byte_of-2.ensures,
      c.byte_of-3.ensures,
      c.byte_of-4.ensures,
      c.byte_of-5.ensures,
      c.byte_of-6.ensures,
      c.byte_of-7.ensures,
      c.byte_of-8.ensures,
      c.byte_of-9.ensures,
      c.byte_of-10.ensures,
      c.byte_of-11.ensures,
      c.byte_of-12.ensures,
      c.byte_of-13.ensures,
    )
