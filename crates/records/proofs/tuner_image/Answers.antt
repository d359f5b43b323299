-- `records::tuner_image` meets its contract: the parts, stored one after the other over 78 bytes, are the record's bytes.
-- Assumes nothing.
use Rattle.std.proofs.Common.{refl, replicate, rules}
use Rattle.records.proofs.Made.{image_whole}
use Rattle.records.proofs.tuner_image.Goals as goal

pub returns : goal.returns
returns c =
    rw (
      c.copy-2.ensures,
      c.flag_bytes.ensures,
      c.put-8.ensures,
      c.put-7.ensures,
      c.put-6.ensures,
      c.bits_of.ensures,
      c.put-5.ensures,
      c.put-4.ensures,
      c.put-3.ensures,
      c.copy.ensures,
      c.put-2.ensures,
      c.put.ensures,
      c.kind_number.ensures,
    ) (image_whole c.args.t (replicate 78 0) (record { shadow = search rules; doubtful = search rules }) refl)
