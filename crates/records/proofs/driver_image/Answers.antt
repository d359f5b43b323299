-- `records::driver_image` meets its contract: the parts, stored one after the other over 29 bytes, are the record's bytes.
-- Assumes nothing.
use mathlib.Core.Path.{◌≡◌, refl, ap, ◌∙◌}
use mir.Syntax.{w32}
use mir.Val.{SFits, of_z}
use mir.Facts.{to_z-of_z}
use lib.ListN.{replicate}
use Rattle.records.proofs.Driven.{driver_image_whole}
use borrow.Author.Rules.{rules}
use Rattle.records.proofs.driver_image.Goals as goal

pub returns : goal.returns
returns c =
    let d =
    c.args.d in
    let small : SFits w32 d.ppm = search rules in
    let to-bits = c.to_bits in
    let bits : to-bits.result ≡ of_z w32 d.ppm = to-bits.ensures ∙ ap (of_z w32) (to_z-of_z small) in
    rw (
      c.put-6.ensures,
      c.put-5.ensures,
      c.put-4.ensures,
      c.put-3.ensures,
      bits,
      c.put-2.ensures,
      c.put.ensures,
      c.from.ensures,
    ) (driver_image_whole d (replicate 29 0) refl)
