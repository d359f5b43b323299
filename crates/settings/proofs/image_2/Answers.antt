-- `settings::image_2` meets its contract: the fields of edition 1, the IF and the trailer, stored over 27 bytes, are the image.
-- Assumes nothing.
use mathlib.Core.Path.{refl, ap, ◌∙◌}
use lib.ListN.{replicate}
use lib.Seq.{sets}
use Rattle.wire.specs.Bytes.{le_bytes}
use Rattle.settings.specs.Image.{numbers2, trailer, widths2}
use Rattle.settings.proofs.Images.{image_laid}
use Rattle.settings.proofs.Editions.{if_laid}
use Rattle.settings.proofs.image_2.Goals as goal

pub returns : goal.returns
returns c =
    let args = c.args in
    let w = args.w in
    c.seal.ensures
    ∙ ap (λ l. sets l 23 (trailer 2 23))
    (c.put.ensures ∙ ap (λ l. sets l 19 (le_bytes 4 w.ifreq)) c.put_fields.ensures ∙ if_laid (replicate 27 0) w)
    ∙ image_laid 2 widths2 (numbers2 w) (replicate 27 0) refl refl
