-- `settings::image_1` meets its contract: fields and trailer, stored over 23 bytes, are the image.
-- Assumes nothing.
use mathlib.Core.Path.{refl, ap, ◌∙◌}
use lib.ListN.{replicate}
use lib.Seq.{sets}
use Rattle.settings.specs.Image.{numbers1, trailer, widths1}
use Rattle.settings.proofs.Images.{image_laid}
use Rattle.settings.proofs.image_1.Goals as goal

pub returns : goal.returns
returns c =
    c.seal.ensures
    ∙ ap (λ l. sets l 19 (trailer 1 19)) c.put_fields.ensures
    ∙ image_laid 1 widths1 (numbers1 c.args.s) (replicate 23 0) refl refl
