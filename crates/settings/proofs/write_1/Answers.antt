-- `settings::write_1` meets its contract: the image is lent, unless a field is refused.
-- Assumes nothing.
use mathlib.Core.Path.{refl}
use Rattle.settings.specs.Image.{image1, numbers1, widths1}
use Rattle.settings.proofs.Images.{length_image}
use Rattle.settings.proofs.Laws.{written_made}
use Rattle.settings.proofs.write_1.Goals as goal

pub returns : goal.returns
returns c =
    let a = c.args in
    written_made a.s (image1 a.s) _ a.out.now 23 _ _ c.lend.ensures c.refusal.ensures c.image_1-image.ensures
    (length_image 1 widths1 (numbers1 a.s) refl)
