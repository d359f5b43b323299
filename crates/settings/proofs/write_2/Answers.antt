-- `settings::write_2` meets its contract: the image is lent, unless a field is refused.
-- Assumes nothing.
use mathlib.Core.Path.{refl}
use Rattle.settings.specs.Image.{image2, numbers2, widths2}
use Rattle.settings.proofs.Images.{length_image}
use Rattle.settings.proofs.Laws.{written_made}
use Rattle.settings.proofs.write_2.Goals as goal

pub returns : goal.returns
returns c =
    let a = c.args in
    written_made a.w.settings (image2 a.w) _ a.out.now 27 _ _ c.lend.ensures c.refusal.ensures c.image_2-image.ensures
    (length_image 2 widths2 (numbers2 a.w) refl)
