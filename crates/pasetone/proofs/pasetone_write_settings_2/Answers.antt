-- `pasetone::pasetone_write_settings_2` meets its contract: it tells what the call below answers. Assumes nothing.
use mathlib.Core.Path.{ap, ◌∙◌}
use lib.IntN.{ℤ}
use mir.Facts.{to_z-of_z}
use Rattle.settings.specs.Image.{wider}
use Rattle.settings.specs.Reading.{settings, written_to2}
use Rattle.pasetone.proofs.Telling.{lent_told}
use Rattle.pasetone.proofs.pasetone_write_settings_2.Goals as goal

pub returns : goal.returns
returns c =
    let a = c.args in
    lent_told _ _ _ _ c.numbers.ensures
    (c.write_2-answer.ensures
    ∙ ap (λ (z : ℤ). written_to2 (wider (settings a.kind a.board z a.rate a.frequency a.gain) a.intermediate) a.out.now)
    (to_z-of_z c.ranges.correction))
