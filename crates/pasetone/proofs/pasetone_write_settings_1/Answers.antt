-- `pasetone::pasetone_write_settings_1` meets its contract: it tells what the call below answers. Assumes nothing.
use mathlib.Core.Path.{ap, ◌∙◌}
use lib.IntN.{ℤ}
use mir.Facts.{to_z-of_z}
use Rattle.settings.specs.Reading.{settings, written_to1}
use Rattle.pasetone.proofs.Telling.{lent_told}
use Rattle.pasetone.proofs.pasetone_write_settings_1.Goals as goal

pub returns : goal.returns
returns c =
    let a = c.args in
    lent_told _ _ _ _ c.numbers.ensures
    (c.write_1-answer.ensures
    ∙ ap (λ (z : ℤ). written_to1 (settings a.kind a.board z a.rate a.frequency a.gain) a.out.now) (to_z-of_z c.ranges.correction))
