-- `gain::choose` meets its contract: the tenths, then the nearest step to them.
-- Assumes nothing.
use mathlib.Core.Path.{ap, ◌∙◌}
use mir.Syntax.{w32}
use mir.ValLaws.{to_z-of_z}
use Rattle.gain.specs.Steps.{chosen_of, nearest_of}
use Rattle.gain.proofs.choose.Goals as goal

pub returns : goal.returns
unfolding chosen_of
returns c =
    c.nearest.ensures
    ∙ ap nearest_of (to_z-of_z w32 c.tenths.result (record { sfits = c.tenths.type_inv }) ∙ c.tenths.ensures)
