-- `gain::tenths` meets its contract: the product is the code's own, and `truncated` cuts it.
-- Assumes nothing.
use mathlib.Core.Path.{◌∙◌}
use mir.Syntax.{w32}
use mir.ValLaws.{to_z-of_z}
use Rattle.gain.specs.Product.{tenths_of}
use Rattle.gain.proofs.tenths.Goals as goal

pub returns : goal.returns
unfolding tenths_of
returns c = to_z-of_z w32 c.truncated.result (record { sfits = c.truncated.type_inv }) ∙ c.truncated.ensures
