-- `pasetone::pasetone_read_settings_1` meets its contract: it tells what the call below answers. Assumes nothing.
use mathlib.Core.Path.{ap, ◌∙◌}
use Rattle.settings.specs.Reading.{told_of1}
use Rattle.pasetone.proofs.pasetone_read_settings_1.Goals as goal

pub returns : goal.returns
returns c = c.told_1.ensures ∙ ap told_of1 c.read_1-read.ensures
