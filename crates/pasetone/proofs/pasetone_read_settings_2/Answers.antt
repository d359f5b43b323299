-- `pasetone::pasetone_read_settings_2` meets its contract: it tells what the call below answers. Assumes nothing.
use mathlib.Core.Path.{ap, ◌∙◌}
use Rattle.settings.specs.Reading.{told_of2}
use Rattle.pasetone.proofs.pasetone_read_settings_2.Goals as goal

pub returns : goal.returns
returns c = c.told_2.ensures ∙ ap told_of2 c.read_2-read.ensures
