-- `pasetone::pasetone_read_section` meets its contract: it tells what the call below answers. Assumes nothing.
use mathlib.Core.Path.{ap, ◌∙◌}
use Rattle.reply.specs.Replies.{parts_of}
use Rattle.pasetone.proofs.pasetone_read_section.Goals as goal

pub returns : goal.returns
returns c = c.located.ensures ∙ ap parts_of c.read_section-section.ensures
