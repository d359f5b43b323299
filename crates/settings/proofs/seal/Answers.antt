-- `settings::seal` meets its contract: edition, zero and distance are one number of four bytes.
-- Assumes nothing.
use mathlib.Core.Path.{ap, ◌∙◌}
use lib.Seq.{sets}
use Rattle.settings.proofs.Laws.{trailer_number}
use borrow.Author.Rules.{rules}
use Rattle.settings.proofs.seal.Goals as goal

pub returns : goal.returns
returns c =
    let a = c.args in
    c.put.ensures ∙ ap (sets a.image.now a.at) (trailer_number a.edition a.at (search rules))
