-- `layout::part` meets its contract. Assumes nothing.
use Rattle.std.proofs.Common.{◌∙◌, ap₂}
use Rattle.replay.specs.Agreement.{cut_of}
use Rattle.replay.proofs.layout.part.Goals as goal

pub returns : goal.returns
returns c =
    c.cut.ensures ∙ ap₂ (cut_of c.args.c.now) c.start.ensures c.start-2.ensures
