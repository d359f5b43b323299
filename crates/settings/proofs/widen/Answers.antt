-- `settings::widen` meets its contract. Assumes nothing.
use mathlib.Core.Path.{◌∙◌}
use Rattle.settings.proofs.Editions.{widened_read, widened_refused}
use Rattle.settings.proofs.widen.Goals as goal

pub returns-then-read-ne0 : goal.returns-then-read-ne0
returns-then-read-ne0 c =
    c.refuse_2.ensures ∙ widened_refused c.args.read c.if-read-ne0.true

pub returns : goal.returns
returns c =
    widened_read c.args.read c.if-read-ne0.false
