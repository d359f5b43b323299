-- `settings::narrow_refusal` meets its contract: its two tests are those of the definition. Assumes nothing.
use Rattle.settings.proofs.Editions.{narrow_other, narrow_refused, narrow_usual}
use Rattle.settings.proofs.narrow_refusal.Goals as goal

pub returns-then-read-ne0 : goal.returns-then-read-ne0
returns-then-read-ne0 c =
    narrow_refused c.args.read c.if-read-ne0.true

pub returns-then-w-ne-USUAL_IF : goal.returns-then-w-ne-USUAL_IF
returns-then-w-ne-USUAL_IF c =
    narrow_other c.args.read c.if-read-ne0.false c.if-w-ne-USUAL_IF.true

pub returns : goal.returns
returns c =
    narrow_usual c.args.read c.if-read-ne0.false c.if-w-ne-USUAL_IF.false
