-- `settings::Settings::refusal` meets its contract: its test is that of `fits_of`.
-- Assumes nothing.
use Rattle.settings.proofs.Laws.{fit, unfit}
use Rattle.settings.proofs.Settings.refusal.Goals as goal

pub returns-then-self : goal.returns-then-self
returns-then-self c =
    fit c.args.self c.if-self.true

pub returns : goal.returns
returns c =
    unfit c.args.self c.if-self.false
