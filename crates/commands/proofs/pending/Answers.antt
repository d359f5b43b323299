-- `commands::pending` meets its contract. Assumes nothing.
use Rattle.commands.proofs.Overs.{none_pending, some_pending}
use Rattle.commands.proofs.pending.Goals as goal

pub returns-in-Some : goal.returns-in-Some
returns-in-Some c = some_pending c.args.stream.now _ c.in-Some.ensures

pub returns-in-None : goal.returns-in-None
returns-in-None c = none_pending c.args.stream.now c.in-None.ensures
