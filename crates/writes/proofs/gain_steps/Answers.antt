-- `writes::gain_steps` meets its contract: which program its steps are, and how many entries they add at most. Assumes nothing.
use Rattle.std.proofs.Common.{rules, arith, of_calls}
use Rattle.chip.specs.Steps.{updates}
use Rattle.writes.specs.Lists.{gain_updates}
use Rattle.writes.proofs.gain_steps.Goals as goal

pub bracket-requires-clause-ends : goal.bracket-requires-clause-ends
bracket-requires-clause-ends c = (5, λ l a lent x left e. search (rules, of_calls), omega arith, omega arith)

pub returns-clause-room_after : goal.returns-clause-room_after
returns-clause-room_after c = c.bracket.ensures.room_after (updates (gain_updates c.args.k)) (λ l lent x left e. search (rules, of_calls))

pub returns-clause-bounds : goal.returns-clause-bounds
returns-clause-bounds c = omega (arith, c.bracket.ensures.bounds 5 (λ l a lent x left e. search (rules, of_calls)))
