-- `chip::with_repeater` meets its contract: its steps add so many entries at most. Assumes nothing.
use Rattle.std.proofs.Common.{length, rules, arith, of_calls}
use Rattle.chip.proofs.with_repeater.Goals as goal

pub bracket-requires-clause-ends : goal.bracket-requires-clause-ends
bracket-requires-clause-ends c = (length c.args.us.now, λ l a lent x left e. search (rules, of_calls), omega arith, omega arith)

pub returns-clause-bounds : goal.returns-clause-bounds
returns-clause-bounds c = c.bracket.ensures.bounds (length c.args.us.now) (λ l a lent x left e. search (rules, of_calls))
