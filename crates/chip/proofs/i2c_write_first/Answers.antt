-- `chip::i2c_write_first` meets its contract: which program its steps are, and how many entries they add at most. Assumes nothing.
use Rattle.std.proofs.Common.{map, take, drop, rules, arith, of_calls}
use Rattle.chip.specs.Steps.{chunk_step, chunk_table}
use Rattle.chip.proofs.i2c_write_first.Goals as goal

pub bracket-requires-clause-ends : goal.bracket-requires-clause-ends
bracket-requires-clause-ends c = (3, λ l a lent x left e. search (rules, of_calls), omega arith, omega arith)

pub returns-clause-room_after : goal.returns-clause-room_after
returns-clause-room_after c = c.bracket.ensures.room_after (map (chunk_step c.args.bs) (drop 0 (take 3 chunk_table))) (λ l lent x left e. search (rules, of_calls))

pub returns-clause-bounds : goal.returns-clause-bounds
returns-clause-bounds c = omega (arith, c.bracket.ensures.bounds 3 (λ l a lent x left e. search (rules, of_calls)))
