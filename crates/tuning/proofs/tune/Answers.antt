-- `tuning::tune` meets its contract: which program its steps are, and how many entries they add at most. Assumes nothing.
use Rattle.std.proofs.Common.{rules, arith, of_calls}
use Rattle.tuning.specs.Program.{inner_steps}
use Rattle.tuning.proofs.tune.Goals as goal

pub bracket-requires-clause-ends : goal.bracket-requires-clause-ends
bracket-requires-clause-ends c = (51, λ l a lent x left e. search (rules, of_calls), omega arith, omega arith)

pub returns-clause-room_after : goal.returns-clause-room_after
returns-clause-room_after c = c.bracket.ensures.room_after (let t = c.args.t in inner_steps c.args.f.chip.address t.kind t.notch t.plan t.hz c.args.replies.now) (λ l lent x left e. search (rules, of_calls))

pub returns-clause-bounds : goal.returns-clause-bounds
returns-clause-bounds c = omega (arith, c.bracket.ensures.bounds 51 (λ l a lent x left e. search (rules, of_calls)))
