-- `compare::unless_refused` meets its contract. Assumes nothing.
use Rattle.std.proofs.Common.{eq-eqb, ne_eqb}
use Rattle.replay.proofs.compare.unless_refused.Goals as goal

pub returns-then-refusal-eq0 : goal.returns-then-refusal-eq0
returns-then-refusal-eq0 c = simp (eq-eqb c.args.refusal 0 c.if-refusal-eq0.true)

pub returns : goal.returns
returns c = simp (ne_eqb c.args.refusal 0 c.if-refusal-eq0.false)
