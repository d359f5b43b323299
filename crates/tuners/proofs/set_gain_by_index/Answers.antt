-- `tuners::set_gain_by_index` meets its contract: it leaves what its row leaves.
-- Assumes nothing.
use Rattle.std.proofs.Common.{refl, rules}
use Rattle.r82xx.specs.Orders.{bracket, course_of, gain_row, result_of}
use Rattle.r82xx.specs.Orders.Order.{GainIndex}
use Rattle.tuners.proofs.set_gain_by_index.Goals as goal

pub returns : goal.returns
unfolding result_of bracket gain_row
returns c = c.stepped.ensures (course_of (GainIndex c.args.index)) c.args.outcomes.now (λ t. refl) (λ z t lent r left post. search rules)
