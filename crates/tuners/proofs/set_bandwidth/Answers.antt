-- `tuners::set_bandwidth` meets its contract: it leaves what its row leaves.
-- Assumes nothing.
use Rattle.std.proofs.Common.{refl, rules}
use Rattle.r82xx.specs.Orders.{bracket, course_of, result_of}
use Rattle.r82xx.specs.Orders.Order.{Bandwidth}
use Rattle.tuners.proofs.set_bandwidth.Goals as goal

pub returns : goal.returns
unfolding result_of bracket
returns c = c.stepped.ensures (course_of (Bandwidth c.args.hz)) c.args.outcomes.now (λ t. refl) (λ z t lent r left post. search rules)
