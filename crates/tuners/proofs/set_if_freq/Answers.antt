-- `tuners::set_if_freq` meets its contract: it leaves what its row leaves.
-- Assumes nothing.
use Rattle.std.proofs.Common.{refl, rules}
use Rattle.r82xx.specs.Orders.{bracket, course_of, result_of}
use Rattle.r82xx.specs.Orders.Order.{IfFreq}
use Rattle.tuners.proofs.set_if_freq.Goals as goal

pub returns : goal.returns
unfolding result_of bracket
returns c = c.stepped.ensures (course_of (IfFreq c.args.hz)) c.args.outcomes.now (λ t. refl) (λ z t lent r left post. search rules)
