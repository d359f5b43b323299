-- `tuners::initialize` meets its contract: it leaves what its row leaves.
-- Assumes nothing.
use Rattle.std.proofs.Common.{refl, rules}
use Rattle.r82xx.specs.Orders.{course_of, result_of}
use Rattle.r82xx.specs.Orders.Order.{Initialize}
use Rattle.tuners.proofs.initialize.Goals as goal

pub returns : goal.returns
unfolding result_of
returns c = c.stepped.ensures (course_of Initialize) c.args.outcomes.now (λ t. refl) (λ z t lent r left post. search rules)
