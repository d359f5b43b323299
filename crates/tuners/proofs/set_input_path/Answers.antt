-- `tuners::set_input_path` meets its contract: it leaves what its row leaves.
-- Assumes nothing.
use Rattle.std.proofs.Common.{rules, ◌∙◌}
use Rattle.r82xx.specs.Orders.{course_of, result_of}
use Rattle.r82xx.specs.Orders.Order.{InputPath}
use Rattle.tuners.proofs.Passed.{tuner_path_argued}
use Rattle.tuners.proofs.set_input_path.Goals as goal

pub returns : goal.returns
unfolding result_of
returns c =
    let a = c.args in
    c.stepped.ensures (course_of (InputPath a.path)) a.outcomes.now (λ t. c.path_refusal.ensures ∙ tuner_path_argued t.kind t a.path)
    (λ z t lent r left post. search rules)
