-- `r82xx::Tuner::with_notch` meets its contract: what `apply_notch` leaves and answers, as a call without steps.
-- Assumes nothing.
use Rattle.std.proofs.Common.{[], ap₂, ◌∙◌}
use Rattle.chip.specs.Calls.{called}
use Rattle.r82xx.proofs.Tuned.{notch_alone}
use Rattle.r82xx.proofs.Tuner.with_notch.Goals as goal

pub returns : goal.returns
returns c =
    ap₂ (λ t a. called t [] 0 a) c.apply_notch-answer.ensures.1 c.apply_notch-answer.ensures.0
    ∙ notch_alone c.args.self c.args.on
