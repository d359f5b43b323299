-- `r82xx::apply_notch` meets its contract: what its two calls give is what the definition leaves and answers.
-- Assumes nothing.
use Rattle.std.proofs.Common.{ap, ◌∙◌}
use Rattle.chip.specs.Calls.{Called}
use Rattle.r82xx.specs.declared.Tuner.{Tuner}
use Rattle.r82xx.specs.Record.{with_notch}
use Rattle.r82xx.proofs.Tuned.{notch_left}
use Rattle.r82xx.proofs.apply_notch.Goals as goal

pub returns : goal.returns
returns c =
    let t = c.args.t.now in
    let left = notch_left t c.args.on in (
      c.sound_answer.ensures ∙ ap (λ (q : Called Tuner). q.answer) left,
      ap (with_notch t) c.kept_notch-t.ensures ∙ ap (λ (q : Called Tuner). q.next) left,
    )
