-- `chip::send` meets its contract. Each return is one law of the definition, with what the calls before it ensure. Assumes nothing.
use Rattle.std.proofs.Common.{ap, ◌∙◌, rules}
use Rattle.chip.specs.InCode.{in_room}
use Rattle.chip.specs.Steps.{goes}
use Rattle.chip.specs.Steps.Step.{Send}
use Rattle.chip.proofs.Attempted.{stored}
use Rattle.chip.proofs.Laws.{idle, made}
use Rattle.chip.proofs.send.Goals as goal

pub returns-in_default : goal.returns-in_default
returns-in_default c = record { room_after = idle in_room _ (Send _ _) _ (ap goes c.in_default.is); bounds = search rules }

pub returns : goal.returns
returns c =
    let attempt = c.attempt in
    record {
      room_after = c.log_entry.ensures.room_after _
          ∙ made in_room _ (Send _ _) _ _ _ (stored _ _ _ _ _ _ _ _ attempt.ensures.0 attempt.ensures.1) c.progress_after.ensures
          (ap goes c.in-Going.is);
      bounds = search rules;
    }
