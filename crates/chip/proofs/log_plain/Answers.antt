-- `chip::log_plain` meets its contract. Each return is one law of the definition, with what the calls before it ensure. Assumes nothing.
use Rattle.chip.proofs.Laws.{idle, made}
use Rattle.std.proofs.Common.{refl, ap, ◌∙◌, rules}
use Rattle.chip.specs.InCode.{in_room}
use Rattle.chip.specs.Steps.{goes}
use Rattle.chip.specs.Steps.Step.{Plain}
use Rattle.chip.proofs.log_plain.Goals as goal

pub returns-in_default : goal.returns-in_default
returns-in_default c = record { room_after = λ chip. idle in_room _ (Plain _) _ (ap goes c.in_default.is); bounds = search rules }

pub returns : goal.returns
returns c =
    record {
      room_after = λ chip. c.log_entry.ensures.room_after chip
          ∙ made in_room _ (Plain _) _ _ _ refl c.progress_after.ensures (ap goes c.in-Going.is);
      bounds = search rules;
    }
