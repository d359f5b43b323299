-- `chip::log_open` meets its contract. Each return is one law of the definition, with what the calls before it ensure. Assumes nothing.
use Rattle.std.proofs.Common.{eqb, get_or, refl, ap, ◌∙◌, arith}
use Rattle.chip.proofs.Laws.{owed_one, idle, made}
use Rattle.chip.specs.InCode.{in_room}
use Rattle.chip.specs.Steps.{goes}
use Rattle.chip.specs.Steps.Step.{Open}
use Rattle.chip.proofs.log_open.Goals as goal

pub returns-in_default : goal.returns-in_default
returns-in_default c =
    record { room_after = λ chip. idle in_room _ Open _ (ap goes c.in_default.is); bounds = omega (arith, owed_one c.args.l.opened) }

pub returns : goal.returns
returns c =
    let log-entry = c.log_entry in
    let args = c.args in record {
      room_after = λ chip. log-entry.ensures.room_after chip
          ∙ made in_room _ Open _ _ _ refl c.progress_after.ensures (ap goes c.in-Going.is);
      bounds = omega (arith, log-entry.ensures.bounds, owed_one (eqb (get_or args.outcomes.now args.l.count 0) 0));
    }
