-- `chip::log_close` meets its contract. Each return is one law of the definition, with what the calls before it ensure. Assumes nothing.
use Rattle.std.proofs.Common.{refl, ◌∙◌, arith, rules}
use Rattle.chip.proofs.Laws.{owed_opened, idle, made}
use Rattle.chip.specs.InCode.{in_room}
use Rattle.chip.specs.Steps.Step.{Close}
use Rattle.chip.proofs.log_close.Goals as goal

pub returns-then-not-opened : goal.returns-then-not-opened
returns-then-not-opened c = record { room_after = λ chip. idle in_room _ Close _ c.if-not-opened.true; bounds = search rules }

pub bounds-outcomes-k : goal.bounds-outcomes-k
bounds-outcomes-k c =
    omega (arith, owed_opened c.args.l.opened c.if-not-opened.false, c.requires)

pub log_entry-requires : goal.log_entry-requires
log_entry-requires c =
    omega (arith, owed_opened c.args.l.opened c.if-not-opened.false, c.requires)

pub returns : goal.returns
returns c =
    let log-entry = c.log_entry in
    let if1 = c.if-not-opened in
    record { room_after = λ chip. log-entry.ensures.room_after chip ∙ made in_room _ Close _ _ _ refl refl if1.false; bounds = omega (arith, log-entry.ensures.bounds, owed_opened c.args.l.opened if1.false) }
