-- `settings::read_2` meets its contract: what is not of edition 2 is read as edition 1. Assumes nothing.
use mathlib.Core.Path.{◌∙◌}
use Rattle.settings.proofs.Editions.{by_old, by_own}
use Rattle.settings.proofs.read_2.Goals as goal

pub returns-then-read-eq-EDITION : goal.returns-then-read-eq-EDITION
returns-then-read-eq-EDITION c =
    let read_1 = c.read_1 in
    let read-only-2 = c.read_only_2-read in
    c.widen.ensures ∙ by_old c.args.s.now read-only-2.result read_1.result read-only-2.ensures read_1.ensures c.if-read-eq-EDITION.true

pub returns : goal.returns
returns c =
    let read-only-2 = c.read_only_2-read in
    by_own c.args.s.now read-only-2.result read-only-2.ensures c.if-read-eq-EDITION.false
