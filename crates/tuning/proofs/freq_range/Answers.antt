-- `tuning::freq_range` meets its contract. The loop's invariant: what is left, from here, gives what all of it gives from the start. Assumes nothing.
use mathlib.Core.Path.{refl, ap, ◌∙◌}
use borrow.Author.Rules.{rules}
use Prim.Native.Nat.{◌+◌}
use lib.ListN.{drop}
use Rattle.tuning.specs.declared.FreqRange.{FreqRange}
use Rattle.tuning.specs.Mux.{last_at, range_of, ranges}
use Rattle.tuning.proofs.Rows.{range_turn, range_end}
use Rattle.tuning.proofs.freq_range.Goals as goal

pub loop-r-init : goal.loop-r-init
unfolding range_of
loop-r-init c = refl

pub loop-r-preserved : goal.loop-r-preserved
loop-r-preserved c =
    let loop = c.loop-r in
    let hz = c.args.hz in
    ap (λ (r : FreqRange). last_at hz r (drop (loop.r-index + 1) ranges)) c.later-best.ensures
    ∙ range_turn hz loop.best _ loop.r-index (search rules)
    ∙ loop.invariant

pub returns : goal.returns
returns c =
    let loop = c.loop-r in
    range_end c.args.hz loop.best loop.r-index (search rules) ∙ loop.invariant
