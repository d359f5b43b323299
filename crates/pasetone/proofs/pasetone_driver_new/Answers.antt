-- `pasetone::pasetone_driver_new` meets its contract: it tells what the call below answers. Assumes nothing.
use mathlib.Core.Path.{ap, ◌∙◌}
use lib.IntN.{ℤ}
use mir.Facts.{to_z-of_z}
use Rattle.drivers.specs.Drivers.{fresh_into}
use Rattle.pasetone.proofs.Telling.{lent_told}
use Rattle.pasetone.proofs.pasetone_driver_new.Goals as goal

pub returns : goal.returns
returns c =
    let args = c.args in
    lent_told _ _ _ _ c.numbers.ensures
    (c.fresh-answer.ensures
    ∙ ap (λ (z : ℤ). fresh_into args.board args.nominal z args.frequency args.rate args.next.now) (to_z-of_z c.ranges.ppm))
