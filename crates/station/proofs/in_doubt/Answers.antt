-- `station::in_doubt` meets its contract. Assumes nothing.
use mathlib.Core.Path.{◌≡◌, refl, sym}
use lib.ListN.{length}
use borrow.Author.Rules.{rules}
use Rattle.station.proofs.Told.{marks}
use Rattle.station.proofs.in_doubt.Goals as goal

pub returns : goal.returns
returns c =
    let chip = c.args.c in
    let long : length chip.doubtful ≡ 27 = search rules in
    sym (marks chip _ long refl)
