-- `transcript::entry_fits` meets its contract: the two tests on numbers are those of `fits`.
-- Assumes nothing.
use mathlib.Core.Path.{ap, ap₂, ◌∙◌}
use mathlib.Core.Bool.{◌&&◌}
use native.Mathlib.Omega.{arith}
use lib.ListN.{drop}
use Rattle.wire.specs.Bytes.{le_bytes}
use Rattle.transcript.specs.Entries.{zeros}
use Rattle.transcript.proofs.Words.{words_fit}
use borrow.Author.Rules.{rules}
use Rattle.transcript.proofs.entry_fits.Goals as goal

pub returns : goal.returns
returns c =
    let row = c.row_fits in
    let a = c.args in
    ap₂ (λ x y. x && y) row.ensures (c.padded.ensures ∙ ap (λ k. zeros (drop k (le_bytes 8 c.eight-d.result))) c.kept_by.ensures)
    ∙ words_fit a.s.now a.at c.four-a.result c.eight-d.result
    (λ i. omega (arith, c.shared_slice_known-1.given i)) (search rules) c.four-a.ensures c.eight-d.ensures
