-- `worksheet::divider` meets its contract: a turn of the loop is a row of the table, and no row is left at the end. Assumes nothing.
use mathlib.Core.Path.{ap, ◌∙◌}
use Prim.Native.Nat.{ℕ, ◌+◌}
use lib.ListN.{drop}
use Rattle.worksheet.specs.Sheet.{bands, bands_of}
use Rattle.worksheet.proofs.Tables.{band_turn, band_end}
use Rattle.worksheet.proofs.divider.Goals as goal

pub loop-b-preserved : goal.loop-b-preserved
loop-b-preserved c =
    let l = c.loop-b in
    let lo = c.args.lo in
    ap (λ (m : ℕ). bands_of lo m (drop (l.b-index + 1) bands)) c.in_band-m.ensures
    ∙ band_turn lo l.m _ l.b-index c.loop-b-test.true
    ∙ l.invariant

pub returns : goal.returns
returns c = band_end c.args.lo c.loop-b.m c.loop-b.b-index c.loop-b-test.false ∙ c.loop-b.invariant
