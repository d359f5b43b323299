-- `worksheet::summed` meets its contract: a turn of the loop is a line of the table, each line is fair, and no line is left at the end.
-- Assumes nothing.
use mathlib.Core.Path.{ap, ◌∙◌}
use Prim.Native.Nat.{ℕ, ◌+◌}
use native.Mathlib.Omega.{arith}
use mathlib.Core.Bool.{false}
use lib.ListN.{drop, get_or}
use Rattle.worksheet.specs.declared.Work.{Work}
use Rattle.worksheet.specs.Sheet.{adds, lines, lines_of}
use Rattle.worksheet.proofs.Tables.{line_turn, line_end, line_fair, grows}
use Rattle.worksheet.proofs.summed.Goals as goal

pub worked_line-w-requires : goal.worked_line-w-requires
worked_line-w-requires c =
    let l = c.loop-l in
    let f = line_fair (adds 0 0 false) l.l-index c.loop-l-test.true in
    (omega arith, f.0, f.1, omega arith)

pub loop-l-preserved : goal.loop-l-preserved
loop-l-preserved c =
    let l = c.loop-l in
    let k : ℕ = c.args.k in
    let h = c.loop-l-test.true in
    let f = line_fair (adds 0 0 false) l.l-index h in record {
      same = ap (λ (w : Work). lines_of k w (drop (l.l-index + 1) lines)) c.worked_line-w.ensures
          ∙ line_turn k l.w (adds 0 0 false) l.l-index h
          ∙ l.invariant.same;
      small = omega (arith, ap (λ (w : Work). w.sum) c.worked_line-w.ensures, grows k l.w (get_or lines l.l-index (adds 0 0 false)), f.1);
    }

pub returns : goal.returns
returns c = line_end c.args.k c.loop-l.w c.loop-l.l-index c.loop-l-test.false ∙ c.loop-l.invariant.same
