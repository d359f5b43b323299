-- `reference::correct` meets its contract: no step of the arithmetic leaves 64 bits. Assumes nothing.
use Rattle.std.proofs.Common.{arith, ap, ◌∙◌}
use Rattle.reference.specs.Correct.{accept_of, corrected_of}
use Rattle.reference.proofs.Wide.{worked_out}
use Rattle.reference.proofs.correct.Goals as goal

pub returns : goal.returns
unfolding corrected_of
returns c =
    c.accept.ensures ∙ ap accept_of (worked_out c.args.nominal c.args.ppm (omega arith) c.ranges.ppm c.from-wide.ensures c.from.ensures)
