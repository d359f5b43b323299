-- `witness::centre_mark` meets its contract.
-- Assumes nothing.
use mathlib.Core.Path.{sym}
use Rattle.witness.specs.Answer.{centre_mark}
use Rattle.witness.proofs.centre_mark.Goals as goal

pub returns-then-both-n : goal.returns-then-both-n
unfolding centre_mark
returns-then-both-n c =
    rw (sym c.mark_by-both.ensures, c.if-both-n.true)

pub returns : goal.returns
unfolding centre_mark
returns c =
    rw (sym c.mark_by-both.ensures, c.if-both-n.false)
