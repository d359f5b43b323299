-- `compare::written` says true only where the bytes stand at the start and the rest is 0xa5. Assumes nothing.
use Rattle.replay.proofs.Truth.{never}
use Rattle.replay.proofs.Lent.{written_by}
use Rattle.replay.proofs.compare.written.Goals as goal

pub returns-then-lent-n : goal.returns-then-lent-n
returns-then-lent-n c = never

pub returns-then-same : goal.returns-then-same
returns-then-same c =
    λ e.
    let a = c.args in
    written_by a.lent.now a.bytes.now
    (c.same.ensures.0 c.if-same.true)
    (c.untouched.ensures e)

pub returns : goal.returns
returns c = never
