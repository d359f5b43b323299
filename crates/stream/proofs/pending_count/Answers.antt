-- `stream::pending_count` meets its contract: one law for each test that the bytes fail, one where all hold. Assumes nothing.
use native.Mathlib.Omega.{arith}
use Rattle.stream.proofs.Laws.{not_zeros, other_length, too_many, whole_rest, zeros}
use Rattle.stream.proofs.pending_count.Goals as goal

pub returns-then-s-ne-STREAM : goal.returns-then-s-ne-STREAM
returns-then-s-ne-STREAM c = other_length c.args.s.now c.if-s-ne-STREAM.true

pub returns-then-held-gt8 : goal.returns-then-held-gt8
returns-then-held-gt8 c = too_many c.args.s.now (omega arith) (omega arith)

pub returns-then-get-ne0 : goal.returns-then-get-ne0
returns-then-get-ne0 c =
    let s = c.args.s.now in
    not_zeros s _ (omega arith) (omega arith) (whole_rest s _ (omega arith) c.get.ensures.0) c.if-get-ne0.true

pub returns : goal.returns
returns c =
    let s = c.args.s.now in
    zeros s _ (omega arith) (omega arith) (whole_rest s _ (omega arith) c.get.ensures.0) (omega arith)
