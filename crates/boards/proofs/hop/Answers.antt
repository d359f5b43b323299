-- `boards::hop` meets its contract. Assumes nothing.
use native.Mathlib.Omega.{arith}
use Rattle.boards.proofs.Hops.{hop_by}
use Rattle.boards.proofs.hop.Goals as goal

pub returns : goal.returns
returns c =
    let finish = c.finish-answered in
    let f = c.hop_steps-f in
    let a = c.args in
    hop_by a.outcomes.now a.replies.now a.room.now a.hz a.tuner a.driver _ a.plan a.by f.result _ _ _ _ _ f.ensures.room_after
    c.whole_answer.ensures finish.ensures.1 finish.ensures.0 c.lock_after.ensures c.heard.ensures
    (omega (arith, f.ensures.bounds))
