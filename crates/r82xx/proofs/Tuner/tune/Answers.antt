-- `r82xx::Tuner::tune` meets its contract. What it hands back, and what it tells of the lock, is one law of the definition, with what the calls before it ensure. Assumes nothing.
use mathlib.Core.Path.{refl, ap, ◌∙◌}
use native.Mathlib.Omega.{arith}
use Rattle.chip.specs.InCode.{Logged, in_room}
use Rattle.chip.specs.Steps.{Line, run}
use Rattle.tuning.specs.Program.{tune_steps}
use Rattle.r82xx.proofs.Tuned.{tune_by}
use Rattle.r82xx.proofs.Tuner.tune.Goals as goal

pub returns : goal.returns
returns c =
    let f = c.tune-f in
    let a = c.args in
    let z =
    tune_by a.outcomes.now a.replies.now a.room.now a.hz a.self a.plan f.result _ _ _ _ _
    (f.ensures.room_after ∙ ap (λ (w : Line Logged). run in_room a.outcomes.now (tune_steps w.chip.address a.self.kind a.self.notch a.plan a.hz a.replies.now) w) (c.start.ensures.begun a.room.now))
    c.whole_answer.ensures refl refl c.lock_after.ensures (omega (arith, f.ensures.bounds)) in
    (c.ended.ensures ∙ z.0, z.1)
