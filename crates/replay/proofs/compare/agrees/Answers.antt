-- `compare::agrees` says Same only where the case's numbers came back and all lent memory is as the case has it. Assumes nothing.
use Rattle.std.proofs.Common.{subst}
use Rattle.replay.specs.Agreement.{Written}
use Rattle.replay.proofs.Truth.{both}
use Rattle.replay.proofs.compare.agrees.Goals as goal

pub returns : goal.returns
returns c =
    λ e.
    let a = c.args in
    let h4 = both _ _ (c.decided.ensures e) in
    let h3 = both _ _ h4.0 in
    let h2 = both _ _ h3.0 in
    let h1 = both _ _ h2.0 in
    record {
      numbers_are = c.numbers-told.ensures h1.0;
      room_is = subst (Written a.room.now) c.part.ensures (c.written-steps.ensures h1.1);
      tuner_is = subst (Written a.tuner.now) c.part-2.ensures (c.written-first.ensures h2.1);
      driver_is = subst (Written a.driver.now) c.part-3.ensures (c.written-second.ensures h3.1);
      answered_is = subst (Written a.answered.now) c.part-4.ensures (c.written-bytes.ensures h4.1);
    }
