-- `boards::path_part` meets its contract. Assumes nothing.
use Rattle.chip.specs.InCode.{in_room}
use Rattle.chip.proofs.Laws.{by_program}
use Rattle.boards.proofs.Hops.{direct, no_path, switched}
use native.Mathlib.Omega.{arith}
use Rattle.boards.proofs.path_part.Goals as goal

pub returns-in-R820T : goal.returns-in-R820T
returns-in-R820T c =
    let args = c.args in
    record { room_after = no_path in_room _ _ args.route args.replies.now _ c.in-R820T.is; bounds = omega arith }

pub returns-in-None : goal.returns-in-None
returns-in-None c =
    record { room_after = direct in_room _ _ _ c.args.replies.now _ c.in-R828D.is c.in-None.is; bounds = omega arith }

pub returns-in-Some : goal.returns-in-Some
returns-in-Some c =
    let path-steps = c.path_steps in
    record {
      room_after = by_program in_room _ _ _ _ _ (switched _ _ _ c.args.replies.now c.in-R828D.is c.in-Some.is)
          path-steps.ensures.room_after;
      bounds = omega (arith, path-steps.ensures.bounds);
    }
