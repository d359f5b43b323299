-- `tuning::write_repair` meets its contract: the one write, or none. Assumes nothing.
use mathlib.Core.Path.{ap, sym, ◌∙◌}
use mathlib.Core.List.{List, [], ◌∷◌}
use Prim.Native.Nat.{ℕ}
use Rattle.std.specs.Prelude.{Option}
use Rattle.chip.specs.InCode.{in_room}
use Rattle.chip.specs.Steps.{updates}
use Rattle.chip.proofs.Laws.{ended, swap}
use Rattle.tuning.specs.InCode.{fix_updates}
use Rattle.tuning.proofs.write_repair.Goals as goal

pub returns-in_default-clause-room_after : goal.returns-in_default-clause-room_after
returns-in_default-clause-room_after c =
    swap in_room _ _ _ _ _ (sym (ap (λ (o : Option ℕ). updates (fix_updates o)) c.in_default.is)) (ended in_room _ _ _ (c.log_end.ensures.room_after _))
