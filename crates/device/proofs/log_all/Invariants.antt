-- `device::log_all` meets its contract. The invariant: the log is what the accesses before the index leave.
-- Assumes nothing.
use mathlib.Core.Path.{◌≡◌}
use Prim.Native.Nat.{◌≤◌, ◌+◌}
use mathlib.Core.List.{map}
use lib.ListN.{take}
use Rattle.chip.specs.declared.Chip.{Chip}
use Rattle.chip.specs.InCode.{in_room, on_log}
use Rattle.chip.specs.Steps.{closing_owed, run}
use Rattle.device.specs.Accesses.{access_step}
use Rattle.device.proofs.log_all.Given as goal

abbrev pub invariant-loop-a : goal.invariant-loop-a
invariant-loop-a l = record {
  bound : l.l.count + closing_owed l.l.opened ≤ l.initial.l.count + l.a-index + closing_owed l.initial.l.opened;
  reached : (chip : Chip)
      → on_log chip l.l l.room ≡ run in_room l.outcomes (map access_step (take l.a-index l.rows)) (on_log chip l.initial.l l.initial.room);
}
