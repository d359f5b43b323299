-- `demod::log_upward` meets its contract. The invariant: the log is what the bytes before the index leave.
-- Assumes nothing.
use Prim.Native.Nat.{◌+◌, ◌≤◌}
use mathlib.Core.Path.{◌≡◌}
use lib.ListN.{take}
use Rattle.chip.specs.declared.Chip.{Chip}
use Rattle.chip.specs.InCode.{in_room, on_log}
use Rattle.chip.specs.Steps.{closing_owed, run}
use Rattle.demod.specs.Programs.{upward}
use Rattle.demod.proofs.log_upward.Given as goal

abbrev pub invariant-loop-i : goal.invariant-loop-i
invariant-loop-i l = record {
  bound : l.l.count + closing_owed l.l.opened ≤ l.initial.l.count + l.i + closing_owed l.initial.l.opened;
  reached : (chip : Chip)
      → on_log chip l.l l.room ≡ run in_room l.outcomes (upward l.register (take l.i l.bytes)) (on_log chip l.initial.l l.initial.room);
}
