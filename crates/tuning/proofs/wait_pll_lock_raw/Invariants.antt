-- `tuning::wait_pll_lock_raw` meets its contract. The loop's invariant: what is left, from here, gives what all of it gives from the start. Assumes nothing.
use mathlib.Core.Path.{◌≡◌}
use Prim.Native.Nat.{◌+◌, ◌*◌, ◌-◌, ◌≤◌, min}
use Rattle.chip.specs.Chips.{chip_of}
use Rattle.chip.specs.InCode.{closing, in_room, on_log}
use Rattle.chip.specs.Steps.{closing_owed, run}
use Rattle.tuning.specs.Tries.{tries_from}
use Rattle.tuning.proofs.wait_pll_lock_raw.Given as goal

abbrev pub invariant-loop-i : goal.invariant-loop-i
invariant-loop-i l = record {
  count : l.l.count + closing_owed l.l.opened ≤ l.initial.l.count + (3 * l.i + min l.i 1) + closing_owed l.initial.l.opened;
  left : closing in_room l.outcomes (run in_room l.outcomes (tries_from l.address l.replies (10 - l.i) l.i) (on_log (chip_of l.address l.shadow l.doubtful) l.l l.room))
      ≡ closing in_room l.outcomes (run in_room l.outcomes (tries_from l.address l.replies 10 0) (on_log (chip_of l.address l.initial.shadow l.initial.doubtful) l.initial.l l.initial.room));
}
