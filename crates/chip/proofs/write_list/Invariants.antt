-- `chip::write_list` meets its contract. The loop's invariant: what is left, from here, gives what all of it gives from the start. Assumes nothing.
use Rattle.std.proofs.Common.{◌≡◌, ◌+◌, ◌≤◌, drop}
use Rattle.chip.specs.Chips.{chip_of}
use Rattle.chip.specs.InCode.{in_room, on_log}
use Rattle.chip.specs.Steps.{closing_owed, run, updates}
use Rattle.chip.proofs.write_list.Given as goal

abbrev pub invariant-loop-u : goal.invariant-loop-u
invariant-loop-u l = record {
  count : l.l.count + closing_owed l.l.opened ≤ l.initial.l.count + l.u-index + closing_owed l.initial.l.opened;
  left : run in_room l.outcomes (updates (drop l.u-index l.us)) (on_log (chip_of l.address l.shadow l.doubtful) l.l l.room)
      ≡ run in_room l.outcomes (updates l.us) (on_log (chip_of l.address l.initial.shadow l.initial.doubtful) l.initial.l l.initial.room);
}
