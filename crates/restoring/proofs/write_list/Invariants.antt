-- `restoring::write_list` meets its contract. The loop's invariant: the writes of the runs that are left, stored after those that are stored, leave what all of them leave; then the trailer.
-- Assumes nothing.
use Prim.Native.Nat.{◌+◌, ◌-◌, ◌*◌}
use mathlib.Core.Path.{◌≡◌}
use mathlib.Core.List.{map}
use lib.ListN.{length}
use lib.Seq.{sets}
use Rattle.transcript.specs.Sections.{entries_bytes}
use Rattle.restore.specs.Restore.{runs, write_of}
use Rattle.restoring.specs.Standing.{held_of, sure_of}
use Rattle.restoring.proofs.Laying.{left}
use Rattle.restoring.proofs.write_list.Given as goal

abbrev pub invariant-loop-first : goal.invariant-loop-first
invariant-loop-first l = (length l.room ≡ length l.initial.room)
    × ((l.k + length (left (sure_of l.known) l.i) ≡ length (runs (sure_of l.known) 32 0))
    × (sets l.room (16 * l.k) (entries_bytes (map (write_of l.address (held_of l.known)) (left (sure_of l.known) l.i)))
    ≡ sets l.initial.room 0 (entries_bytes (map (write_of l.address (held_of l.known)) (runs (sure_of l.known) 32 0)))))

abbrev pub decreases-loop-first : goal.decreases-loop-first
decreases-loop-first l = 32 - l.i
