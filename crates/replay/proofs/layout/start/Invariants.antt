-- `layout::start` meets its contract. The loop's invariant: `at` is where part i starts, at most 2 MiB a part. Assumes nothing.
use Rattle.std.proofs.Common.{◌≡◌, ◌+◌, ◌-◌, ◌*◌, ◌≤◌}
use Rattle.replay.specs.Agreement.{start_at}
use Rattle.replay.proofs.layout.start.Given as goal

abbrev pub invariant-loop-i : goal.invariant-loop-i
invariant-loop-i l = (l.i ≤ l.k) × ((l.at ≡ start_at l.c l.i) × (l.at ≤ 72 + 2097152 * l.i))

abbrev pub decreases-loop-i : goal.decreases-loop-i
decreases-loop-i l = l.k - l.i
