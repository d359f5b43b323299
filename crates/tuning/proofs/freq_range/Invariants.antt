-- `tuning::freq_range` meets its contract. The loop's invariant: what is left, from here, gives what all of it gives from the start. Assumes nothing.
use mathlib.Core.Path.{◌≡◌}
use lib.ListN.{drop}
use Rattle.tuning.specs.Mux.{last_at, range_of, ranges}
use Rattle.tuning.proofs.freq_range.Given as goal

abbrev pub invariant-loop-r : goal.invariant-loop-r
invariant-loop-r l = last_at l.hz l.best (drop l.r-index ranges) ≡ range_of l.hz
