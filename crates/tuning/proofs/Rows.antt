-- One turn of the search for a row, and its end. Assumes nothing.
use Prim.Native.Nat.{ℕ, ◌+◌, ◌≤◌, ◌<◌}
use mathlib.Core.Path.{◌≡◌}
use native.Mathlib.Numerals.{add-one}
use lib.ListN.{get_or, drop, drop_of_length-le}
use lib.Seq.{drop-cons}
use Rattle.tuning.specs.declared.FreqRange.{FreqRange}
use Rattle.tuning.specs.Mux.{last_at, later_of, ranges}

pub range_turn : (hz : ℕ) (best d : FreqRange) (i : ℕ) → i < 21
    → last_at hz (later_of hz best (get_or ranges i d)) (drop (i + 1) ranges) ≡ last_at hz best (drop i ranges)
unfolding last_at
range_turn hz best d i h = rw (add-one, drop-cons ranges i d h)

pub range_end : (hz : ℕ) (best : FreqRange) (i : ℕ) → 21 ≤ i → best ≡ last_at hz best (drop i ranges)
unfolding last_at
range_end hz best i h = rw (drop_of_length-le ranges h)
