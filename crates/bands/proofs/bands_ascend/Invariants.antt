-- `bands::bands_ascend` meets its contract. The loop's invariant: whether the bands that are left ascend says it for all.
-- Assumes nothing.
use Rattle.std.proofs.Common.{◌≡◌}
use Rattle.std.specs.Slice.Iter.{chunks_exact_rest, chunks_exact_size}
use Rattle.bands.specs.Tables.{ascending, bands_of}
use Rattle.bands.proofs.Laws.{least_past}
use Rattle.bands.proofs.bands_ascend.Given as goal

abbrev pub invariant-loop-bytes : goal.invariant-loop-bytes
invariant-loop-bytes l =
    (goal.iterator-loop-bytes).is_finite l.bytes-iterator
    × (chunks_exact_size l.bytes-iterator ≡ 27)
    × (ascending (least_past l.before) (bands_of (chunks_exact_rest l.bytes-iterator)) ≡ ascending 0 (bands_of l.table))
