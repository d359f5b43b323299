-- `bands::plan_in` meets its contract. The loop's invariant: the plan by the bands that are left is the plan by all.
-- Assumes nothing.
use Rattle.std.proofs.Common.{◌≡◌}
use Rattle.std.specs.Slice.Iter.{chunks_exact_rest, chunks_exact_size}
use Rattle.bands.specs.Tables.{bands_of, plan_in}
use Rattle.bands.proofs.plan_in.Given as goal

abbrev pub invariant-loop-bytes : goal.invariant-loop-bytes
invariant-loop-bytes l =
    (goal.iterator-loop-bytes).is_finite l.bytes-iterator
    × (chunks_exact_size l.bytes-iterator ≡ 27)
    × (plan_in (bands_of (chunks_exact_rest l.bytes-iterator)) l.hz ≡ plan_in (bands_of l.table) l.hz)
