-- `fir::byte` meets its contract: eight bits fit a byte.
-- Assumes nothing.
use mathlib.Core.Path.{◌≡◌, ap, ◌∙◌}
use Prim.Native.Nat.{◌<◌}
use native.Mathlib.Omega.{arith}
use lib.Dec.{lit<}
use mir.Syntax.{w32}
use mir.Val.{to_z, of_z}
use mir.ValLaws.{to_z-of_z}
use Rattle.fir.specs.Packing.{low_of}
use Rattle.fir.proofs.Widths.{low_lt}
use Rattle.fir.proofs.byte.Goals as goal

pub overflow_cast-result : goal.overflow_cast-result
overflow_cast-result c =
    let z = to_z w32 (of_z w32 c.args.z) in
    let l : low_of 128 z < 256 = low_lt 128 z (lit< tt) in
    let e : c.low.result ≡ low_of 128 z = c.low.ensures in
    record { fits = omega arith }

pub returns : goal.returns
returns c = c.low.ensures ∙ ap (low_of 128) (to_z-of_z w32 c.args.z c.ranges.z)
