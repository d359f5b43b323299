-- `fir::in_range` meets its contract: the first eight by the narrow width, and the rest, which are eight, by the wide one.
-- Assumes nothing.
use mathlib.Core.Path.{◌≡◌, ap, ap₂, ◌∙◌}
use mathlib.Core.Bool.{Bool, ◌&&◌}
use Prim.Native.Nat.{◌≤◌}
use native.Mathlib.Omega.{arith}
use lib.ListN.{length, drop, length-drop}
use lib.Seq.{take_all}
use Rattle.std.specs.List.{list_all}
use Rattle.fir.specs.Packing.{fir_fits, within}
use Rattle.fir.proofs.in_range.Goals as goal

pub returns : goal.returns
unfolding fir_fits
returns c =
    let v = c.args.v in
    let n : length v ≡ 16 = c.well_formed.0.1.0.1 in
    let l : length (drop 8 v) ≤ 8 = omega (arith, length-drop 8 v) in
    ap₂ (λ (a b : Bool). a && b)
    c.all_within.ensures
    (c.all_within-2.ensures ∙ ap (list_all (within 2048)) (take_all 8 (drop 8 v) l))
