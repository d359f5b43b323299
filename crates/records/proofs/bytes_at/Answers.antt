-- `records::bytes_at` meets its contract: a copy over all 27 bytes leaves those of the slice.
-- Assumes nothing.
use Prim.Native.Nat.{◌+◌, ◌-◌}
use mathlib.Core.Path.{◌≡◌, ap, ◌∙◌}
use native.Mathlib.Omega.{arith}
use lib.ListN.{length, take, drop, replicate, length-take, length-drop}
use lib.Seq.{sets}
use Rattle.records.proofs.Turns.{sets_whole}
use Rattle.records.proofs.bytes_at.Goals as goal

pub returns : goal.returns
returns c =
    let a = c.args in
    let part = drop a.at a.b.now in
    let wide : a.at + 27 - a.at ≡ 27 = omega arith in
    let left : length part ≡ length a.b.now - a.at = length-drop a.at a.b.now in
    let long : length (take 27 part) ≡ 27 = length-take 27 part ∙ omega arith in
    c.copy.ensures ∙ ap (λ k. sets (replicate 27 0) 0 (take k part)) wide ∙ sets_whole (replicate 27 0) (take 27 part) long
