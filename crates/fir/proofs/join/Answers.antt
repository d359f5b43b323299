-- `fir::join` meets its contract: each part of the two numbers of twelve bits fits a byte.
-- Assumes nothing.
use mathlib.Core.Path.{◌≡◌, ap, ◌∙◌}
use Prim.Native.Nat.{ℕ, ◌+◌, ◌*◌, ◌/◌, ◌%◌}
use native.Mathlib.Omega.{arith}
use lib.Dec.{lit<}
use mir.Syntax.{w32}
use mir.ValLaws.{to_z-of_z}
use Rattle.fir.specs.Packing.{low_of}
use Rattle.fir.proofs.Widths.{low_lt}
use Rattle.fir.proofs.join.Goals as goal

first : (c : goal.After-low-y) → c.low-x.result ≡ low_of 2048 c.args.a
first c =
    c.low-x.ensures ∙ ap (low_of 2048) (to_z-of_z w32 c.args.a c.ranges.a)

second : (c : goal.After-low-y) → c.low-y.result ≡ low_of 2048 c.args.b
second c =
    c.low-y.ensures ∙ ap (low_of 2048) (to_z-of_z w32 c.args.b c.ranges.b)

pub overflow_cast-result : goal.overflow_cast-result
overflow_cast-result c = omega (arith, first c, low_lt 2048 c.args.a (lit< tt))

pub overflow_cast-result-2 : goal.overflow_cast-result-2
overflow_cast-result-2 c =
    let args = c.args in
    omega
    (arith, first c, low_lt 2048 args.a (lit< tt), second c, low_lt 2048 args.b (lit< tt))

pub returns : goal.returns
returns c = (
  ap (λ (x : ℕ). x / 16) (first c),
  ap (λ (x : ℕ). x % 16 * 16 + c.low-y.result / 256) (first c)
      ∙ ap (λ (y : ℕ). low_of 2048 c.args.a % 16 * 16 + y / 256) (second c),
  ap (λ (y : ℕ). y % 256) (second c),
)
