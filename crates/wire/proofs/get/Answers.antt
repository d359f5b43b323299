-- `wire::get` meets its contract. The loop's invariant: n is the value of the bytes from i on, and below 256 to their number.
-- Assumes nothing.
use Prim.Native.Nat.{◌+◌, ◌*◌}
use mathlib.Core.Path.{refl, ap₂, ◌∙◌}
use native.Mathlib.Omega.{arith}
use borrow.Author.Rules.{rules}
use Rattle.wire.proofs.Widths.{get_turn, get_below, get_fits, get_start, get_end}
use Rattle.wire.proofs.get.Goals as goal

pub loop-i-init : goal.loop-i-init
loop-i-init c = (search rules, get_start c.args.s.now c.args.at c.args.k)

pub overflow_mul-n : goal.overflow_mul-n
overflow_mul-n c =
    let l = c.loop-i in
    record { fits = omega (arith, get_fits l.n l.i c.args.k (search rules) (search rules) (search rules) l.invariant.1.1) }

pub overflow_add-n-in-loop-i : goal.overflow_add-n-in-loop-i
overflow_add-n-in-loop-i c =
    let l = c.loop-i in
    record { fits = omega (arith, get_fits l.n l.i c.args.k (search rules) (search rules) (search rules) l.invariant.1.1) }

pub loop-i-preserved : goal.loop-i-preserved
loop-i-preserved c =
    let l = c.loop-i in
    let a = c.args in (
      omega arith,
      (
        ap₂ (λ x y. x * 256 + y) l.invariant.1.0 refl
            ∙ get_turn a.s.now a.at l.i a.k (search rules) (search rules) (search rules),
        get_below l.n _ l.i a.k (search rules) (search rules) l.invariant.1.1 (search rules),
      ),
    )
