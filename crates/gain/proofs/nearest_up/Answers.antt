-- `gain::nearest_up` meets its contract. The loop's invariant: of the first k + 1 steps, which have k middles between them, n is the index worked out.
-- Assumes nothing.
use mathlib.Core.Path.{◌≡◌, ap, ◌∙◌}
use Prim.Native.Nat.{ℕ, ◌+◌}
use native.Mathlib.Omega.{arith}
use lib.Dec.{ltb}
use lib.IntN.{pos}
use mir.Val.{bool_byte}
use Rattle.gain.specs.Steps.{steps, nearest_in, nearest_of}
use Rattle.gain.proofs.Steps.{middle_at, nearest_first, none_counted, counted}
use Rattle.gain.proofs.nearest_up.Goals as goal

pub loop-k-init : goal.loop-k-init
loop-k-init c = (omega arith, none_counted (pos c.args.t))

pub overflow_cast-n : goal.overflow_cast-n
overflow_cast-n c = tt

pub overflow_add-n : goal.overflow_add-n
unfolding steps
overflow_add-n c =
    let loop = c.loop-k in
    let k = loop.k in
    let n = loop.n in
    let args = c.args in
    let t = args.t in
    let next = n + bool_byte (ltb (middle_at k) t) in
    let w = (nearest_first (k + 1) next (pos t) (counted k n t (omega arith) loop.invariant.1)).within in
    record { fits = omega arith }

pub loop-k-preserved : goal.loop-k-preserved
unfolding steps
loop-k-preserved c =
    let loop = c.loop-k in
    let k = loop.k in
    let t = c.args.t in
    (omega arith, counted k loop.n t (omega arith) loop.invariant.1)

pub overflow_cast-result : goal.overflow_cast-result
overflow_cast-result c =
    let loop = c.loop-k in
    let w = (nearest_first loop.k loop.n (pos c.args.t) loop.invariant.1).within in
    record { fits = omega arith }

pub returns : goal.returns
unfolding nearest_of
returns c =
    let loop = c.loop-k in
    let k : loop.k + 1 ≡ 29 = omega arith in
    loop.invariant.1 ∙ ap (λ (m : ℕ). nearest_in m (pos c.args.t)) k
