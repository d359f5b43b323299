-- `witness::marks_in` meets its contract.
-- Assumes nothing.
use Prim.Native.Nat.{ℕ, zero, suc, ◌+◌, ◌≤◌}
use mathlib.Core.Path.{◌≡◌, refl, ap, ◌∙◌}
use mathlib.Core.List.{List, [], ◌∷◌}
use native.Mathlib.Omega.{arith}
use lib.ListN.{length, take, drop}
use lib.Seq.{drop-cons}
use Rattle.restoring.specs.Standing.{Known}
use Rattle.std.specs.Prelude.{None}
use Rattle.witness.specs.InCode.{at, marks_in}
use Rattle.witness.proofs.marks_in.Goals as goal

-- n slots from the i-th on, one by one
abbrev slots : List Known → ℕ → ℕ → List Known
slots l i zero = []
slots l i (suc n) = at l i ∷ slots l (suc i) n

part : (l : List Known) (i n : ℕ) → i + n ≤ length l → take n (drop i l) ≡ slots l i n
part l i zero h = refl
part l i (suc n) h =
    ap (take (suc n)) (drop-cons l i None (omega arith)) ∙ ap (λ (ks : List Known). at l i ∷ ks) (part l (suc i) n (omega arith))

pub returns : goal.returns
unfolding marks_in
returns c =
    let demod = c.args.seen.now.demod in
    rw (c.mark_of.ensures, c.mark_from.ensures, c.mark_from-2.ensures, c.mark_from-3.ensures, part demod 9 3 (omega arith), part demod 12 4 (omega arith))
