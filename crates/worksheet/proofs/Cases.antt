-- The sheet, case by case, as its code returns it. Assumes nothing.
use mathlib.Core.Path.{◌≡◌, refl, sym, subst, ◌∙◌}
use mathlib.Core.Bool.{Bool, true, false, cond}
use Prim.Native.Nat.{ℕ, ◌*◌, ◌/◌, ◌%◌, ◌≤◌, ◌<◌}
use lib.Dec.{eqb}
use Rattle.std.specs.Prelude.{Some, None, Option}
use borrow.Author.Tests.{le-leb, lt-leb, eq-eqb, ne_eqb}
use Rattle.pll.specs.declared.Kind.{Kind}
use Rattle.pll.specs.Plan.{cap_of}
use Rattle.pll.proofs.Plans.{cap_most}
use Rattle.worksheet.specs.declared.Sheet.{Sheet}
use Rattle.worksheet.specs.declared.Work.{Work}
use Rattle.worksheet.specs.Sheet.{byte_of, divider_on, filled_of, sheet_of, sheet_with, sum_on}

pub no_reference : (kind : Kind) (lo r : ℕ) → r ≡ 0 → None ≡ sheet_of kind lo r
unfolding sheet_of
no_reference kind lo r z = simp (eq-eqb r 0 z)

both_refuse : (a b : Bool) → ◌≡◌ {A = Option Sheet} None (cond a None (cond b None None))
both_refuse true b = refl
both_refuse false true = refl
both_refuse false false = refl

pub no_range : (kind : Kind) (lo r m : ℕ) → m ≡ divider_on lo → m ≡ 0 → None ≡ sheet_of kind lo r
unfolding sheet_of
no_range kind lo r m e z = simp (eq-eqb (divider_on lo) 0 (sym e ∙ z)) (both_refuse (eqb r 0) true)

refused_with : (kind : Kind) (lo r m : ℕ) → m ≡ divider_on lo → sheet_with kind m (lo * m) r ≡ None → None ≡ sheet_of kind lo r
unfolding sheet_of
refused_with kind lo r m e h =
    let g : sheet_with kind (divider_on lo) (lo * divider_on lo) r ≡ None = subst (λ (n : ℕ). sheet_with kind n (lo * n) r ≡ None) e h in
    simp g (both_refuse (eqb r 0) (eqb (divider_on lo) 0))

pub too_slow : (kind : Kind) (lo r m : ℕ) → m ≡ divider_on lo → lo * m / (2 * r) < 13 → None ≡ sheet_of kind lo r
unfolding sheet_with
too_slow kind lo r m e h =
    let w : sheet_with kind m (lo * m) r ≡ None = simp (lt-leb _ _ h) in
    refused_with kind lo r m e w

pub too_fast : (kind : Kind) (lo r m : ℕ) → m ≡ divider_on lo → 13 ≤ lo * m / (2 * r) → cap_of kind < lo * m / (2 * r) → None ≡ sheet_of kind lo r
unfolding sheet_with
too_fast kind lo r m e l h =
    let w : sheet_with kind m (lo * m) r ≡ None = simp (le-leb _ _ l, lt-leb _ _ h) in
    refused_with kind lo r m e w

filled_with : (kind : Kind) (lo r m : ℕ) → (r ≡ 0 → ⊥) → (m ≡ 0 → ⊥) → m ≡ divider_on lo → 13 ≤ lo * m / (2 * r) → lo * m / (2 * r) ≤ cap_of kind → filled_of m (lo * m) r ≡ sheet_of kind lo r
unfolding sheet_of sheet_with
filled_with kind lo r m nr nm e l h =
    let some : divider_on lo ≡ 0 → ⊥ = λ z. nm (e ∙ z) in
    let l' : 13 ≤ lo * divider_on lo / (2 * r) = subst (λ (n : ℕ). 13 ≤ lo * n / (2 * r)) e l in
    let h' : lo * divider_on lo / (2 * r) ≤ cap_of kind = subst (λ (n : ℕ). lo * n / (2 * r) ≤ cap_of kind) e h in
    (λ i. filled_of (e i) (lo * e i) r) ∙ sym (simp (ne_eqb r 0 nr, ne_eqb (divider_on lo) 0 some, le-leb _ _ l', le-leb _ _ h'))

-- put together from a byte and a sum that are the definitions'
pub filled : (kind : Kind) (lo r m b : ℕ) (w : Work)
    → (r ≡ 0 → ⊥)
    → (m ≡ 0 → ⊥)
    → m ≡ divider_on lo
    → 13 ≤ lo * m / (2 * r)
    → lo * m / (2 * r) ≤ cap_of kind
    → b ≡ byte_of (lo * m / (2 * r))
    → w ≡ sum_on (r / 1000) (lo * m % (2 * r) / 1000)
    → Some (record { m = m; n = lo * m / (2 * r); setting = b; sum = w.sum; rest = w.left }) ≡ sheet_of kind lo r
filled kind lo r m b w nr nm e l h eb ew =
    (λ i. Some (record { m = m; n = lo * m / (2 * r); setting = eb i; sum = (ew i).sum; rest = (ew i).left })) ∙ filled_with kind lo r m nr nm e l h

-- what `worksheet::fill` meets its contract by, beside its answers: its attribute names them
pub ruleset cases = (no_reference, no_range, too_slow, too_fast, cap_most)
