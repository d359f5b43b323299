-- The two engines agree. Document 02, #111: "prove that both give the same divider, N, S, rest and refusal for every lo and every reference 1 to
-- 4,294,967,295", and "over both, N also comes back from 0x14 for every tuning accepted". Assumes nothing.
use mathlib.Core.Path.{◌≡◌, refl, sym, ap, subst, ◌∙◌}
use mathlib.Core.Bool.{Bool, true, false, cond}
use Prim.Native.Nat.{ℕ, ◌+◌, ◌*◌, ◌/◌, ◌%◌, ◌≤◌, ◌<◌}
use native.Mathlib.Omega.{arith}
use lib.Dec.{leb, eqb}
use Rattle.std.specs.Prelude.{Option, Some, None}
use borrow.Author.Tests.{leb-true, ne_eqb}
use Rattle.pll.specs.declared.Kind.{Kind}
use Rattle.pll.specs.declared.Plan.{Plan}
use Rattle.pll.specs.Divide.{divider_of}
use Rattle.pll.specs.Plan.{cap_of, made_of, plan_of, plan_with, taken, whole_of}
use Rattle.pll.proofs.Dividers.{both, found}
use Rattle.pll.proofs.Plans.{cap_most, comes_back}
use Rattle.worksheet.specs.declared.Sheet.{Sheet}
use Rattle.worksheet.specs.Sheet.{divider_on, filled_of, sheet_of, sheet_with, sum_on, filled_by}
use Rattle.worksheet.proofs.Parts.{m_of, same_byte, same_divider, same_fraction, same_sum}

-- a sheet and a plan of the same lo·m, where N is taken
same_filled : (kind : Kind) (m k vco r : ℕ) → 13 ≤ whole_of vco r → whole_of vco r ≤ cap_of kind → filled_of m vco r ≡ filled_by (Some (made_of vco m k r))
same_filled kind m k vco r l h =
    let n : ℕ = whole_of vco r in
    let small : n < 128 = omega (arith, cap_most kind) in
    let b = same_byte n l small in
    let s = ap (sum_on (r / 1000)) (same_fraction vco r) ∙ same_sum (r / 1000) _ in
    λ i. Some (record { m = m; n = n; setting = b i; sum = (s i).sum; rest = (s i).left })

by_test : (kind : Kind) (m k vco r : ℕ) (b : Bool) → taken kind (whole_of vco r) ≡ b → cond b (filled_of m vco r) None ≡ filled_by (cond b (Some (made_of vco m k r)) None)
by_test kind m k vco r false e = refl
by_test kind m k vco r true e =
    let n : ℕ = whole_of vco r in
    let t : (leb 13 n ≡ true) × (leb n (cap_of kind) ≡ true) = both (leb 13 n) (leb n (cap_of kind)) e in
    same_filled kind m k vco r (leb-true _ _ t.0) (leb-true _ _ t.1)

by_divider : (kind : Kind) (lo r : ℕ) (x : Option (ℕ × ℕ)) → divider_of lo ≡ x → cond (eqb (m_of x) 0) None (sheet_with kind (m_of x) (lo * m_of x) r) ≡ filled_by (plan_with kind lo r x)
unfolding sheet_with plan_with
by_divider kind lo r None e = refl
by_divider kind lo r (Some (m, k)) e =
    let l : 2 ≤ m = (found lo m k e).least in
    let some : m ≡ 0 → ⊥ = λ z. omega arith in
    simp (ne_eqb m 0 some) (by_test kind m k (lo * m) r (taken kind (whole_of (lo * m) r)) refl)

by_reference : (kind : Kind) (lo r : ℕ) (b : Bool)
    → cond b None (cond (eqb (divider_on lo) 0) None (sheet_with kind (divider_on lo) (lo * divider_on lo) r))
    ≡ filled_by (cond b None (plan_with kind lo r (divider_of lo)))
by_reference kind lo r true = refl
by_reference kind lo r false =
    ap (λ (m : ℕ). cond (eqb m 0) None (sheet_with kind m (lo * m) r)) (same_divider lo) ∙ by_divider kind lo r (divider_of lo) refl

-- divider, N, S, rest and refusal, and the byte for 0x14 with them, at every reference, 0 too
pub engines_agree : (kind : Kind) (lo r : ℕ) → sheet_of kind lo r ≡ filled_by (plan_of kind lo r)
unfolding sheet_of plan_of
engines_agree kind lo r = by_reference kind lo r (eqb r 0)

-- and so N comes back from the sheet's byte too
back_by : (kind : Kind) (lo r : ℕ) (s : Sheet) (x : Option Plan) → plan_of kind lo r ≡ x → filled_by x ≡ Some s → 13 + 4 * (s.setting % 64) + s.setting / 64 ≡ s.n
back_by kind lo r s None e is = let z : ◌≡◌ {A = ℕ} 0 1 = cc in absurd (omega arith)
back_by kind lo r s (Some p) e is =
    let b : p.setting ≡ s.setting = cc in
    let n : p.n ≡ s.n = cc in
    subst (λ (x : ℕ). 13 + 4 * (x % 64) + x / 64 ≡ s.n) b (comes_back kind lo r p e ∙ n)

pub sheet_comes_back : (kind : Kind) (lo r : ℕ) (s : Sheet) → sheet_of kind lo r ≡ Some s → 13 + 4 * (s.setting % 64) + s.setting / 64 ≡ s.n
sheet_comes_back kind lo r s is = back_by kind lo r s (plan_of kind lo r) refl (sym (engines_agree kind lo r) ∙ is)
