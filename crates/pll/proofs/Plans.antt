-- The plan, case by case, and what is known of a plan that was made. Assumes nothing.
use Rattle.std.proofs.Common.{◌≡◌, ℕ, zero, suc, ◌+◌, ◌*◌, ◌/◌, ◌%◌, ◌^◌, ◌<◌, ◌≤◌, Option, Some, None, Bool, true, false, cond, eqb, leb, refl, subst, arith, eq-eqb, ne_eqb, le-leb, leb-true}
use borrow.Author.Tests.{lt-leb}
use Rattle.pll.specs.declared.Kind.{Kind}
use Rattle.pll.specs.declared.Kind.TheVariants.{R820T, R828D}
use Rattle.pll.specs.declared.Plan.{Plan}
use Rattle.pll.specs.declared.Sum.{Sum}
use Rattle.pll.specs.Divide.{divider_of}
use Rattle.pll.specs.Setting.{setting_of}
use Rattle.pll.specs.Fraction.{sum_start, sum_of, taken_of}
use Rattle.pll.specs.Plan.{cap_of, whole_of, fraction_of, made_of, taken, plan_with, plan_of}
use Rattle.pll.proofs.Dividers.{both, found}
use Rattle.pll.proofs.Settings.{setting_law, setting_byte}
use Rattle.pll.proofs.Fractions.{sum_fits, sum_keeps}

pub cap_most : (kind : Kind) → cap_of kind < 128
cap_most R820T = omega arith
cap_most R828D = omega arith

pub no_reference : (kind : Kind) (lo r : ℕ) → r ≡ 0 → plan_of kind lo r ≡ None
unfolding plan_of
no_reference kind lo r z = simp (eq-eqb r 0 z)

same : (b : Bool) → ◌≡◌ {A = Option Plan} (cond b None None) None
same true = refl
same false = refl

pub no_divider : (kind : Kind) (lo r : ℕ) → divider_of lo ≡ None → plan_of kind lo r ≡ None
unfolding plan_of plan_with
no_divider kind lo r e = simp e (same (eqb r 0))

pub too_slow : (kind : Kind) (lo r m k : ℕ) → divider_of lo ≡ Some (m, k) → whole_of (lo * m) r < 13 → plan_of kind lo r ≡ None
unfolding plan_of plan_with
too_slow kind lo r m k e h = simp (e, lt-leb _ _ h) (same (eqb r 0))

pub too_fast : (kind : Kind) (lo r m k : ℕ) → divider_of lo ≡ Some (m, k) → 13 ≤ whole_of (lo * m) r → cap_of kind < whole_of (lo * m) r → plan_of kind lo r ≡ None
unfolding plan_of plan_with
too_fast kind lo r m k e l h = simp (e, le-leb _ _ l, lt-leb _ _ h) (same (eqb r 0))

pub planned : (kind : Kind) (lo r m k : ℕ) → (r ≡ 0 → ⊥) → divider_of lo ≡ Some (m, k) → 13 ≤ whole_of (lo * m) r → whole_of (lo * m) r ≤ cap_of kind → plan_of kind lo r ≡ Some (made_of (lo * m) m k r)
unfolding plan_of plan_with
planned kind lo r m k nz e l h = simp (ne_eqb r 0 nz, e, le-leb _ _ l, le-leb _ _ h)

-- a plan put together from a byte and a sum that are the definitions'
pub put_together : (vco m k r b : ℕ) (s : Sum)
    → b ≡ setting_of (whole_of vco r)
    → s ≡ sum_of (r / 1000) (fraction_of vco r)
    → Some (record { m = m; number = k; n = whole_of vco r; setting = b; fraction = fraction_of vco r; sum = s.sum; rest = s.rest })
    ≡ Some (made_of vco m k r)
put_together vco m k r b s e f =
    λ i. Some (record { m = m; number = k; n = whole_of vco r; setting = e i; fraction = fraction_of vco r; sum = (f i).sum; rest = (f i).rest })

-- what is known of a plan, beside that it is the definition's
pub record Known (kind : Kind) (lo r : ℕ) (p : Plan) : Type 0 where
  pub reference : 0 < r
  pub divider : divider_of lo ≡ Some (p.m, p.number)
  pub made : p ≡ made_of (lo * p.m) p.m p.number r
  pub number : p.number ≤ 5
  pub least : 13 ≤ p.n
  pub whole : p.n ≤ cap_of kind
  pub setting : p.setting < 256
  pub back : 13 + 4 * (p.setting % 64) + p.setting / 64 ≡ p.n
  pub sum : p.sum < 2 ^ 16
  pub taken : taken_of 16 (r / 1000) 2 (sum_start p.fraction) + p.rest ≡ p.fraction

known_of : (kind : Kind) (lo r m k : ℕ) → 0 < r → divider_of lo ≡ Some (m, k) → 13 ≤ whole_of (lo * m) r → whole_of (lo * m) r ≤ cap_of kind → Known kind lo r (made_of (lo * m) m k r)
known_of kind lo r m k h e w l =
    let n : ℕ = whole_of (lo * m) r in
    let small : n < 128 = omega (arith, cap_most kind) in
    record {
      reference = h;
      divider = e;
      made = refl;
      number = (found lo m k e).small;
      least = w;
      whole = l;
      setting = setting_byte n small;
      back = setting_law n w small;
      sum = sum_fits _ _;
      taken = sum_keeps _ _;
    }

by_test : (kind : Kind) (lo r m k : ℕ) (p : Plan) (b : Bool)
    → 0 < r
    → divider_of lo ≡ Some (m, k)
    → taken kind (whole_of (lo * m) r) ≡ b
    → cond b (Some (made_of (lo * m) m k r)) None ≡ Some p
    → Known kind lo r p
by_test kind lo r m k p false h d e is = let z : ◌≡◌ {A = ℕ} 0 1 = cc in absurd (omega arith)
by_test kind lo r m k p true h d e is =
    let n : ℕ = whole_of (lo * m) r in
    let t : (leb 13 n ≡ true) × (leb n (cap_of kind) ≡ true) = both (leb 13 n) (leb n (cap_of kind)) e in
    let same : made_of (lo * m) m k r ≡ p = cc in
    subst (Known kind lo r) same (known_of kind lo r m k h d (leb-true _ _ t.0) (leb-true _ _ t.1))

by_divider : (kind : Kind) (lo r : ℕ) (p : Plan) (x : Option (ℕ × ℕ)) → 0 < r → divider_of lo ≡ x → plan_with kind lo r x ≡ Some p → Known kind lo r p
unfolding plan_with
by_divider kind lo r p None h d is = let z : ◌≡◌ {A = ℕ} 0 1 = cc in absurd (omega arith)
by_divider kind lo r p (Some (m, k)) h d is = by_test kind lo r m k p (taken kind (whole_of (lo * m) r)) h d refl is

pub known : (kind : Kind) (lo r : ℕ) (p : Plan) → plan_of kind lo r ≡ Some p → Known kind lo r p
unfolding plan_of
known kind lo zero p is = let z : ◌≡◌ {A = ℕ} 0 1 = cc in absurd (omega arith)
known kind lo (suc r) p is =
    let more : suc r ≡ 0 → ⊥ = λ e. omega arith in
    by_divider kind lo (suc r) p (divider_of lo) (omega arith) refl (simp (ne_eqb (suc r) 0 more) at is)

-- "N also comes back from 0x14 for every tuning accepted" (document 02, #111)
pub comes_back : (kind : Kind) (lo r : ℕ) (p : Plan) → plan_of kind lo r ≡ Some p → 13 + 4 * (p.setting % 64) + p.setting / 64 ≡ p.n
comes_back kind lo r p is = (known kind lo r p is).back
