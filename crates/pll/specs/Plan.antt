-- The numbers of the PLL for a frequency of the oscillator. Document 01, "PLL": "N = lo·m / (2R). Above 127 (R828D) or 63 (R820T): refusal 2.
-- F = (lo·m - 2RN) / 1000", and "K = R / 1000 (whole numbers throughout)".
use Rattle.std.specs.Prelude.{ℕ, ◌-◌, ◌*◌, ◌/◌, Bool, cond, ◌&&◌, ◌==◌, nat_le, Option, Some, None}
use Rattle.pll.specs.declared.Kind.{Kind}
use Rattle.pll.specs.declared.Kind.TheVariants.{R820T, R828D}
use Rattle.pll.specs.declared.Plan.{Plan}
use Rattle.pll.specs.Divide.{divider_of}
use Rattle.pll.specs.Setting.{setting_of}
use Rattle.pll.specs.Fraction.{sum_of}

-- the numbers by which kinds cross to a host: 0 R820T, 1 R828D
abbrev pub kind_number : Kind → ℕ
kind_number R820T = 0
kind_number R828D = 1

abbrev pub cap_of : Kind → ℕ
cap_of R820T = 63
cap_of R828D = 127

-- N and F of lo·m at the reference R
abbrev pub whole_of : ℕ → ℕ → ℕ
whole_of vco r = vco / (2 * r)

abbrev pub fraction_of : ℕ → ℕ → ℕ
fraction_of vco r = (vco - 2 * r * whole_of vco r) / 1000

abbrev pub made_of : ℕ → ℕ → ℕ → ℕ → Plan
made_of vco m number r =
    record {
      m = m;
      number = number;
      n = whole_of vco r;
      setting = setting_of (whole_of vco r);
      fraction = fraction_of vco r;
      sum = (sum_of (r / 1000) (fraction_of vco r)).sum;
      rest = (sum_of (r / 1000) (fraction_of vco r)).rest;
    }

-- an N that is taken: the cap's line above, and document 02, #111: "N below 13 is refused"
abbrev pub taken : Kind → ℕ → Bool
taken kind n = nat_le 13 n && nat_le n (cap_of kind)

unfoldable pub plan_with : Kind → ℕ → ℕ → Option (ℕ × ℕ) → Option Plan
plan_with kind lo r None = None
plan_with kind lo r (Some (m, number)) =
    cond (taken kind (whole_of (lo * m) r)) (Some (made_of (lo * m) m number r)) None

-- no record holds a reference of zero ("nominal and corrected reference" are 1..4,294,967,295): it is refused here so that every input has an answer
unfoldable pub plan_of : Kind → ℕ → ℕ → Option Plan
plan_of kind lo r = cond (r == 0) None (plan_with kind lo r (divider_of lo))
