-- The sheet's divider, sum, F and byte are those of crate pll. Assumes nothing.
use mathlib.Core.Path.{◌≡◌, refl, sym, ap, subst, ◌∙◌}
use mathlib.Core.Bool.{Bool, true, false}
use mathlib.Core.List.{List, [], ◌∷◌}
use mathlib.Core.Logic.{⊎_elim}
use Prim.Native.Nat.{ℕ, zero, suc, ◌+◌, ◌-◌, ◌*◌, ◌/◌, ◌%◌, ◌^◌, ◌≤◌, ◌<◌}
use native.Mathlib.Omega.{arith}
use native.Mathlib.Nat.{mod_def}
use lib.Dec.{leb, eqb, eqb→eq}
use Rattle.std.specs.Prelude.{Option, Some, None}
use borrow.Author.Tests.{lt-leb, le-leb}
use Rattle.below.proofs.Test.{below}
use Rattle.pll.specs.declared.Sum.{Sum}
use Rattle.pll.specs.Divide.{divider_of}
use Rattle.pll.specs.Fraction.{takes_turn, turn_of, turns_of, sum_start, sum_of}
use Rattle.pll.specs.Plan.{fraction_of}
use Rattle.pll.specs.Setting.{setting_of}
use Rattle.pll.proofs.Dividers.{by2, by4, by8, by16, by32, by64, too_low, too_high, below_or, found}
use Rattle.pll.proofs.Fractions.{sum_fits}
use Rattle.worksheet.specs.declared.Line.{Line}
use Rattle.worksheet.specs.declared.Work.{Work}
use Rattle.worksheet.specs.Sheet.{adds, band_of, bands_of, divider_on, lines, line_of, lines_of, sum_on, byte_of}

-- ---- the divider

-- m, and 0 where there is none
abbrev pub m_of : Option (ℕ × ℕ) → ℕ
m_of (Some (m, number)) = m
m_of None = 0

below_it : (lo a : ℕ) → lo < a → leb a lo ≡ false
below_it lo a h = lt-leb a lo h

from_it : (lo a : ℕ) → a ≤ lo → leb a lo ≡ true
from_it lo a h = le-leb a lo h

to_it : (lo b : ℕ) → lo ≤ b → leb lo b ≡ true
to_it lo b h = le-leb lo b h

past_it : (lo b : ℕ) → b < lo → leb lo b ≡ false
past_it lo b h = lt-leb lo b h

on_none : (lo : ℕ) → 1_800_000_000 ≤ lo → divider_on lo ≡ 0
unfolding band_of bands_of
on_none lo h =
    simp (
      from_it lo 885_000_000 (omega arith),
      past_it lo 1_799_999_999 (omega arith),
      from_it lo 442_500_000 (omega arith),
      past_it lo 884_999_999 (omega arith),
      from_it lo 221_250_000 (omega arith),
      past_it lo 442_499_999 (omega arith),
      from_it lo 110_625_000 (omega arith),
      past_it lo 221_249_999 (omega arith),
      from_it lo 55_312_500 (omega arith),
      past_it lo 110_624_999 (omega arith),
      from_it lo 27_656_250 (omega arith),
      past_it lo 55_312_499 (omega arith),
    )

on2 : (lo : ℕ) → 885_000_000 ≤ lo → lo < 1_800_000_000 → divider_on lo ≡ 2
unfolding band_of bands_of
on2 lo h k =
    simp (
      from_it lo 885_000_000 (omega arith),
      to_it lo 1_799_999_999 (omega arith),
      from_it lo 442_500_000 (omega arith),
      past_it lo 884_999_999 (omega arith),
      from_it lo 221_250_000 (omega arith),
      past_it lo 442_499_999 (omega arith),
      from_it lo 110_625_000 (omega arith),
      past_it lo 221_249_999 (omega arith),
      from_it lo 55_312_500 (omega arith),
      past_it lo 110_624_999 (omega arith),
      from_it lo 27_656_250 (omega arith),
      past_it lo 55_312_499 (omega arith),
    )

on4 : (lo : ℕ) → 442_500_000 ≤ lo → lo < 885_000_000 → divider_on lo ≡ 4
unfolding band_of bands_of
on4 lo h k =
    simp (
      below_it lo 885_000_000 (omega arith),
      from_it lo 442_500_000 (omega arith),
      to_it lo 884_999_999 (omega arith),
      from_it lo 221_250_000 (omega arith),
      past_it lo 442_499_999 (omega arith),
      from_it lo 110_625_000 (omega arith),
      past_it lo 221_249_999 (omega arith),
      from_it lo 55_312_500 (omega arith),
      past_it lo 110_624_999 (omega arith),
      from_it lo 27_656_250 (omega arith),
      past_it lo 55_312_499 (omega arith),
    )

on8 : (lo : ℕ) → 221_250_000 ≤ lo → lo < 442_500_000 → divider_on lo ≡ 8
unfolding band_of bands_of
on8 lo h k =
    simp (
      below_it lo 885_000_000 (omega arith),
      below_it lo 442_500_000 (omega arith),
      from_it lo 221_250_000 (omega arith),
      to_it lo 442_499_999 (omega arith),
      from_it lo 110_625_000 (omega arith),
      past_it lo 221_249_999 (omega arith),
      from_it lo 55_312_500 (omega arith),
      past_it lo 110_624_999 (omega arith),
      from_it lo 27_656_250 (omega arith),
      past_it lo 55_312_499 (omega arith),
    )

on16 : (lo : ℕ) → 110_625_000 ≤ lo → lo < 221_250_000 → divider_on lo ≡ 16
unfolding band_of bands_of
on16 lo h k =
    simp (
      below_it lo 885_000_000 (omega arith),
      below_it lo 442_500_000 (omega arith),
      below_it lo 221_250_000 (omega arith),
      from_it lo 110_625_000 (omega arith),
      to_it lo 221_249_999 (omega arith),
      from_it lo 55_312_500 (omega arith),
      past_it lo 110_624_999 (omega arith),
      from_it lo 27_656_250 (omega arith),
      past_it lo 55_312_499 (omega arith),
    )

on32 : (lo : ℕ) → 55_312_500 ≤ lo → lo < 110_625_000 → divider_on lo ≡ 32
unfolding band_of bands_of
on32 lo h k =
    simp (
      below_it lo 885_000_000 (omega arith),
      below_it lo 442_500_000 (omega arith),
      below_it lo 221_250_000 (omega arith),
      below_it lo 110_625_000 (omega arith),
      from_it lo 55_312_500 (omega arith),
      to_it lo 110_624_999 (omega arith),
      from_it lo 27_656_250 (omega arith),
      past_it lo 55_312_499 (omega arith),
    )

on64 : (lo : ℕ) → 27_656_250 ≤ lo → lo < 55_312_500 → divider_on lo ≡ 64
unfolding band_of bands_of
on64 lo h k =
    simp (
      below_it lo 885_000_000 (omega arith),
      below_it lo 442_500_000 (omega arith),
      below_it lo 221_250_000 (omega arith),
      below_it lo 110_625_000 (omega arith),
      below_it lo 55_312_500 (omega arith),
      from_it lo 27_656_250 (omega arith),
      to_it lo 55_312_499 (omega arith),
    )

on_low : (lo : ℕ) → lo < 27_656_250 → divider_on lo ≡ 0
unfolding band_of bands_of
on_low lo h =
    simp (
      below_it lo 885_000_000 (omega arith),
      below_it lo 442_500_000 (omega arith),
      below_it lo 221_250_000 (omega arith),
      below_it lo 110_625_000 (omega arith),
      below_it lo 55_312_500 (omega arith),
      below_it lo 27_656_250 (omega arith),
    )

pub same_divider : (lo : ℕ) → divider_on lo ≡ m_of (divider_of lo)
same_divider lo =
    or_else 1_800_000_000 (λ h. on_none lo h ∙ sym (ap m_of (too_high lo h)))
    (λ k. or_else 885_000_000 (λ h. on2 lo h k ∙ sym (ap m_of (by2 lo h k)))
    (λ k. or_else 442_500_000 (λ h. on4 lo h k ∙ sym (ap m_of (by4 lo h k)))
    (λ k. or_else 221_250_000 (λ h. on8 lo h k ∙ sym (ap m_of (by8 lo h k)))
    (λ k. or_else 110_625_000 (λ h. on16 lo h k ∙ sym (ap m_of (by16 lo h k)))
    (λ k. or_else 55_312_500 (λ h. on32 lo h k ∙ sym (ap m_of (by32 lo h k)))
    (λ k. or_else 27_656_250 (λ h. on64 lo h k ∙ sym (ap m_of (by64 lo h k))) (λ k. on_low lo k ∙ sym (ap m_of (too_low lo k)))))))))
  where
    or_else : (at : ℕ) → (at ≤ lo → divider_on lo ≡ m_of (divider_of lo)) → (lo < at → divider_on lo ≡ m_of (divider_of lo)) → divider_on lo ≡ m_of (divider_of lo)
    or_else at above under = ⊎_elim under above (below_or lo at)

-- so lo·m stays below the oscillator's upper end
vco_by : (lo : ℕ) (x : Option (ℕ × ℕ)) → divider_of lo ≡ x → lo * m_of x < 3_600_000_000
vco_by lo None e = omega arith
vco_by lo (Some (m, k)) e = (found lo m k e).high

pub vco_most : (lo m : ℕ) → m ≡ divider_on lo → lo * m < 3_600_000_000
vco_most lo m e = subst (λ (n : ℕ). lo * n < 3_600_000_000) (sym (e ∙ same_divider lo)) (vco_by lo (divider_of lo) refl)

-- ---- the sum

abbrev as_work : Sum → Work
as_work s = record { sum = s.sum; left = s.rest; ended = s.stopped }

-- the lines as document 01's turn writes them, from n on
line_from : ℕ → Line
line_from n = adds n (32_768 / (n / 2)) (leb 32_768 n)

lines_from : ℕ → ℕ → List Line
lines_from zero n = []
lines_from (suc t) n = line_from n ∷ lines_from t (n * 2)

table : lines ≡ lines_from 16 2
unfolding line_from lines_from
table = refl

one : (k n : ℕ) (s : Sum) (b : Bool) → takes_turn k n s ≡ b → line_of k (as_work s) (line_from n) ≡ as_work (turn_of k n s)
unfolding line_of line_from turn_of
one k n s true e = simp e
one k n s false e = simp e

turns : (t k n : ℕ) (s : Sum) → lines_of k (as_work s) (lines_from t n) ≡ as_work (turns_of t k n s)
unfolding lines_of lines_from turns_of
turns zero k n s = refl
turns (suc t) k n s =
    ap (λ (w : Work). lines_of k w (lines_from t (n * 2))) (one k n s (takes_turn k n s) refl) ∙ turns t k (n * 2) (turn_of k n s)

pub same_sum : (k f : ℕ) → sum_on k f ≡ as_work (sum_of k f)
same_sum k f = ap (lines_of k (as_work (sum_start f))) table ∙ turns 16 k 2 (sum_start f)

pub sum_short : (k f : ℕ) → (sum_on k f).sum < 2 ^ 16
sum_short k f = subst (λ (w : Work). w.sum < 2 ^ 16) (sym (same_sum k f)) (sum_fits k f)

-- ---- F and the byte

pub same_fraction : (vco r : ℕ) → vco % (2 * r) / 1000 ≡ fraction_of vco r
same_fraction vco r = ap (λ (x : ℕ). x / 1000) (mod_def vco (2 * r))

right : ℕ → Bool
right j = eqb (byte_of (j + 13)) (setting_of (j + 13))

pub same_byte : (n : ℕ) → 13 ≤ n → n < 128 → byte_of n ≡ setting_of n
unfolding right setting_of
same_byte n h k =
    let back : n - 13 + 13 ≡ n = omega arith in
    subst (λ (i : ℕ). byte_of i ≡ setting_of i) back (eqb→eq _ _ (below right 115 tt (n - 13) (omega arith)))
