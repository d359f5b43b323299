-- Bytes that say a plan, with another divider's number than the plan's: the VCO stands where it was asked to, and what it is divided by says which multiple
-- of lo that is. Assumes nothing.
use mathlib.Core.Path.{◌≡◌, refl, sym, ap, subst, ◌∙◌}
use Prim.Native.Nat.{ℕ, zero, suc, ◌+◌, ◌-◌, ◌*◌, ◌^◌, ◌≤◌, ◌<◌}
use native.Mathlib.Omega.{arith}
use native.Mathlib.Nat.{pow-succ'}
use Rattle.pll.specs.declared.Kind.{Kind}
use Rattle.pll.specs.declared.Plan.{Plan}
use Rattle.std.specs.Prelude.{Option, Some, None}
use Rattle.pll.specs.Plan.{plan_of}
use Rattle.pll.proofs.Dividers.{by2, found, only}
use Rattle.pll.proofs.Plans.{Known, known}
use Rattle.oscillator.specs.Bounds.{AtHalf, ByStatus}
use Rattle.oscillator.specs.Registers.{Bytes, Within, divider_in, five, vco_in}
use Rattle.oscillator.proofs.Oscillator.{Says, divider_power, within}

abbrev number_in : Option (ℕ × ℕ) → ℕ
number_in (Some (m, k)) = k
number_in None = 0

module _ (kind : Kind) (lo r : ℕ) (p : Plan) (is : plan_of kind lo r ≡ Some p) where
  w : Known kind lo r p
  w = known kind lo r p is

  -- the divider is 2 exactly from 885 MHz on
  first_of_all : 885_000_000 ≤ lo → p.number ≡ 0
  first_of_all h =
      let range = only lo p.m p.number w.divider in
      ap number_in (sym w.divider ∙ by2 lo h range.1)

  not_the_first : lo < 885_000_000 → 1 ≤ p.number
  not_the_first h = go p.number refl
    where
      go : (k : ℕ) → p.number ≡ k → 1 ≤ k
      go zero e =
          let two : p.m ≡ 2 = divider_power lo p.m p.number w.divider ∙ ap (λ (x : ℕ). 2 ^ suc x) e in
          let low : 1_770_000_000 ≤ lo * 2 = subst (λ (m : ℕ). 1_770_000_000 ≤ lo * m) two (found lo p.m p.number w.divider).low in
          absurd (omega (arith, low))
      go (suc k) e = omega arith

  module _ (number : ℕ) (reg : Bytes) (says : Says p number reg) where
    -- the same bytes with the plan's own number in 0x10
    abbrev unrepaired : Bytes
    unrepaired = five (p.number * 32) (reg 0x12) (reg 0x14) (reg 0x15) (reg 0x16)

    at_first : Within lo r unrepaired
    at_first =
        within kind lo r p is unrepaired
        (record { divided = omega arith; control = says.control; whole = says.whole; low = says.low; high = says.high })

    asked : divider_in unrepaired ≡ 2 ^ suc p.number
    asked = ap (λ (x : ℕ). 2 ^ suc x) (omega arith)

    stands : divider_in reg ≡ 2 ^ suc number
    stands = ap (λ (x : ℕ). 2 ^ suc x) says.divided

    same_vco : vco_in r unrepaired ≡ vco_in r reg
    same_vco = refl

    at_lo : number ≡ p.number → Within lo r reg
    at_lo e =
        let m : lo * divider_in unrepaired ≡ lo * divider_in reg = ap (λ (x : ℕ). lo * x) (asked ∙ ap (λ (x : ℕ). 2 ^ suc x) (sym e) ∙ sym stands) in
        record { below = omega (arith, at_first.below, m, same_vco); above = omega (arith, at_first.above, m, same_vco) }

    at_twice : p.number ≡ suc number → Within (2 * lo) r reg
    at_twice e =
        let up : divider_in unrepaired ≡ 2 * divider_in reg =
        asked ∙ ap (λ (x : ℕ). 2 ^ suc x) e ∙ pow-succ' 2 (suc number) ∙ ap (λ (x : ℕ). 2 * x) (sym stands) in
        let m : lo * divider_in unrepaired ≡ lo * (2 * divider_in reg) = ap (λ (x : ℕ). lo * x) up in
        record { below = omega (arith, at_first.below, m, same_vco); above = omega (arith, at_first.above, m, same_vco) }

    at_half : number ≡ suc p.number → AtHalf lo r reg
    at_half e =
        let down : divider_in reg ≡ 2 * divider_in unrepaired =
        stands ∙ ap (λ (x : ℕ). 2 ^ suc x) e ∙ pow-succ' 2 (suc p.number) ∙ ap (λ (x : ℕ). 2 * x) (sym asked) in
        let m : lo * divider_in reg ≡ lo * (2 * divider_in unrepaired) = ap (λ (x : ℕ). lo * x) down in
        record { below = omega (arith, at_first.below, m, same_vco); above = omega (arith, at_first.above, m, same_vco) }

    pub by_status : (power fine : ℕ) → (fine ≡ power → number ≡ p.number) → (power < fine → number ≡ p.number - 1) → (fine < power → number ≡ p.number + 1)
        → ByStatus power fine lo r reg
    by_status power fine same less more =
        record {
          right = λ e. at_lo (same e);
          twice = λ l h. at_twice (omega (arith, less l, not_the_first h));
          least = λ l h. at_lo (omega (arith, less l, first_of_all h));
          half = λ l. at_half (omega (arith, more l));
        }
