-- The rows of the definition: what is taken off, then what is refused before it. Assumes nothing.
use Prim.Native.Nat.{ℕ, ◌+◌, ◌-◌, ◌≤◌, ◌<◌}
use mathlib.Core.Path.{◌≡◌, refl, ◌∙◌}
use mathlib.Core.Bool.{Bool, true, false}
use native.Mathlib.Omega.{arith}
use lib.Dec.{leb}
use borrow.Author.Tests.{eq-eqb, ne_eqb, le-leb, le-ltb, leb-false, leb-true, lt-leb, lt-ltb}
use Rattle.bands.specs.declared.Planned.{Planned}
use Rattle.refusals.specs.declared.Answer.{Answer}
use Rattle.refusals.specs.declared.Answer.TheVariants.{Done, Refused}
use Rattle.refusals.specs.Table.{FREQUENCY, TABLE}
use Rattle.centre.specs.Centre.{centre_at, centre_by, less, on_done}

pub left : (n have off : ℕ) → n + off ≡ have → n < 18446744073709551616 → Done n ≡ less have off
unfolding less
left n have off e h =
    let is : have - off ≡ n = omega arith in
    let fits : have - off < 18446744073709551616 = omega arith in
    rw (le-leb off have (omega arith), lt-ltb (have - off) 18446744073709551616 fits, is)

pub below_0 : (have off : ℕ) → have < off → Refused FREQUENCY ≡ less have off
unfolding less
below_0 have off h = rw (lt-leb off have h)

pub past_64 : (have off : ℕ) → off + 18446744073709551616 ≤ have → Refused FREQUENCY ≡ less have off
unfolding less
past_64 have off h =
    let over : 18446744073709551616 ≤ have - off = omega arith in
    rw (le-leb off have (omega arith), le-ltb (have - off) 18446744073709551616 over)

-- only the difference counts
pub same : (a b c d : ℕ) → a + d ≡ c + b → less a b ≡ less c d
unfolding less
same a b c d e = go (leb b a) refl
  where
    go : (t : Bool) → leb b a ≡ t → less a b ≡ less c d
    go true h =
        let le : b ≤ a = leb-true b a h in
        let is : a - b ≡ c - d = omega (arith, e, le) in
        rw (h, le-leb d c (omega (arith, e, le)), is)
    go false h =
        let lt : a < b = leb-false b a h in
        rw (h, lt-leb d c (omega (arith, e, lt)))

module _ (p : Planned) (ifreq hz : ℕ) where
  pub no_plan : (lo : ℕ) → (p.refusal ≡ 0 → ⊥) → Refused p.refusal ≡ centre_at lo p ifreq hz
  unfolding centre_at
  no_plan lo h = rw (ne_eqb p.refusal 0 h)

  pub planned : (lo : ℕ) (a : Answer) → p.refusal ≡ 0 → a ≡ less (lo + hz) (ifreq + p.plan.hz) → a ≡ centre_at lo p ifreq hz
  unfolding centre_at
  planned lo a h e = e ∙ rw (eq-eqb p.refusal 0 h)

  pub no_table : (told : Answer) → p.refusal ≡ TABLE → Refused TABLE ≡ centre_by told p ifreq hz
  unfolding centre_by
  no_table told h = rw (eq-eqb p.refusal TABLE h)

  pub by_told : (told a : Answer) → (p.refusal ≡ TABLE → ⊥) → a ≡ on_done told (λ lo. centre_at lo p ifreq hz) → a ≡ centre_by told p ifreq hz
  unfolding centre_by
  by_told told a h e = e ∙ rw (ne_eqb p.refusal TABLE h)
