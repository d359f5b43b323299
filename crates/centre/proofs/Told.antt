-- What a centre that is told is: the oscillator less the IF less the shift, with nothing cut. Assumes nothing.
use Prim.Native.Nat.{ℕ, ◌+◌, ◌-◌}
use mathlib.Core.Path.{◌≡◌, refl, ap}
use mathlib.Core.Bool.{Bool, true, false, cond, ◌&&◌}
use native.Mathlib.Omega.{arith}
use borrow.Author.Tests.{eqb-false, leb-true}
use lib.Dec.{eqb, leb, ltb}
use Rattle.bands.specs.declared.Planned.{Planned}
use Rattle.refusals.specs.declared.Answer.TheVariants.{Done, Refused}
use Rattle.refusals.specs.Answers.{number_of, value_of}
use Rattle.refusals.specs.Table.{FREQUENCY}
use Rattle.centre.specs.Centre.{centre_at, less}

less_back : (have off c : ℕ) → less have off ≡ Done c → c + off ≡ have
unfolding less
less_back have off c = go (leb off have) (ltb (have - off) 18446744073709551616) refl
  where
    go : (a b : Bool) → leb off have ≡ a → cond (a && b) (Done (have - off)) (Refused FREQUENCY) ≡ Done c → c + off ≡ have
    go true true h e =
        let is : have - off ≡ c = ap value_of e in
        let under = leb-true off have h in
        omega (arith, is, under)
    go true false h e =
        let none : ◌≡◌ {A = ℕ} 2 0 = ap number_of e in
        absurd (omega arith)
    go false b h e =
        let none : ◌≡◌ {A = ℕ} 2 0 = ap number_of e in
        absurd (omega arith)

-- c = lo - IF - (tuned - hz), as a sum of whole numbers
pub centre_is : (lo : ℕ) (p : Planned) (ifreq hz c : ℕ) → centre_at lo p ifreq hz ≡ Done c → c + (ifreq + p.plan.hz) ≡ lo + hz
unfolding centre_at
centre_is lo p ifreq hz c = go (eqb p.refusal 0) refl
  where
    go : (b : Bool) → eqb p.refusal 0 ≡ b → cond b (less (lo + hz) (ifreq + p.plan.hz)) (Refused p.refusal) ≡ Done c
        → c + (ifreq + p.plan.hz) ≡ lo + hz
    go true h e = less_back (lo + hz) (ifreq + p.plan.hz) c e
    go false h e = absurd (eqb-false p.refusal 0 h (ap number_of e))
