-- The refusals of a frequency, case by case. Assumes nothing.
use Prim.Native.Nat.{ℕ, ◌+◌, ◌^◌, ◌≤◌, ◌<◌}
use mathlib.Core.Path.{◌≡◌, refl}
use mathlib.Core.Bool.{Bool, true, false}
use native.Mathlib.Omega.{arith}
use borrow.Author.Tests.{eq-eqb, le-leb, leb-false, lt-leb, ne_eqb}
use lib.Dec.{eqb, leb}
use Rattle.r82xx.specs.Calls.{hz_refusal}

pub hz_fits : (hz ifreq : ℕ) → hz_refusal hz ifreq ≡ 0 → hz + ifreq < 2 ^ 64
hz_fits hz ifreq e = go (leb (2 ^ 64) (hz + ifreq)) refl (eqb hz 0) refl
  where
    go : (b : Bool) → leb (2 ^ 64) (hz + ifreq) ≡ b → (z : Bool) → eqb hz 0 ≡ z → hz + ifreq < 2 ^ 64
    go false p z q = leb-false (2 ^ 64) (hz + ifreq) p
    go true p true q = let two : ◌≡◌ {A = ℕ} 2 0 = rw (p, q) at e in absurd (omega arith)
    go true p false q = let two : ◌≡◌ {A = ℕ} 2 0 = rw (p, q) at e in absurd (omega arith)
