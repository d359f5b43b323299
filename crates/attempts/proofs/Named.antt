-- Which registers an entry names: one law for each way in which it names one or none.
-- Assumes nothing.
use Prim.Native.Nat.{ℕ, ◌+◌, ◌-◌, ◌≤◌, ◌<◌}
use mathlib.Core.Path.{◌≡◌, refl}
use mathlib.Core.Bool.{Bool, true, false, ◌&&◌, and-false}
use native.Mathlib.Omega.{arith}
use borrow.Author.Tests.{leb-true, leb-false, eq-eqb, le-leb, lt-leb, lt-ltb, le-ltb}
use lib.Dec.{eqb, leb}
use Rattle.transcript.specs.declared.Entry.{Entry}
use Rattle.attempts.specs.Attempts.{first_of, names}

module _ (address : ℕ) (e : Entry) (r : ℕ) where
  pub named : e.kind ≡ 2 → e.target ≡ address → first_of e ≤ r → r < first_of e + (e.n - 1) → names address e r ≡ true
  unfolding names
  named k t l h =
      rw (eq-eqb e.kind 2 k, eq-eqb e.target address t, le-leb (first_of e) r l, lt-ltb r (first_of e + (e.n - 1)) h)

  -- "counts for nothing": another kind, another address, a register below or above
  pub other_kind : eqb e.kind 2 ≡ false → names address e r ≡ false
  unfolding names
  other_kind h = rw h

  pub below_first : r < first_of e → names address e r ≡ false
  unfolding names
  below_first h = rw (lt-leb (first_of e) r h, and-false (eqb e.kind 2 && eqb e.target address))

  pub past_last : first_of e + (e.n - 1) ≤ r → names address e r ≡ false
  unfolding names
  past_last h =
      rw (le-ltb r (first_of e + (e.n - 1)) h, and-false (eqb e.kind 2 && eqb e.target address && leb (first_of e) r))

  outside : (b : Bool) → leb (first_of e) r ≡ b → first_of e + (e.n - 1) ≤ first_of e → names address e r ≡ false
  outside true t h = past_last (omega (arith, leb-true (first_of e) r t))
  outside false t h = below_first (leb-false (first_of e) r t)

  -- "the one-byte write of 0x00 attempts none"
  pub one_byte : e.n ≤ 1 → names address e r ≡ false
  one_byte h = outside (leb (first_of e) r) refl (omega arith)
