-- The cases of what a leaf lays out; and both leaves answer the same, byte for byte: the engines agree. Assumes nothing.
use Prim.Native.Nat.{ℕ, ◌<◌, ◌≤◌}
use mathlib.Core.List.{List}
use mathlib.Core.Path.{◌≡◌, ap}
use borrow.Author.Tests.{eq-eqb, le-ltb, lt-ltb, ne_eqb}
use Rattle.refusals.specs.Table.{SETUP, CORRECTION}
use Rattle.std.specs.Prelude.{Option}
use Rattle.worksheet.specs.declared.Sheet.{Sheet}
use Rattle.worksheet.proofs.Agree.{engines_agree}
use Rattle.answers.specs.Sheets.{filled_in, kind_named, laid_of, laid_to, nothing, pll_into, worksheet_into}

pub leaves_agree : (kind lo r : ℕ) (out : List ℕ) → worksheet_into kind lo r out ≡ pll_into kind lo r out
leaves_agree kind lo r out = ap (λ (f : Option Sheet). laid_to (laid_of kind r f) out) (engines_agree (kind_named kind) lo r)

module _ (kind r : ℕ) (f : Option Sheet) where
  pub no_kind : 1 < kind → nothing SETUP ≡ laid_of kind r f
  unfolding laid_of
  no_kind h = simp (lt-ltb 1 kind h)

  pub no_reference : kind ≤ 1 → r ≡ 0 → nothing CORRECTION ≡ laid_of kind r f
  unfolding laid_of
  no_reference h z = simp (le-ltb 1 kind h, eq-eqb r 0 z)

  pub laid : kind ≤ 1 → (r ≡ 0 → ⊥) → filled_in f ≡ laid_of kind r f
  unfolding laid_of
  laid h n = simp (le-ltb 1 kind h, ne_eqb r 0 n)
