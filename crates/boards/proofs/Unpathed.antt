-- An R820T is tuned alike whether its plan has a board path or none. Document 02, #113: "Here the board path is taken only if the kind is R828D."
-- Assumes nothing.
use Prim.Native.Nat.{ℕ}
use mathlib.Core.Path.{◌≡◌, refl}
use mathlib.Core.Bool.{Bool}
use mathlib.Core.List.{List}
use Rattle.std.specs.Prelude.{Option, Some, None}
use Rattle.board.specs.declared.Path.{Path}
use Rattle.board.specs.declared.Plan.{Plan}
use Rattle.pll.specs.declared.Kind.TheVariants.{R820T}
use Rattle.pll.specs.declared.Plan as pll
use Rattle.boards.specs.Hops.{hop_steps}

module _ (address hz : ℕ) (inverted notch : Bool) (rs : List ℕ) (plan : Option pll.Plan) where
  abbrev by : Option Path → Plan
  by route = record { hz = hz; inverted = inverted; path = route; notch = notch }

  pub no_path_taken : (path : Path) → hop_steps R820T address (by (Some path)) plan rs ≡ hop_steps R820T address (by None) plan rs
  no_path_taken path = refl
