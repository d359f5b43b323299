-- A board-level tune that the PLL refuses ends with the mux's bracket, open, eleven writes, close: no DDC byte follows. Document 02, #113: "the PLL's still come late".
-- Assumes nothing.
use Prim.Native.Nat.{ℕ}
use mathlib.Core.Path.{◌≡◌, refl}
use mathlib.Core.Bool.{Bool}
use mathlib.Core.List.{List}
use lib.ListN.{length}
use Rattle.std.specs.Prelude.{Option, Some, None}
use Rattle.board.specs.declared.Path.{Path}
use Rattle.board.specs.declared.Path.TheVariants.{Vhf}
use Rattle.board.specs.declared.Plan.{Plan}
use Rattle.device.specs.Accesses.{access_step}
use Rattle.device.specs.Gpio.{bit_steps, output_steps}
use Rattle.pll.specs.declared.Kind.TheVariants.{R828D}
use Rattle.tuning.specs.Program.{inner_steps}
use Rattle.boards.specs.Hops.{hop_steps}

module _ (address hz : ℕ) (inverted notch : Bool) (rs : List ℕ) where
  abbrev by : Option Path → Plan
  by route = record { hz = hz; inverted = inverted; path = route; notch = notch }

  pub thirteen : length (hop_steps R828D address (by None) None rs) ≡ 13
  unfolding inner_steps
  thirteen = refl

  -- after the board path's ten
  pub twenty_three : length (hop_steps R828D address (by (Some Vhf)) None rs) ≡ 23
  unfolding inner_steps output_steps bit_steps access_step
  twenty_three = refl
