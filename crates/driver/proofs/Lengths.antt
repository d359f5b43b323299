-- How many steps each program has, which bounds its entries. Document 01: "sample rate 17, 0; board path 10, 3", and an R820T has six of the ten.
-- Assumes nothing.
use Prim.Native.Nat.{ℕ}
use mathlib.Core.Path.{◌≡◌, refl}
use mathlib.Core.Bool.{Bool}
use mathlib.Core.List.{List}
use lib.ListN.{length}
use Rattle.board.specs.declared.Path.{Path}
use Rattle.board.specs.declared.Path.TheVariants.{Hf, Vhf, Uhf}
use Rattle.demod.specs.Programs.{ddc_steps, if_steps, rate_steps, reset_steps}
use Rattle.device.specs.Gpio.{bit_steps, output_steps}
use Rattle.pll.specs.declared.Kind.TheVariants.{R820T, R828D}
use Rattle.driver.specs.Programs.{board_path_steps, sample_rate_steps}

pub sample_rate_length : (hz rate xtal : ℕ) (inverted : Bool) → length (sample_rate_steps hz rate xtal inverted) ≡ 17
unfolding reset_steps rate_steps if_steps ddc_steps
sample_rate_length hz rate xtal inverted = refl

pub path_length_r828d : (path : Path) (rs : List ℕ) → length (board_path_steps R828D path rs) ≡ 10
unfolding output_steps bit_steps
path_length_r828d Hf rs = refl
path_length_r828d Vhf rs = refl
path_length_r828d Uhf rs = refl

pub path_length_r820t : (path : Path) (rs : List ℕ) → length (board_path_steps R820T path rs) ≡ 6
unfolding output_steps bit_steps
path_length_r820t path rs = refl
