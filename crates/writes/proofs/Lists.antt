-- Of each list of updates: its registers are the record's; and how long the input path's is. Assumes nothing.
use Prim.Native.Nat.{ℕ}
use mathlib.Core.Path.{◌≡◌, refl}
use mathlib.Core.Bool.{true}
use lib.ListN.{length}
use Rattle.board.specs.declared.Path.{Path}
use Rattle.board.specs.declared.Path.TheVariants.{Hf, Vhf, Uhf}
use Rattle.chip.specs.Steps.{all_in, every}
use Rattle.writes.specs.Lists.{bandwidth_updates, gain_updates, if_updates, init_updates, path_updates}

pub bandwidth_in : (hz : ℕ) → all_in (bandwidth_updates hz) ≡ true
unfolding every
bandwidth_in hz = refl

pub if_in : (hz : ℕ) → all_in (if_updates hz) ≡ true
unfolding every
if_in hz = refl

pub gain_in : (k : ℕ) → all_in (gain_updates k) ≡ true
unfolding every
gain_in k = refl

pub path_in : (path : Path) → all_in (path_updates path) ≡ true
unfolding every
path_in Hf = refl
path_in Vhf = refl
path_in Uhf = refl

pub init_in : all_in init_updates ≡ true
unfolding every
init_in = refl

pub path_two : (path : Path) → length (path_updates path) ≡ 2
path_two Hf = refl
path_two Vhf = refl
path_two Uhf = refl
