-- `chip::mask_into` meets its contract. Each return is one law of the definition, with what the calls before it ensure. Assumes nothing.
use Rattle.std.proofs.Common.{refl}
use Rattle.chip.specs.Chips.{mask_of}
use Rattle.chip.proofs.mask_into.Goals as goal

pub returns : goal.returns
unfolding mask_of
returns c = refl
