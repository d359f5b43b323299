-- `r82xx::Tuner::get_if_freq` meets its contract. Assumes nothing.
use mathlib.Core.Path.{◌∙◌}
use Rattle.r82xx.proofs.Tuned.{if_told}
use Rattle.r82xx.proofs.Tuner.get_if_freq.Goals as goal

pub returns : goal.returns
returns c = c.sound_answer.ensures ∙ if_told c.args.self
