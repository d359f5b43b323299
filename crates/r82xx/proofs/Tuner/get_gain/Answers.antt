-- `r82xx::Tuner::get_gain` meets its contract. Each return is one law of the definition, with what the calls before it ensure. Assumes nothing.
use mathlib.Core.Path.{ap, ◌∙◌}
use Rattle.r82xx.specs.InCode.{sound_answer}
use Rattle.r82xx.proofs.Tuned.{gain_told}
use Rattle.r82xx.proofs.Tuner.get_gain.Goals as goal

pub returns : goal.returns
returns c =
    let args = c.args in
    c.sound_answer.ensures ∙ ap (sound_answer args.self.nominal args.self.corrected) c.bits_of-bits.ensures ∙ gain_told args.self
