-- `r82xx::sound_answer` meets its contract. Each return is one law of the definition, with what the calls before it ensure. Assumes nothing.
use mathlib.Core.Path.{sym, ◌∙◌}
use Rattle.r82xx.specs.InCode.{sound_answer}
use Rattle.r82xx.proofs.sound_answer.Goals as goal

pub returns-then-sound : goal.returns-then-sound
unfolding sound_answer
returns-then-sound c = rw (sym c.sound.ensures ∙ c.if-sound.true)

pub returns-else-sound : goal.returns-else-sound
unfolding sound_answer
returns-else-sound c = rw (sym c.sound.ensures ∙ c.if-sound.false)
