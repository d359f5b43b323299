-- `r82xx::kept_notch` meets its contract. Each return is one law of the definition, with what the calls before it ensure. Assumes nothing.
use mathlib.Core.Path.{sym, ◌∙◌}
use Rattle.r82xx.specs.InCode.{kept_notch}
use Rattle.r82xx.proofs.kept_notch.Goals as goal

pub returns-then-sound : goal.returns-then-sound
unfolding kept_notch
returns-then-sound c = rw (sym c.sound.ensures ∙ c.if-sound.true)

pub returns-else-sound : goal.returns-else-sound
unfolding kept_notch
returns-else-sound c = rw (sym c.sound.ensures ∙ c.if-sound.false)
