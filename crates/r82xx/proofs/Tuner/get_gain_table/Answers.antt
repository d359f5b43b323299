-- `r82xx::Tuner::get_gain_table` meets its contract. Each return is one law of the definition, with what the calls before it ensure. Assumes nothing.
use mathlib.Core.Path.{sym, ◌∙◌}
use Rattle.r82xx.proofs.Tuned.{table_given, table_refused}
use Rattle.r82xx.proofs.Tuner.get_gain_table.Goals as goal

pub returns-else-sound : goal.returns-else-sound
returns-else-sound c = table_refused _ _ c.sound_answer.ensures (sym c.sound.ensures ∙ c.if-sound.false)

pub returns-then-sound : goal.returns-then-sound
returns-then-sound c = table_given _ _ _ c.sound_answer.ensures c.get_gain_table.ensures (sym c.sound.ensures ∙ c.if-sound.true)
