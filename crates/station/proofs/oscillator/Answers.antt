-- `station::oscillator` meets its contract: each return is a row of the definition. Assumes nothing.
use mathlib.Core.Path.{sym, ◌∙◌}
use Rattle.station.proofs.Told.{doubted, not_sound, told}
use Rattle.station.proofs.oscillator.Goals as goal

pub returns-then-not-sound : goal.returns-then-not-sound
returns-then-not-sound c = not_sound _ (sym c.sound.ensures ∙ c.if-not-sound.true)

pub returns-then-in_doubt : goal.returns-then-in_doubt
returns-then-in_doubt c =
    doubted _ (sym c.sound.ensures ∙ c.if-not-sound.false) (sym c.in_doubt.ensures ∙ c.if-in_doubt.true)

pub returns : goal.returns
returns c =
    told _ _ (sym c.sound.ensures ∙ c.if-not-sound.false) (sym c.in_doubt.ensures ∙ c.if-in_doubt.false) c.frequency-hz.ensures
