-- Calls one after the other, each on the record that the last handed back, of which none sets an IF. Document 01, "Demodulator": "`set_sample_rate`: an IF of 0
-- stays 0 for all later rates, until an IF is set."
-- Assumes nothing.
use Rattle.std.specs.Prelude.{◌≡◌, Bool, true, false}
use Rattle.r82xx.specs.declared.Tuner.{Tuner}
use Rattle.r82xx.specs.Orders.Order.{Initialize, Reload, Bandwidth, IfFreq, Gain, GainIndex, InputPath, Tune, Notch, GainTold, IfTold, TableTold}
use Rattle.sequences.specs.Calls.{Call, Order, tuner_after}
use Rattle.sequences.specs.Calls.Order.{Tuned, SampleRate, Correction, BoardPath, BoardTune}

-- "until an IF is set": by the one call that is given one
abbrev pub sets_if : Order → Bool
sets_if (Tuned Initialize) = false
sets_if (Tuned Reload) = false
sets_if (Tuned (Bandwidth hz)) = false
sets_if (Tuned (IfFreq hz)) = true
sets_if (Tuned (Gain db)) = false
sets_if (Tuned (GainIndex k)) = false
sets_if (Tuned (InputPath path)) = false
sets_if (Tuned (Tune hz rs)) = false
sets_if (Tuned (Notch on)) = false
sets_if (Tuned GainTold) = false
sets_if (Tuned IfTold) = false
sets_if (Tuned TableTold) = false
sets_if (SampleRate rate table d) = false
sets_if (Correction ppm d) = false
sets_if (BoardPath path rs) = false
sets_if (BoardTune hz table rs d) = false

-- the one that picks it by a rate
abbrev pub rates : Order → Bool
rates (Tuned Initialize) = false
rates (Tuned Reload) = false
rates (Tuned (Bandwidth hz)) = false
rates (Tuned (IfFreq hz)) = false
rates (Tuned (Gain db)) = false
rates (Tuned (GainIndex k)) = false
rates (Tuned (InputPath path)) = false
rates (Tuned (Tune hz rs)) = false
rates (Tuned (Notch on)) = false
rates (Tuned GainTold) = false
rates (Tuned IfTold) = false
rates (Tuned TableTold) = false
rates (SampleRate rate table d) = true
rates (Correction ppm d) = false
rates (BoardPath path rs) = false
rates (BoardTune hz table rs d) = false

-- from the record t on, with any outcomes and lent memory; calls that take no record change none, and so stand where they like
pub data Since (t : Tuner) : Tuner → Type 0 where
  start : Since t t
  later : (u : Tuner) → Since t u → (k : Call) → sets_if k.order ≡ false → Since t (tuner_after k u)
