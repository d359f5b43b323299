-- Which calls write registers that the oscillator stands by (crates/oscillator/specs/Registers.antt): the two tunings, and the two that write all registers.
-- Assumes nothing.
use Rattle.std.specs.Prelude.{Bool, true, false}
use Rattle.r82xx.specs.Orders.Order.{Initialize, Reload, Bandwidth, IfFreq, Gain, GainIndex, InputPath, Tune, Notch, GainTold, IfTold, TableTold}
use Rattle.sequences.specs.Calls.{Order}
use Rattle.sequences.specs.Calls.Order.{Tuned, SampleRate, Correction, BoardPath, BoardTune}

abbrev pub retunes : Order → Bool
retunes (Tuned Initialize) = true
retunes (Tuned Reload) = true
retunes (Tuned (Bandwidth hz)) = false
retunes (Tuned (IfFreq hz)) = false
retunes (Tuned (Gain db)) = false
retunes (Tuned (GainIndex k)) = false
retunes (Tuned (InputPath path)) = false
retunes (Tuned (Tune hz rs)) = true
retunes (Tuned (Notch on)) = false
retunes (Tuned GainTold) = false
retunes (Tuned IfTold) = false
retunes (Tuned TableTold) = false
retunes (SampleRate rate table d) = false
retunes (Correction ppm d) = false
retunes (BoardPath path rs) = false
retunes (BoardTune hz table rs d) = true
