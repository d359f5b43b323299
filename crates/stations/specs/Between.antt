-- Calls between a rate and a tune, with any outcomes, of which none moves the IF: neither the tuner's nor the demodulator's.
-- Assumes nothing.
use Rattle.std.specs.Prelude.{◌≡◌, Bool, true, false, ◌||◌, List, [], ◌++◌}
use Rattle.transcript.specs.declared.Entry.{Entry}
use Rattle.demod.specs.Calls as demod
use Rattle.demod.specs.Calls.Order.{Baseband, LowIf, ZeroIf, Reset, Direct, Start, Stop, IfXtal, RateXtal}
use Rattle.r82xx.specs.declared.Tuner.{Tuner}
use Rattle.sequences.specs.Asides.{Aside, Other, aside_entries, aside_given}
use Rattle.sequences.specs.Asides.Other.{Pin, Demod}
use Rattle.sequences.specs.Calls.{Call, Order, entries, given, tuner_after}
use Rattle.sequences.specs.Since.{rates, sets_if}

abbrev pub moves_if : Order → Bool
moves_if o = sets_if o || rates o

-- those of src/demod.rs: its IF, a reset (`power_on` has one too), a power-off, and a register by its number
abbrev pub moves_demod : demod.Order → Bool
moves_demod Baseband = true
moves_demod LowIf = false
moves_demod ZeroIf = false
moves_demod Reset = true
moves_demod (Direct page register value) = true
moves_demod Start = false
moves_demod Stop = true
moves_demod (IfXtal hz xtal) = true
moves_demod (RateXtal rate xtal) = false

abbrev pub moves_aside : Other → Bool
moves_aside (Pin o) = false
moves_aside (Demod o) = moves_demod o

-- from the record t on: the record after them, and their entries
pub data Between (t : Tuner) : Tuner → List Entry → Type 0 where
  start : Between t t []
  later : (u : Tuner) (fs : List Entry) → Between t u fs → (k : Call) → moves_if k.order ≡ false → given k.order u ≡ true
      → Between t (tuner_after k u) (fs ++ entries k u)
  beside : (u : Tuner) (fs : List Entry) → Between t u fs → (a : Aside) → moves_aside a.other ≡ false → aside_given a.other ≡ true
      → Between t u (fs ++ aside_entries a)
