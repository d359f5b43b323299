-- The tuner's record: how it is made, when it is out of its ranges, and what changes in it. Document 01, "The record".
-- Assumes nothing.
use Rattle.std.specs.Prelude.{ℕ, Bool, true, false, ◌&&◌, cond, eqb, leb, Float, replicate}
use Rattle.std.specs.Float.{binary32}
use Rattle.std.specs.Float.Ieee.{of_bits}
use Rattle.refusals.specs.declared.Answer.{Answer}
use Rattle.refusals.specs.declared.Answer.TheVariants.{Done, Refused}
use Rattle.refusals.specs.Table.{SETUP}
use Rattle.chip.specs.declared.Chip.{Chip}
use Rattle.chip.specs.declared.Progress.{Progress}
use Rattle.chip.specs.Steps.{goes}
use Rattle.pll.specs.declared.Kind.{Kind}
use Rattle.pll.specs.declared.Kind.TheVariants.{R820T, R828D}
use Rattle.writes.specs.Lists.{init_array}
use Rattle.r82xx.specs.declared.Made.{Made}
use Rattle.r82xx.specs.declared.Tuner.{Tuner}

-- 0.0
abbrev pub nought : Float
nought = of_bits binary32 0

-- "per register the byte last attempted (fresh: `INIT_ARRAY`) and a doubtful mark (fresh: all)"; the former is the shadow's (#106)
abbrev pub fresh_chip : ℕ → Chip
fresh_chip address =
    record { address = address; shadow = init_array; doubtful = replicate 27 true }

-- "It holds kind, address, 27 shadow bytes for 0x05..0x1f, nominal and corrected reference, lock, gain, IF (fresh 2,300,000), notch"
abbrev pub fresh_tuner : Kind → ℕ → ℕ → Tuner
fresh_tuner kind address nominal =
    record {
      kind = kind;
      chip = fresh_chip address;
      nominal = nominal;
      corrected = nominal;
      lock = false;
      gain = nought;
      ifreq = 2_300_000;
      notch = false;
    }

abbrev pub made : Answer → Tuner → Made
made answer tuner = record { answer = answer; tuner = tuner }

-- "1 setup | kind not R820T or R828D, or nominal reference not 1..4,294,967,295 | nothing made": the record beside a refusal is always this one
abbrev pub nothing_made : Made
nothing_made = made (Refused SETUP) (fresh_tuner R820T 0 1)

-- kind: 0 R820T, 1 R828D
unfoldable pub made_of : ℕ → ℕ → ℕ → Made
made_of kind address nominal =
    cond (leb 1 nominal && leb nominal 4_294_967_295)
    (cond (eqb kind 0) (made (Done 0) (fresh_tuner R820T address nominal))
    (cond (eqb kind 1) (made (Done 0) (fresh_tuner R828D address nominal)) nothing_made))
    nothing_made

-- "A given record out of its ranges": no reference is zero. Above, a u32 bounds them, and the kind is one of two
abbrev pub sound_by : ℕ → ℕ → Bool
sound_by nominal corrected = leb 1 nominal && leb 1 corrected

abbrev pub sound : Tuner → Bool
sound t = sound_by t.nominal t.corrected

-- the record with one part changed
abbrev pub with_chip : Tuner → Chip → Tuner
with_chip t chip =
    record { kind = t.kind; chip = chip; nominal = t.nominal; corrected = t.corrected; lock = t.lock; gain = t.gain; ifreq = t.ifreq; notch = t.notch }

abbrev pub with_corrected : Tuner → ℕ → Tuner
with_corrected t corrected =
    record { kind = t.kind; chip = t.chip; nominal = t.nominal; corrected = corrected; lock = t.lock; gain = t.gain; ifreq = t.ifreq; notch = t.notch }

abbrev pub with_lock : Tuner → Bool → Tuner
with_lock t lock =
    record { kind = t.kind; chip = t.chip; nominal = t.nominal; corrected = t.corrected; lock = lock; gain = t.gain; ifreq = t.ifreq; notch = t.notch }

abbrev pub with_gain : Tuner → Float → Tuner
with_gain t gain =
    record { kind = t.kind; chip = t.chip; nominal = t.nominal; corrected = t.corrected; lock = t.lock; gain = gain; ifreq = t.ifreq; notch = t.notch }

abbrev pub with_if : Tuner → ℕ → Tuner
with_if t ifreq =
    record { kind = t.kind; chip = t.chip; nominal = t.nominal; corrected = t.corrected; lock = t.lock; gain = t.gain; ifreq = ifreq; notch = t.notch }

abbrev pub with_notch : Tuner → Bool → Tuner
with_notch t notch =
    record { kind = t.kind; chip = t.chip; nominal = t.nominal; corrected = t.corrected; lock = t.lock; gain = t.gain; ifreq = t.ifreq; notch = notch }

-- the record after steps: one where a step failed, another where all were done, each with the chip's part as the steps left it
abbrev pub ended_by : Tuner → Tuner → Progress → Chip → Tuner
ended_by cut whole progress chip = with_chip (cond (goes progress) whole cut) chip
