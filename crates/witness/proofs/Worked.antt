-- A night's entries and its 52 bytes: 102.3 MHz at 2,048,000 samples a second and an IF of 3.57 MHz, both references 28.8 MHz, locked at the first try: the
-- centre is 102,300,004 Hz. Then a soft reset: what the demodulator was told is doubtful, the oscillator is not. Assumes nothing.
use Prim.Native.Nat.{ℕ}
use mathlib.Core.Path.{◌≡◌, refl}
use mathlib.Core.Bool.{true}
use mathlib.Core.List.{List, [], ◌∷◌, ◌++◌}
use lib.ListN.{replicate}
use Rattle.wire.specs.Bytes.{le_bytes}
use Rattle.wire.specs.Parts.{joined}
use Rattle.transcript.specs.declared.Entry.{Entry}
use Rattle.attempts.specs.Attempts.{names}
use Rattle.attempts.specs.Namings.{last_from}
use Rattle.chip.specs.Entries.{read_entry, written}
use Rattle.status.specs.Reversal.{reversed}
use Rattle.evidence.specs.Demodulator.{covers, demod_names, demod_settles, shakes}
use Rattle.evidence.specs.Evidence.{centre_of, if_units, lo_units, lock_from, mark_all, rate_in, tries_from}
use Rattle.witness.specs.Answer.{answer_bytes, centre_mark, evidence_bytes}

abbrev demod : ℕ → ℕ → ℕ → List ℕ → Entry
demod kind n register bytes = record { kind = kind; outcome = 0; target = 1; n = n; address = register; bytes = bytes }

abbrev night : List Entry
night =
    demod 4 1 0x15 (0x01 ∷ 0 ∷ 0 ∷ 0 ∷ 0 ∷ 0 ∷ 0 ∷ 0 ∷ [])
    ∷ demod 4 1 0x19 (0x38 ∷ 0 ∷ 0 ∷ 0 ∷ 0 ∷ 0 ∷ 0 ∷ 0 ∷ [])
    ∷ demod 4 1 0x1a (0x11 ∷ 0 ∷ 0 ∷ 0 ∷ 0 ∷ 0 ∷ 0 ∷ 0 ∷ [])
    ∷ demod 4 1 0x1b (0x12 ∷ 0 ∷ 0 ∷ 0 ∷ 0 ∷ 0 ∷ 0 ∷ 0 ∷ [])
    ∷ demod 5 2 0x9f (0x03 ∷ 0x84 ∷ 0 ∷ 0 ∷ 0 ∷ 0 ∷ 0 ∷ 0 ∷ [])
    ∷ demod 5 2 0xa1 (0x00 ∷ 0x00 ∷ 0 ∷ 0 ∷ 0 ∷ 0 ∷ 0 ∷ 0 ∷ [])
    ∷ written 0x74 8 (0x10 ∷ 0x8c ∷ 0x83 ∷ 0x80 ∷ 0x00 ∷ 0x4b ∷ 0x11 ∷ 0xd1 ∷ []) true
    ∷ read_entry 0x74 3 (0x69 ∷ 0x00 ∷ 0x02 ∷ 0 ∷ 0 ∷ 0 ∷ 0 ∷ 0 ∷ [])
    ∷ []

pub told : evidence_bytes 0x74 night 28_800_000 28_800_000
    ≡ 2 ∷ 2 ∷ 2 ∷ 2 ∷ 2 ∷ 2 ∷ 1 ∷ 0 ∷ 1 ∷ 0 ∷ 0 ∷ 0 ∷ 18 ∷ 17 ∷ 56 ∷ 0 ∷ 0 ∷ 0 ∷ 132 ∷ 3 ∷ 0 ∷ 64 ∷ 31 ∷ 0 ∷ 0 ∷ 0 ∷ 0 ∷ 0 ∷ 0 ∷ 160 ∷ 21 ∷ 87 ∷ 185 ∷ 39 ∷ 3 ∷ 0 ∷ 0 ∷ 176 ∷ 203 ∷ 164 ∷ 60 ∷ 27 ∷ 0 ∷ 0 ∷ 100 ∷ 249 ∷ 24 ∷ 6 ∷ 0 ∷ 0 ∷ 0 ∷ 0 ∷ []
unfolding evidence_bytes answer_bytes joined le_bytes centre_mark mark_all names last_from demod_names demod_settles covers shakes lo_units if_units rate_in centre_of lock_from tries_from reversed
told = refl

pub then_reset : evidence_bytes 0x74 (night ++ (demod 4 1 0x01 (0x14 ∷ 0 ∷ 0 ∷ 0 ∷ 0 ∷ 0 ∷ 0 ∷ 0 ∷ []) ∷ [])) 28_800_000 28_800_000
    ≡ (2 ∷ 1 ∷ 1 ∷ 1 ∷ 2 ∷ 1 ∷ 0 ∷ 0 ∷ 1 ∷ []) ++ (replicate 19 0 ++ ((0 ∷ 160 ∷ 21 ∷ 87 ∷ 185 ∷ 39 ∷ 3 ∷ 0 ∷ []) ++ replicate 16 0))
unfolding evidence_bytes answer_bytes joined le_bytes centre_mark mark_all names last_from demod_names demod_settles covers shakes lo_units if_units rate_in centre_of lock_from tries_from reversed
then_reset = refl

-- nothing was sent
pub of_none : evidence_bytes 0x74 [] 1 1 ≡ replicate 52 0
unfolding evidence_bytes answer_bytes joined le_bytes centre_mark mark_all names last_from demod_names demod_settles covers shakes lo_units if_units rate_in centre_of lock_from tries_from reversed
of_none = refl
