-- Some entries, read. Assumes nothing.
use mathlib.Core.Path.{◌≡◌, refl}
use mathlib.Core.List.{List, [], ◌∷◌, ◌++◌}
use mathlib.Core.Bool.{true, false}
use Rattle.attempts.specs.Namings.{last_from}
use Rattle.attempts.specs.Namings.Last.{Never, Tried}
use Rattle.transcript.specs.declared.Entry.{Entry}
use Rattle.attempts.specs.Attempts.{names}
use Rattle.chip.specs.Chips.{pair}
use Rattle.chip.specs.Entries.{read_entry, repeater, written}
use Rattle.status.specs.Reversal.{reversed}
use Rattle.device.specs.Accesses.{block_write, demod_write, demod_write16}
use Rattle.evidence.specs.Demodulator.{covers, demod_names, demod_settles, last_at, shakes}
use Rattle.evidence.specs.Evidence.{lock_from, lock_mark, tries_from, tries_of}

-- a write of 16 bits names two registers, high byte first
pub both_named : last_at (demod_write16 1 0x9f 0x1234 ∷ []) 0xa0 ≡ Tried 0x34 true
unfolding last_from demod_names demod_settles covers shakes
both_named = refl

-- another page's counts for nothing
pub other_page : last_at (demod_write 0 0x19 0x05 ∷ []) 0x19 ≡ Never
unfolding last_from demod_names demod_settles covers shakes
other_page = refl

-- a reset makes it doubtful
pub then_reset : last_at (demod_write 1 0x19 0x3a ∷ demod_write 1 0x01 0x14 ∷ []) 0x19 ≡ Tried 0 false
unfolding last_from demod_names demod_settles covers shakes
then_reset = refl

-- so does a power-off, and a write that on the wire is 0x19's
pub then_off : last_at (demod_write 1 0x15 0x05 ∷ block_write 2 0x3000 0x20 ∷ []) 0x15 ≡ Tried 0 false
unfolding last_from demod_names demod_settles covers shakes
then_off = refl

pub then_astray : last_at (demod_write 1 0x19 0x3a ∷ demod_write 1 0x119 0x00 ∷ []) 0x19 ≡ Tried 0 false
unfolding last_from demod_names demod_settles covers shakes
then_astray = refl

-- the repeater leaves it
pub then_opened : last_at (demod_write 1 0x19 0x3a ∷ repeater 1 true ∷ repeater 0 false ∷ []) 0x19 ≡ Tried 0x3a true
unfolding last_from demod_names demod_settles covers shakes
then_opened = refl

-- ---- a waiting: the plan's divider, a try without the bit, 0x12 once more, a try with it

abbrev waiting : List Entry
waiting =
    written 0x1a 2 (pair 0x10 0x40) true
    ∷ read_entry 0x1a 3 (0 ∷ 0 ∷ 0x00 ∷ 0 ∷ 0 ∷ 0 ∷ 0 ∷ 0 ∷ [])
    ∷ written 0x1a 2 (pair 0x12 0x06) true
    ∷ read_entry 0x1a 3 (0 ∷ 0 ∷ 0x02 ∷ 0 ∷ 0 ∷ 0 ∷ 0 ∷ 0 ∷ [])
    ∷ []

-- two tries: 0x12 does not begin them anew
pub two_tries : tries_of 0x1a waiting ≡ 2
unfolding tries_from names
two_tries = refl

pub with_the_bit : lock_mark 0x1a waiting ≡ 2
unfolding lock_from names reversed
with_the_bit = refl

-- another chip's say nothing
pub of_another : lock_mark 0x74 waiting ≡ 0
unfolding lock_from names
of_another = refl

-- a later write of 0x12 alone leaves no lock, and the tries
pub lock_gone : lock_mark 0x1a (waiting ++ (written 0x1a 2 (pair 0x12 0x08) false ∷ [])) ≡ 0
unfolding lock_from names reversed
lock_gone = refl

pub tries_kept : tries_of 0x1a (waiting ++ (written 0x1a 2 (pair 0x12 0x08) false ∷ [])) ≡ 2
unfolding tries_from names
tries_kept = refl
