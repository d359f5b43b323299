-- Some entries, read: the one write of document 01's whole section (bandwidth, 0x74, all done), and a failed write of three bytes
-- behind it. Assumes nothing.
use mathlib.Core.Path.{◌≡◌, refl}
use mathlib.Core.List.{[], ◌∷◌}
use mathlib.Core.Bool.{true, false}
use Rattle.transcript.specs.declared.Entry.{Entry}
use Rattle.attempts.specs.Attempts.{last_in, names}
use Rattle.attempts.specs.Namings.{last_from}
use Rattle.attempts.specs.Namings.Last.{Never, Tried}

-- 02 00 74 02 00 00 00 00 0a d8 00 00 00 00 00 00
abbrev bandwidth : Entry
bandwidth = record { kind = 2; outcome = 0; target = 0x74; n = 2; address = 0; bytes = 0x0a ∷ 0xd8 ∷ 0 ∷ 0 ∷ 0 ∷ 0 ∷ 0 ∷ 0 ∷ [] }

-- 02 01 74 03 00 00 00 00 0a 11 22 00 00 00 00 00
abbrev vain : Entry
vain = record { kind = 2; outcome = 1; target = 0x74; n = 3; address = 0; bytes = 0x0a ∷ 0x11 ∷ 0x22 ∷ 0 ∷ 0 ∷ 0 ∷ 0 ∷ 0 ∷ [] }

pub named_one : last_in 0x74 (bandwidth ∷ []) 0x0a ≡ Tried 0xd8 true
unfolding names last_from
named_one = refl

pub no_other : last_in 0x74 (bandwidth ∷ []) 0x0b ≡ Never
unfolding names last_from
no_other = refl

pub other_chip : last_in 0x34 (bandwidth ∷ []) 0x0a ≡ Never
unfolding names last_from
other_chip = refl

pub then_vain : last_in 0x74 (bandwidth ∷ vain ∷ []) 0x0a ≡ Tried 0x11 false
unfolding names last_from
then_vain = refl

pub both_named : last_in 0x74 (bandwidth ∷ vain ∷ []) 0x0b ≡ Tried 0x22 false
unfolding names last_from
both_named = refl

pub then_done : last_in 0x74 (vain ∷ bandwidth ∷ []) 0x0a ≡ Tried 0xd8 true
unfolding names last_from
then_done = refl
