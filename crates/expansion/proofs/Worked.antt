-- What comes back of four entries, by hand: the wait is gone, the repeater is the demod write that it became, the others are themselves. Document 02, #107.
-- Assumes nothing.
use Prim.Native.Nat.{ℕ}
use mathlib.Core.Path.{◌≡◌, refl}
use mathlib.Core.List.{[], ◌∷◌}
use lib.ListN.{replicate}
use Rattle.transcript.specs.declared.Entry.{Entry}
use Rattle.packets.specs.Packets.{became}
use Rattle.expansion.specs.Expansion.{transfers}

abbrev made : ℕ → ℕ → ℕ → ℕ → ℕ → Entry
made kind target n address byte = record { kind = kind; outcome = 0; target = target; n = n; address = address; bytes = byte ∷ replicate 7 0 }

pub come_back : transfers (made 1 0 1 0 1 ∷ made 9 0 0 10 0 ∷ made 8 2 1 0x3001 0 ∷ made 6 2 1 0x3000 0xe8 ∷ [])
    ≡ made 4 1 1 0x01 0x18 ∷ made 8 2 1 0x3001 0 ∷ made 6 2 1 0x3000 0xe8 ∷ []
unfolding transfers became
come_back = refl
