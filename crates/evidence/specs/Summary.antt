-- A few entries in place of many: one-register writes that leave the same last attempts at the thirteen places. And entries with those left out that neither
-- write the oscillator's registers nor read a try. Assumes nothing.
use Rattle.std.specs.Prelude.{ℕ, ◌≡◌, Bool, true, not, ◌&&◌, List, [], ◌∷◌, ◌++◌}
use Rattle.transcript.specs.declared.Entry.{Entry}
use Rattle.attempts.specs.Attempts.{last_in}
use Rattle.attempts.specs.Namings.{Last}
use Rattle.attempts.specs.Namings.Last.{Never, Tried}
use Rattle.chip.specs.Chips.{pair}
use Rattle.chip.specs.Entries.{flag_of, written}
use Rattle.evidence.specs.Alike.{demod_places}
use Rattle.evidence.specs.Demodulator.{last_at}
use Rattle.evidence.specs.Evidence.{oscillator, touches, try_of}

-- a write of 8 bits to page 1
abbrev pub demod_one : ℕ → ℕ → Bool → Entry
demod_one register byte ok =
    record { kind = 4; outcome = flag_of ok; target = 1; n = 1; address = register; bytes = byte ∷ 0 ∷ 0 ∷ 0 ∷ 0 ∷ 0 ∷ 0 ∷ 0 ∷ [] }

-- what was last attempted, once more; nothing where nothing was
abbrev pub attempt : (ℕ → ℕ → Bool → Entry) → ℕ → Last → List Entry
attempt write r Never = []
attempt write r (Tried byte ok) = write r byte ok ∷ []

abbrev pub attempts : (ℕ → ℕ → Bool → Entry) → (ℕ → Last) → List ℕ → List Entry
attempts write f [] = []
attempts write f (r ∷ rs) = attempt write r (f r) ++ attempts write f rs

abbrev pub chip_one : ℕ → ℕ → ℕ → Bool → Entry
chip_one address register byte ok = written address 2 (pair register byte) ok

abbrev pub demod_summary : List Entry → List Entry
demod_summary es = attempts demod_one (last_at es) demod_places

-- at most thirteen entries
abbrev pub summary : ℕ → List Entry → List Entry
summary address es = attempts (chip_one address) (last_in address es) oscillator ++ demod_summary es

-- it says nothing of oscillator and lock
abbrev pub idle : ℕ → Entry → Bool
idle address e = not (touches address oscillator e) && not (try_of address e)

-- entries, and those of them that are kept: only idle ones are left out
pub data Dropped (address : ℕ) : List Entry → List Entry → Type 0 where
  none : Dropped address [] []
  kept : (e : Entry) (ws ks : List Entry) → Dropped address ws ks → Dropped address (e ∷ ws) (e ∷ ks)
  left : (e : Entry) (ws ks : List Entry) → Dropped address ws ks → idle address e ≡ true → Dropped address (e ∷ ws) ks
