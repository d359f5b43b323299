-- The interface's accesses beside I2C, as entries. Document 01, "Transcript and script", the table of kinds.
-- Assumes nothing.
use Rattle.std.specs.Prelude.{ℕ, ◌/◌, ◌%◌, ◌^◌, Bool, true, false, ◌||◌, cond, List, [], ◌∷◌, eqb}
use Rattle.transcript.specs.declared.Entry.{Entry}
use Rattle.transcript.specs.Entries.{entry_fits}
use Rattle.chip.specs.Entries.{with_outcome}
use Rattle.chip.specs.Steps.{Step}
use Rattle.chip.specs.Steps.Step.{Open, Close, Send, Mask, Plain}
use Rattle.device.specs.declared.Access.{Access}

-- the data of 8 bits
abbrev pub one : ℕ → List ℕ
one value = value % 2 ^ 8 ∷ 0 ∷ 0 ∷ 0 ∷ 0 ∷ 0 ∷ 0 ∷ 0 ∷ []

-- the data of 16 bits: "high byte first"
abbrev pub two : ℕ → List ℕ
two value = value / 2 ^ 8 ∷ value % 2 ^ 8 ∷ 0 ∷ 0 ∷ 0 ∷ 0 ∷ 0 ∷ 0 ∷ []

-- "4 / 5 demod write, 8 / 16 bit | page | 1 / 2 | register; high byte first"
abbrev pub demod_write : ℕ → ℕ → ℕ → Entry
demod_write page register value =
    record { kind = 4; outcome = 0; target = page; n = 1; address = register; bytes = one value }

abbrev pub demod_write16 : ℕ → ℕ → ℕ → Entry
demod_write16 page register value =
    record { kind = 5; outcome = 0; target = page; n = 2; address = register; bytes = two value }

-- "6 / 7 block write, 8 / 16 bit | block | 1 / 2 | register; high byte first"
abbrev pub block_write : ℕ → ℕ → ℕ → Entry
block_write block register value =
    record { kind = 6; outcome = 0; target = block; n = 1; address = register; bytes = one value }

abbrev pub block_write16 : ℕ → ℕ → ℕ → Entry
block_write16 block register value =
    record { kind = 7; outcome = 0; target = block; n = 2; address = register; bytes = two value }

-- an access by its kind, target, register and value
abbrev pub access : ℕ → ℕ → ℕ → ℕ → Access
access kind target register value = record { kind = kind; target = target; address = register; value = value }

-- the kinds of 16 bits
abbrev pub is_two : ℕ → Bool
is_two kind = eqb kind 5 || eqb kind 7

-- an access by its row of the table; of "8 block read | block | 1 | register; byte, zero if failed" a failed one's byte is `with_outcome`'s matter
abbrev pub access_entry : Access → Entry
access_entry a =
    record {
      kind = a.kind;
      outcome = 0;
      target = a.target;
      n = cond (is_two a.kind) 2 (cond (eqb a.kind 9) 0 1);
      address = a.address;
      bytes = cond (is_two a.kind) (two a.value) (one a.value);
    }

unfoldable pub access_step : Access → Step
access_step a = Plain (access_entry a)

-- a plain step whose entry fits the table when it is done
abbrev pub fitting : Step → Bool
fitting Open = false
fitting Close = false
fitting (Send n bytes) = false
fitting (Mask register value mask) = false
fitting (Plain e) = entry_fits (with_outcome e true)
