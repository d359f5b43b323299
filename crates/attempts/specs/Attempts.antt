-- What entries say of the registers of the tuner's chip at an address: the naming by I2C writes. What follows of any naming stands in
-- specs/Namings.antt, with the premises: here a write settles what it names where it is reported done, and a failed one may have left anything there.
-- Assumes nothing.
use Rattle.std.specs.Prelude.{ℕ, ◌+◌, ◌-◌, Bool, ◌&&◌, List, eqb, leb, ltb, get_or}
use Rattle.transcript.specs.declared.Entry.{Entry}
use Rattle.attempts.specs.Namings as any
use Rattle.attempts.specs.Namings.{Naming}
pub use Rattle.attempts.specs.Namings.{Last, doubt_in, byte_in}

-- "outcome (0 done, 1 failed)"
abbrev pub done : Entry → Bool
done e = eqb e.outcome 0

-- "upward from its first byte"
abbrev pub first_of : Entry → ℕ
first_of e = get_or e.bytes 0 0

-- an I2C write to the chip at this address names n-1 registers upward from its first byte, so that one of one byte names none. Numbers
-- past 0xff do not wrap: they are registers that no chip has
unfoldable pub names : ℕ → Entry → ℕ → Bool
names address e r = eqb e.kind 2 && eqb e.target address && leb (first_of e) r && ltb r (first_of e + (e.n - 1))

-- the byte that it sends there
abbrev pub sent_to : Entry → ℕ → ℕ
sent_to e r = get_or e.bytes (r - first_of e + 1) 0

abbrev pub tuner_at : ℕ → Naming ℕ
tuner_at address = record { named = names address; sent = sent_to; settles = done }

-- ---- the words of specs/Namings.antt for it

abbrev pub last_by : ℕ → Entry → ℕ → Last → Last
last_by address = any.last_by (tuner_at address)

abbrev pub last_from : ℕ → Last → List Entry → ℕ → Last
last_from address = any.last_from (tuner_at address)

abbrev pub last_in : ℕ → List Entry → ℕ → Last
last_in address = any.last_in (tuner_at address)

-- a chip: what each register holds. Registers outside 0x05..0x1f are carried too
abbrev pub Regs : Type 0
Regs = ℕ → ℕ

abbrev pub Lands : ℕ → Entry → Regs → Regs → Type 0
Lands address = any.Lands (tuner_at address)

abbrev pub Played : ℕ → List Entry → Regs → Regs → Type 0
Played address = any.Played (tuner_at address)

abbrev pub partly : ℕ → Entry → (ℕ → Bool) → Regs → Regs
partly address = any.partly (tuner_at address)
