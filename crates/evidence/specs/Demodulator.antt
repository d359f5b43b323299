-- What entries say of the demodulator's registers: its naming, as crate attempts has one for the tuner's chip. Document 01, "Transcript and
-- script": "4 / 5 demod write, 8 / 16 bit | page | 1 / 2 | register; high byte first".
--
-- The premises, beside those of crates/attempts/specs/Namings.antt. Register 0x01 of page 1 has the soft reset, and SYS 0x3000 the power: of a
-- write that names one of the two nothing is taken to stay ("reset_demod clears it", src/lib.rs). The repeater's write goes to that register 0x01
-- too, with the reset's bit clear (0x18 or 0x10): it is taken to leave the others. A page above 15 or a register above 0xff is another one on the
-- wire (#107 refuses it, 15), so such a write may have gone anywhere.
-- Assumes nothing.
use Rattle.std.specs.Prelude.{ℕ, ◌+◌, ◌-◌, Bool, cond, not, ◌&&◌, ◌||◌, List, eqb, leb, ltb, get_or}
use Rattle.transcript.specs.declared.Entry.{Entry}
use Rattle.attempts.specs.Attempts.{done}
use Rattle.attempts.specs.Namings.{Last, Naming, last_in}

-- a register by its page; of a block, by its number
pub record Place : Type 0 where
  pub page : ℕ
  pub register : ℕ

abbrev pub place : ℕ → ℕ → Place
place page register = record { page = page; register = register }

-- a write by this kind (8 bits) or the next (16) covers n registers upward: a 16-bit one names two
unfoldable pub covers : ℕ → Entry → Place → Bool
covers kind e q =
    (eqb e.kind kind || eqb e.kind (kind + 1))
    && eqb e.target q.page
    && leb e.address q.register
    && ltb q.register (e.address + e.n)

-- "P1_SOFT_RESET", and "DEMOD_CTL" of block SYS
abbrev pub soft_reset : Place
soft_reset = place 1 0x01

abbrev pub power : Place
power = place 2 0x3000

-- on the wire it is another page or register
abbrev pub astray : Entry → Bool
astray e = (eqb e.kind 4 || eqb e.kind 5) && (ltb 15 e.target || ltb 256 (e.address + e.n))

-- a write after which no register of the demodulator is sure
unfoldable pub shakes : Entry → Bool
shakes e = covers 4 e soft_reset || covers 6 e power || astray e

abbrev pub repeats : Entry → Place → Bool
repeats e q = eqb e.kind 1 && eqb q.page 1 && eqb q.register 0x01

unfoldable pub demod_names : Entry → Place → Bool
demod_names e q = covers 4 e q || shakes e || repeats e q

-- "high byte first"; 0 stands for what it does not send
abbrev pub demod_sent : Entry → Place → ℕ
demod_sent e q = cond (covers 4 e q) (get_or e.bytes (q.register - e.address) 0) 0

unfoldable pub demod_settles : Entry → Bool
demod_settles e = done e && not (shakes e) && not (eqb e.kind 1)

abbrev pub demodulator : Naming Place
demodulator = record { named = demod_names; sent = demod_sent; settles = demod_settles }

-- the last attempt at a register of page 1, where all that is told of stand
abbrev pub last_at : List Entry → ℕ → Last
last_at es register = last_in demodulator es (place 1 register)
