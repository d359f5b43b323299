-- What entries tell of the station that a receiver stands on: oscillator, the demodulator's IF and rate, the lock, the centre of what is recorded.
-- Each number has its mark.
-- Assumes nothing.
use Rattle.std.specs.Prelude.{ℕ, ◌+◌, ◌-◌, ◌*◌, ◌/◌, ◌%◌, ◌^◌, Bool, true, false, cond, ◌&&◌, ◌||◌, List, [], ◌∷◌, eqb, ltb}
use Rattle.transcript.specs.declared.Entry.{Entry}
use Rattle.attempts.specs.Attempts.{last_in, names}
use Rattle.attempts.specs.Namings.{Last, byte_in}
use Rattle.attempts.specs.Namings.Last.{Never, Tried}
use Rattle.chip.specs.Entries.{is_try, lock_bit}
use Rattle.oscillator.specs.Registers.{sum_in, whole_in}
use Rattle.registers.specs.Rates.{negated_of}
use Rattle.evidence.specs.Demodulator.{last_at}

-- ---- marks

-- "0 never, 1 doubtful, 2 sure"
abbrev pub mark_of : Last → ℕ
mark_of Never = 0
mark_of (Tried byte ok) = cond ok 2 1

-- of several registers: sure where all are, never where all are, else doubtful
abbrev pub same : ℕ → List Last → Bool
same mark [] = true
same mark (l ∷ ls) = eqb (mark_of l) mark && same mark ls

unfoldable pub mark_all : List Last → ℕ
mark_all ls = cond (same 2 ls) 2 (cond (same 0 ls) 0 1)

-- ---- the numbers, of any bytes that registers hold

abbrev pub code_in : (ℕ → ℕ) → ℕ
code_in f = f 0x10 / 32

-- lo = 2R(65,536·N + S) / (65,536·m), in units of 2^-23 Hz: m is 2^(1 + code) and a code at most 7, so that it is whole
unfoldable pub lo_units : ℕ → (ℕ → ℕ) → ℕ
lo_units r f = r * (65_536 * whole_in f + sum_in f) * 2 ^ (7 - code_in f)

-- the IF as it is sent, 22 bits, and how many steps of xtal / 2^22 it stands for
abbrev pub if_word : (ℕ → ℕ) → ℕ
if_word f = 65_536 * (f 0x19 % 64) + (256 * f 0x1a + f 0x1b)

unfoldable pub if_units : ℕ → (ℕ → ℕ) → ℕ
if_units xtal f = 2 * (negated_of (if_word f) * xtal)

-- the ratio as it is sent, and the rate that it stands for: 0 where there is no ratio
abbrev pub ratio_in : (ℕ → ℕ) → ℕ
ratio_in f = 16_777_216 * f 0x9f + (65_536 * f 0xa0 + (256 * f 0xa1 + f 0xa2))

unfoldable pub rate_in : ℕ → (ℕ → ℕ) → ℕ
rate_in xtal f = cond (eqb (ratio_in f) 0) 0 (xtal * 2 ^ 22 / ratio_in f)

-- the centre is lo less the IF; in whole Hz it is cut, and 0 where the IF is above lo
unfoldable pub centre_of : ℕ → ℕ → ℕ
centre_of lo offset = (lo - offset) / 2 ^ 23

-- ---- what entries tell

abbrev pub oscillator : List ℕ
oscillator = 0x10 ∷ 0x12 ∷ 0x14 ∷ 0x15 ∷ 0x16 ∷ []

abbrev pub if_places : List ℕ
if_places = 0x19 ∷ 0x1a ∷ 0x1b ∷ []

abbrev pub rate_places : List ℕ
rate_places = 0x9f ∷ 0xa0 ∷ 0xa1 ∷ 0xa2 ∷ []

abbrev pub lasts : (ℕ → Last) → List ℕ → List Last
lasts f [] = []
lasts f (r ∷ rs) = f r ∷ lasts f rs

-- the bytes last sent to the tuner's chip and to page 1 of the demodulator
abbrev pub chip_byte : ℕ → List Entry → ℕ → ℕ
chip_byte address es r = byte_in 0 (last_in address es r)

abbrev pub demod_byte : List Entry → ℕ → ℕ
demod_byte es r = byte_in 0 (last_at es r)

abbrev pub lo_mark : ℕ → List Entry → ℕ
lo_mark address es = mark_all (lasts (last_in address es) oscillator)

abbrev pub if_mark : List Entry → ℕ
if_mark es = mark_all (lasts (last_at es) if_places)

abbrev pub rate_mark : List Entry → ℕ
rate_mark es = mark_all (lasts (last_at es) rate_places)

abbrev pub ddc_mark : List Entry → ℕ
ddc_mark es = mark_of (last_at es 0x15)

-- "sure where both are"
abbrev pub both_mark : ℕ → ℕ → ℕ
both_mark a b = cond (eqb a 2 && eqb b 2) 2 (cond (eqb a 0 && eqb b 0) 0 1)

-- "oscillator less IF; mark 1 where the IF is larger": r is the tuner's reference, xtal the driver's
abbrev pub centre_mark : ℕ → ℕ → ℕ → List Entry → ℕ
centre_mark address r xtal es =
    let both = both_mark (lo_mark address es) (if_mark es) in
    cond (eqb both 2 && ltb (lo_units r (chip_byte address es)) (if_units xtal (demod_byte es))) 1 both

abbrev pub centre_in : ℕ → ℕ → ℕ → List Entry → ℕ
centre_in address r xtal es = centre_of (lo_units r (chip_byte address es)) (if_units xtal (demod_byte es))

-- ---- the lock

-- an entry that names one of some registers of the chip
abbrev pub touches : ℕ → List ℕ → Entry → Bool
touches address [] e = false
touches address (r ∷ rs) e = names address e r || touches address rs e

-- a done read of three bytes from the chip at this address
abbrev pub try_of : ℕ → Entry → Bool
try_of address e = is_try e && eqb e.target address

-- the last of them says it: 0 none, 1 without the bit, 2 with it
unfoldable pub lock_from : ℕ → ℕ → List Entry → ℕ
lock_from address mark [] = mark
lock_from address mark (e ∷ es) =
    lock_from address (cond (touches address oscillator e) 0 (cond (try_of address e) (cond (lock_bit e) 2 1) mark)) es

abbrev pub lock_mark : ℕ → List Entry → ℕ
lock_mark address es = lock_from address 0 es

-- the tries of that waiting: it rewrites 0x12 after its first, so they are counted from the last write of another register of the list
abbrev pub planned : List ℕ
planned = 0x10 ∷ 0x14 ∷ 0x15 ∷ 0x16 ∷ []

unfoldable pub tries_from : ℕ → ℕ → List Entry → ℕ
tries_from address count [] = count
tries_from address count (e ∷ es) = tries_from address (cond (touches address planned e) 0 (cond (try_of address e) (count + 1) count)) es

abbrev pub tries_of : ℕ → List Entry → ℕ
tries_of address es = tries_from address 0 es
