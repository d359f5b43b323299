-- The refusals, one row each: its name and its number. 1 to 12 are the table of document 01, "Refusal numbers"; 13 to 19 are of document 02; 20 is ours.
-- 5, a register's, went with `update_shadow` (#106) and is not used again. A refusal's word is its name in small letters.
-- Definitions and proofs above cite a row by its name, never by its number. docs/check-refusals holds the constants of src/lib.rt, include/pasetone.h and
-- host/rust to these rows.
-- Assumes nothing.
use Rattle.std.specs.Prelude.{ℕ}

-- "kind not R820T or R828D, or nominal reference not 1..4,294,967,295; a given record as above"; a board or a path that is none
abbrev pub SETUP : ℕ
SETUP = 1

-- "hz 0; hz + IF over u64; or in the PLL"; by a table, in no band, or shifted below 0 or past u64
abbrev pub FREQUENCY : ℕ
FREQUENCY = 2

-- "rate 0"
abbrev pub RATE : ℕ
RATE = 3

-- "corrected reference not 1..4,294,967,295"; a given reference of 0
abbrev pub CORRECTION : ℕ
CORRECTION = 4

-- "GPIO above 7"
abbrev pub PIN : ℕ
PIN = 6

-- "a FIR value past its width"; input of another length
abbrev pub COEFFICIENT : ℕ
COEFFICIENT = 7

-- "lent slice too short", of these three
abbrev pub ROOM : ℕ
ROOM = 8

abbrev pub OUTCOMES : ℕ
OUTCOMES = 9

abbrev pub REPLIES : ℕ
REPLIES = 10

-- "a step other than a closing failed"
abbrev pub STEP : ℕ
STEP = 11

-- "reader's rule broken"
abbrev pub SECTION : ℕ
SECTION = 12

-- #103: a rate that the resampler does not hold
abbrev pub RATIO : ℕ
RATIO = 13

-- #105: an operation that is none, or a byte past its argument
abbrev pub COMMAND : ℕ
COMMAND = 14

-- #107: an entry without packets of its own, or packets of no entry
abbrev pub EXPANSION : ℕ
EXPANSION = 15

-- #108: settings of another edition
abbrev pub EDITION : ℕ
EDITION = 16

-- #108: bytes that do not end in settings, or a field that settings do not have
abbrev pub SETTINGS : ℕ
SETTINGS = 17

-- #112: settings that edition 1 cannot say
abbrev pub NOT_EXPRESSIBLE : ℕ
NOT_EXPRESSIBLE = 18

-- #113: a malformed table
abbrev pub TABLE : ℕ
TABLE = 19

-- the oscillator stands by a register that is in doubt
abbrev pub DOUBTFUL : ℕ
DOUBTFUL = 20
