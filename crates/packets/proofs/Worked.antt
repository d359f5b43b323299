-- Document 02's worked packet, and one of each other form of src/device.rs: "A write of 0x05 to page 1, register 0x15 gives `40 00 20 15 11 00 01 00` with data
-- 05, then `c0 00 20 01 0a 00 01 00`."
-- Assumes nothing.
use Prim.Native.Nat.{ℕ}
use mathlib.Core.Path.{◌≡◌, refl}
use mathlib.Core.Bool.{true, false}
use mathlib.Core.List.{List, [], ◌∷◌}
use lib.Seq.{sets}
use Rattle.wire.specs.Bytes.{le_bytes}
use Rattle.transcript.specs.declared.Entry.{Entry}
use Rattle.transcript.specs.Entries.{zeros8}
use Rattle.packets.specs.Packets.{became, expands, w_index_of, packets, packets_of, setup, w_value_of}

abbrev made : ℕ → ℕ → ℕ → ℕ → ℕ → List ℕ → Entry
made kind outcome target n address bytes =
    record { kind = kind; outcome = outcome; target = target; n = n; address = address; bytes = sets zeros8 0 bytes }

-- document 02's, done and failed
pub page_write : packets_of (made 4 0 1 1 0x15 (0x05 ∷ []))
    ≡ 0x40 ∷ 0x00 ∷ 0x20 ∷ 0x15 ∷ 0x11 ∷ 0x00 ∷ 0x01 ∷ 0x00 ∷ 0x05 ∷ 0xc0 ∷ 0x00 ∷ 0x20 ∷ 0x01 ∷ 0x0a ∷ 0x00 ∷ 0x01 ∷ 0x00 ∷ []
unfolding packets_of packets became setup w_value_of w_index_of le_bytes
page_write = refl

pub failed_write : packets_of (made 4 1 1 1 0x15 (0x05 ∷ [])) ≡ 0x40 ∷ 0x00 ∷ 0x20 ∷ 0x15 ∷ 0x11 ∷ 0x00 ∷ 0x01 ∷ 0x00 ∷ 0x05 ∷ []
unfolding packets_of packets became setup w_value_of w_index_of le_bytes
failed_write = refl

-- kind 5, 16 bits high byte first: 0x0123 to page 1, registers 0x9f and 0xa0
pub page_write_16 : packets_of (made 5 0 1 2 0x9f (0x01 ∷ 0x23 ∷ []))
    ≡ 0x40 ∷ 0x00 ∷ 0x20 ∷ 0x9f ∷ 0x11 ∷ 0x00 ∷ 0x02 ∷ 0x00 ∷ 0x01 ∷ 0x23 ∷ 0xc0 ∷ 0x00 ∷ 0x20 ∷ 0x01 ∷ 0x0a ∷ 0x00 ∷ 0x01 ∷ 0x00 ∷ []
unfolding packets_of packets became setup w_value_of w_index_of le_bytes
page_write_16 = refl

-- the repeater opens and closes; a wait
pub opens : packets_of (made 1 0 0 1 0 (1 ∷ []))
    ≡ 0x40 ∷ 0x00 ∷ 0x20 ∷ 0x01 ∷ 0x11 ∷ 0x00 ∷ 0x01 ∷ 0x00 ∷ 0x18 ∷ 0xc0 ∷ 0x00 ∷ 0x20 ∷ 0x01 ∷ 0x0a ∷ 0x00 ∷ 0x01 ∷ 0x00 ∷ []
unfolding packets_of packets became setup w_value_of w_index_of le_bytes
opens = refl

pub closing_failed : packets_of (made 1 1 0 1 0 []) ≡ 0x40 ∷ 0x00 ∷ 0x20 ∷ 0x01 ∷ 0x11 ∷ 0x00 ∷ 0x01 ∷ 0x00 ∷ 0x10 ∷ []
unfolding packets_of packets became setup w_value_of w_index_of le_bytes
closing_failed = refl

pub wait : packets_of (made 9 0 0 0 10 []) ≡ []
unfolding packets_of
wait = refl

-- I2C and block, written and read
pub i2c_write : packets_of (made 2 0 0x74 2 0 (0x1a ∷ 0x2a ∷ [])) ≡ 0x40 ∷ 0x00 ∷ 0x74 ∷ 0x00 ∷ 0x10 ∷ 0x06 ∷ 0x02 ∷ 0x00 ∷ 0x1a ∷ 0x2a ∷ []
unfolding packets_of packets became setup w_value_of w_index_of le_bytes
i2c_write = refl

pub i2c_read : packets_of (made 3 0 0x74 3 0 (1 ∷ 2 ∷ 3 ∷ [])) ≡ 0xc0 ∷ 0x00 ∷ 0x74 ∷ 0x00 ∷ 0x00 ∷ 0x06 ∷ 0x03 ∷ 0x00 ∷ []
unfolding packets_of packets became setup w_value_of w_index_of le_bytes
i2c_read = refl

pub block_write_8 : packets_of (made 6 0 2 1 0x3000 (0xe8 ∷ [])) ≡ 0x40 ∷ 0x00 ∷ 0x00 ∷ 0x30 ∷ 0x10 ∷ 0x02 ∷ 0x01 ∷ 0x00 ∷ 0xe8 ∷ []
unfolding packets_of packets became setup w_value_of w_index_of le_bytes
block_write_8 = refl

pub block_write_lem : packets_of (made 7 0 1 2 0x2158 (0x02 ∷ 0x00 ∷ [])) ≡ 0x40 ∷ 0x00 ∷ 0x58 ∷ 0x21 ∷ 0x10 ∷ 0x01 ∷ 0x02 ∷ 0x00 ∷ 0x02 ∷ 0x00 ∷ []
unfolding packets_of packets became setup w_value_of w_index_of le_bytes
block_write_lem = refl

pub block_read : packets_of (made 8 0 2 1 0x3001 (0x20 ∷ [])) ≡ 0xc0 ∷ 0x00 ∷ 0x01 ∷ 0x30 ∷ 0x00 ∷ 0x02 ∷ 0x01 ∷ 0x00 ∷ []
unfolding packets_of packets became setup w_value_of w_index_of le_bytes
block_read = refl

-- "new 15 expansion (demod register above 0xff, page above 15, or block 0 or 6 ..)", each at its border
pub page_fifteen : expands (made 4 0 15 1 0xff (0x05 ∷ [])) ≡ true
unfolding expands
page_fifteen = refl

pub page_sixteen : expands (made 4 0 16 1 0xff (0x05 ∷ [])) ≡ false
unfolding expands
page_sixteen = refl

pub register_256 : expands (made 5 0 1 2 0x100 (0x01 ∷ 0x23 ∷ [])) ≡ false
unfolding expands
register_256 = refl

pub block_zero : expands (made 6 0 0 1 0x3000 (0xe8 ∷ [])) ≡ false
unfolding expands
block_zero = refl

pub block_six : expands (made 8 0 6 1 0x3000 []) ≡ false
unfolding expands
block_six = refl
