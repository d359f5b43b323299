-- An entry's setup packets. Document 02, #107: "Expand a section into 8-byte setup packets of USB 2.0 with their data bytes."
-- Assumes nothing.
use Rattle.std.specs.Prelude.{ℕ, ◌+◌, ◌*◌, List, [], ◌∷◌, ◌++◌, Bool, true, cond, not, ◌&&◌, ◌||◌, eqb, leb, get_or, take}
use Rattle.wire.specs.Bytes.{le_bytes}
use Rattle.transcript.specs.declared.Entry.{Entry}
use Rattle.transcript.specs.Table.{is_read}

abbrev pub is_i2c : ℕ → Bool
is_i2c k = eqb k 2 || eqb k 3

abbrev pub is_demod : ℕ → Bool
is_demod k = eqb k 4 || eqb k 5

abbrev pub is_block : ℕ → Bool
is_block k = eqb k 6 || eqb k 7 || eqb k 8

-- "Writes have type 0x40, reads 0xc0"
abbrev pub type_of : ℕ → ℕ
type_of k = cond (is_read k) 0xc0 0x40

-- "value and index as in `src/device.rs`": a demod register stands in the value's high byte above 0x20, an I2C address and a block's register are the value
unfoldable pub w_value_of : Entry → ℕ
w_value_of e = cond (is_demod e.kind) (e.address * 256 + 0x20) (cond (is_i2c e.kind) e.target e.address)

-- the page, block 6 for I2C, or the block in the high byte; and 0x10 in a write
unfoldable pub w_index_of : Entry → ℕ
w_index_of e =
    cond (is_demod e.kind) e.target (cond (is_i2c e.kind) 0x600 (e.target * 256)) + cond (is_read e.kind) 0 0x10

-- type, "request 0", value, index and length
unfoldable pub setup : Entry → List ℕ
setup e = type_of e.kind ∷ 0 ∷ (le_bytes 2 (w_value_of e) ++ (le_bytes 2 (w_index_of e) ++ le_bytes 2 e.n))

-- how many data bytes stand after a setup packet: a read has none
abbrev pub sent_by : ℕ → ℕ → ℕ
sent_by k n = cond (is_read k) 0 n

-- "the read of page 0x0a, register 0x01"
abbrev pub sync : List ℕ
sync = 0xc0 ∷ 0x00 ∷ 0x20 ∷ 0x01 ∷ 0x0a ∷ 0x00 ∷ 0x01 ∷ 0x00 ∷ []

-- "Each demod write reported done is followed by the read"
abbrev pub followed : Entry → List ℕ
followed e = cond (is_demod e.kind && eqb e.outcome 0) sync []

-- what one transfer becomes
unfoldable pub packets : Entry → List ℕ
packets e = setup e ++ (take (sent_by e.kind e.n) e.bytes ++ followed e)

-- "A repeater entry becomes a demod write at page 1, register 0x01, of 0x18 or 0x10": 0x18 opens (src/device.rs)
unfoldable pub became : Entry → Entry
became e =
    cond (eqb e.kind 1)
    (record {
      kind = 4;
      outcome = e.outcome;
      target = 1;
      n = 1;
      address = 1;
      bytes = cond (eqb (get_or e.bytes 0 0) 0) 0x10 0x18 ∷ 0 ∷ 0 ∷ 0 ∷ 0 ∷ 0 ∷ 0 ∷ 0 ∷ [];
    })
    e

-- "Waits become nothing."
unfoldable pub packets_of : Entry → List ℕ
packets_of e = cond (eqb e.kind 9) [] (packets (became e))

-- "new 15 expansion (demod register above 0xff, page above 15, or block 0 or 6, whose packets look like demod or I2C ones"
unfoldable pub expands : Entry → Bool
expands e =
    cond (is_demod e.kind) (leb e.address 0xff && leb e.target 15)
    (cond (is_block e.kind) (not (eqb e.target 0) && not (eqb e.target 6)) true)
