-- The entry that some bytes begin with, as its packets. Document 02, #107: "Reading the packets back gives the entries again".
-- Assumes nothing.
use Rattle.std.specs.Prelude.{ℕ, ◌+◌, ◌/◌, ◌%◌, List, Bool, cond, not, ◌&&◌, eqb, leb, length, get_or, take, drop, Option, Some, None}
use Rattle.std.proofs.lemmas.List.Edits.{sets}
use Rattle.wire.specs.Bytes.{le_value}
use Rattle.transcript.specs.declared.Entry.{Entry}
use Rattle.transcript.specs.Entries.{bare, zeros8}
use Rattle.transcript.specs.Table.{n_low, n_high}
use Rattle.packets.specs.declared.Heard.{Heard}
use Rattle.packets.specs.Packets.{is_demod, packets, sent_by, setup, sync}

-- eight bytes as one number, low byte first: two setup packets are one if their numbers are
abbrev pub word : List ℕ → ℕ
word b = le_value (take 8 b)

-- the fields of a setup packet's number, but for the request
abbrev pub type_in : ℕ → ℕ
type_in w = w % 256

abbrev pub value_in : ℕ → ℕ
value_in w = w / 0x1_0000 % 0x1_0000

abbrev pub low_in : ℕ → ℕ
low_in w = w / 0x1_0000_0000 % 256

abbrev pub high_in : ℕ → ℕ
high_in w = w / 0x100_0000_0000 % 256

abbrev pub length_in : ℕ → ℕ
length_in w = w / 0x1_0000_0000_0000 % 256

abbrev pub entry_named : ℕ → ℕ → ℕ → ℕ → Entry
entry_named kind target n address =
    record { kind = kind; outcome = 0; target = target; n = n; address = address; bytes = zeros8 }

-- The index's high byte says what is spoken to: 0 a demod page, 6 I2C, any other a block. Only one entry can have such a setup packet.
unfoldable pub named : ℕ → Entry
named w =
    cond (eqb (high_in w) 0) (entry_named (cond (eqb (length_in w) 1) 4 5) (low_in w % 16) (length_in w) (value_in w / 256))
    (cond (eqb (high_in w) 6) (entry_named (cond (eqb (type_in w) 0x40) 2 3) (value_in w % 256) (length_in w) 0)
    (entry_named (cond (eqb (type_in w) 0x40) (cond (eqb (length_in w) 1) 6 7) 8) (high_in w) (length_in w) (value_in w)))

-- document 01's table: how many bytes a kind has
unfoldable pub in_table : ℕ → ℕ → Bool
in_table k n = leb (get_or n_low k 0) n && leb n (get_or n_high k 0)

unfoldable pub sync_in : List ℕ → Bool
sync_in b = leb 8 (length b) && eqb (word b) (le_value sync)

-- bytes that begin with a setup packet of some entry, and with all of its data
unfoldable pub packets_stand : List ℕ → Bool
packets_stand b =
    let e = named (word b) in
    leb 8 (length b)
    && (in_table e.kind e.n && eqb (le_value (setup e)) (word b))
    && leb (8 + sent_by e.kind e.n) (length b)

-- that entry: a demod write without the read after it was one that failed
unfoldable pub entry_in : List ℕ → Entry
entry_in b =
    let e = named (word b) in
    let sent = sent_by e.kind e.n in
    record {
      kind = e.kind;
      outcome = cond (is_demod e.kind && not (sync_in (drop (8 + sent) b))) 1 0;
      target = e.target;
      n = e.n;
      address = e.address;
      bytes = sets zeros8 0 (take sent (drop 8 b));
    }

-- an entry that a setup packet names, with its data bytes, and how long its packets are
unfoldable pub heard_with : Entry → ℕ → List ℕ → Heard
heard_with e sent b =
    record {
      entry =
          record {
            kind = e.kind;
            outcome = 0;
            target = e.target;
            n = e.n;
            address = e.address;
            bytes = sets zeros8 0 (take sent (drop 8 b));
          };
      size = 8 + sent + cond (is_demod e.kind && sync_in (drop (8 + sent) b)) 8 0;
    }

-- "without waits, outcomes and read data (both zero)", and how many bytes its packets have
abbrev pub heard_of : Entry → Heard
heard_of e = record { entry = bare e; size = length (packets e) }

unfoldable pub heard_in : List ℕ → Option Heard
heard_in b = cond (packets_stand b) (Some (heard_of (entry_in b))) None
