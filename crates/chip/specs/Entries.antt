-- The entries that steps make. Document 01, "Transcript and script", the table of kinds.
-- Assumes nothing.
use Rattle.std.specs.Prelude.{ℕ, Bool, true, false, cond, not, ◌&&◌, ◌||◌, List, [], ◌∷◌, ◌==◌, slice_index}
use Rattle.transcript.specs.declared.Entry.{Entry}
use Rattle.transcript.specs.Entries.{zeros8}
use Rattle.status.specs.Reversal.{locked_by}
use Rattle.chip.specs.declared.LockTries.{LockTries}

-- "outcome (0 done, 1 failed)"
abbrev pub flag_of : Bool → ℕ
flag_of true = 0
flag_of false = 1

-- "1 repeater | 0 | 1 | 0; 1 opens, 0 closes"
abbrev pub repeater : ℕ → Bool → Entry
repeater on ok =
    record {
      kind = 1;
      outcome = flag_of ok;
      target = 0;
      n = 1;
      address = 0;
      bytes = on ∷ 0 ∷ 0 ∷ 0 ∷ 0 ∷ 0 ∷ 0 ∷ 0 ∷ [];
    }

-- "2 I2C write | chip | 1..8 | 0; bytes"
abbrev pub written : ℕ → ℕ → List ℕ → Bool → Entry
written chip n bytes ok =
    record { kind = 2; outcome = flag_of ok; target = chip; n = n; address = 0; bytes = bytes }

-- "the one-byte write of 0x00", before a read
abbrev pub pointer : ℕ → Entry
pointer chip = written chip 1 zeros8 true

-- "3 I2C read | chip | 1..5 | 0; raw bytes, zeros if failed"
abbrev pub read_entry : ℕ → ℕ → List ℕ → Entry
read_entry chip n bytes = record { kind = 3; outcome = 0; target = chip; n = n; address = 0; bytes = bytes }

-- "9 wait | 0 | 0 | milliseconds; zeros"
abbrev pub wait : ℕ → Entry
wait ms = record { kind = 9; outcome = 0; target = 0; n = 0; address = ms; bytes = zeros8 }

-- an entry once it is known how its step went: "zeros if failed" for the two reads
abbrev pub with_outcome : Entry → Bool → Entry
with_outcome e ok =
    record {
      kind = e.kind;
      outcome = flag_of ok;
      target = e.target;
      n = e.n;
      address = e.address;
      bytes = cond ((e.kind == 3 || e.kind == 8) && not ok) zeros8 e.bytes;
    }

-- the lock bit of a status of three bytes
abbrev pub lock_bit : Entry → Bool
lock_bit e = locked_by (slice_index e.bytes 2)

-- a done read of three bytes
abbrev pub is_try : Entry → Bool
is_try e = e.kind == 3 && e.n == 3 && e.outcome == 0

abbrev pub lock_tries : ℕ → Bool → LockTries
lock_tries tries locked = record { tries = tries; locked = locked }

abbrev pub no_tries : LockTries
no_tries = lock_tries 0 false
