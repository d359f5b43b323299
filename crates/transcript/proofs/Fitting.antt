-- An entry that is read from 16 bytes.
-- Assumes nothing.
use Prim.Native.Nat.{ℕ}
use mathlib.Core.Path.{◌≡◌, ◌∙◌}
use mathlib.Core.List.{List}
use native.Mathlib.Omega.{arith}
use lib.ListN.{length, get_or, take, drop, length-drop}
use lib.Seq.{take_all}
use Rattle.wire.specs.Bytes.{le_value}
use Rattle.transcript.specs.declared.Entry.{Entry}
use Rattle.transcript.specs.Entries.{entry_of}

-- the fields of 16 bytes, each read at its place, are their entry
pub entry_made : (e f : List ℕ) (a : ℕ) (bs : List ℕ) → e ≡ f → length f ≡ 16 → a ≡ le_value (take 2 (drop 4 e))
    → bs ≡ take 8 (drop 8 e)
    → ◌≡◌ {A = Entry} (record { kind = get_or e 0 0; outcome = get_or e 1 0; target = get_or e 2 0; n = get_or e 3 0; address = a; bytes = bs }) (entry_of f)
unfolding entry_of
entry_made e f a bs same long address given =
    let eight : length (drop 8 f) ≡ 8 = length-drop 8 f ∙ omega arith in
    let whole : take 8 (drop 8 f) ≡ drop 8 f = take_all 8 (drop 8 f) (omega arith) in
    let bytes : bs ≡ drop 8 f = rw (same, whole) at given in
    rw (address, bytes, same)
