-- An entry as a record, as 16 bytes, and whether it fits the table. Document 01: "An entry has 16 bytes: kind, outcome (0 done, 1 failed),
-- target, n, address (u16, low byte first), two zeros, eight data bytes padded with zeros."
-- Assumes nothing.
use Rattle.std.specs.Prelude.{ℕ, ◌≡◌, List, [], ◌∷◌, ◌++◌, Bool, true, cond, ◌&&◌, eqb, ltb, length, get_or, drop, take}
use Rattle.wire.specs.Bytes.{le_bytes, le_value}
use Rattle.transcript.specs.declared.Entry.{Entry}
use Rattle.transcript.specs.Table.{row_fits, is_read}

unfoldable pub entry_bytes : Entry → List ℕ
entry_bytes e = (e.kind ∷ e.outcome ∷ e.target ∷ e.n ∷ []) ++ (le_bytes 2 e.address ++ (0 ∷ 0 ∷ e.bytes))

-- the record that 16 bytes stand for
unfoldable pub entry_of : List ℕ → Entry
entry_of b =
    record {
      kind = get_or b 0 0;
      outcome = get_or b 1 0;
      target = get_or b 2 0;
      n = get_or b 3 0;
      address = le_value (take 2 (drop 4 b));
      bytes = drop 8 b;
    }

unfoldable pub zeros : List ℕ → Bool
zeros [] = true
zeros (b ∷ bs) = eqb b 0 && zeros bs

-- how many data bytes an entry keeps: n, and none of a failed read, whose data are "zeros if failed"
abbrev pub kept_by : ℕ → ℕ → ℕ → ℕ
kept_by k o n = cond (is_read k && ltb 0 o) 0 n

-- "entries fit the table (a wait has outcome 0)": a row's numbers within its columns, and eight data bytes "padded with zeros"
unfoldable pub entry_fits : Entry → Bool
entry_fits e =
    row_fits e.kind e.outcome e.target e.n e.address (get_or e.bytes 0 0)
    && eqb (length e.bytes) 8
    && zeros (drop (kept_by e.kind e.outcome e.n) e.bytes)

-- 16 bytes that are an entry: "two zeros" after the address
unfoldable pub fits : List ℕ → Bool
fits b = eqb (get_or b 6 0) 0 && eqb (get_or b 7 0) 0 && entry_fits (entry_of b)

abbrev pub zeros8 : List ℕ
zeros8 = 0 ∷ 0 ∷ 0 ∷ 0 ∷ 0 ∷ 0 ∷ 0 ∷ 0 ∷ []

-- an entry without its outcome, and without a read's data: the step that was tried
abbrev pub bare : Entry → Entry
bare e =
    record {
      kind = e.kind;
      outcome = 0;
      target = e.target;
      n = e.n;
      address = e.address;
      bytes = cond (is_read e.kind) zeros8 e.bytes;
    }

-- eight data bytes: what makes an entry 16 bytes long
abbrev pub Eight : Entry → Type 0
Eight e = length e.bytes ≡ 8

abbrev pub Eights : List Entry → Type 0
Eights [] = Unit {0}
Eights (e ∷ es) = Eight e × Eights es
