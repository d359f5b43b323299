-- A section as setup packets, and packets as a section. Document 02, #107: "Expand a section into 8-byte setup packets of USB 2.0 with their data bytes."
-- Assumes nothing.
use Rattle.std.specs.Prelude.{ℕ, zero, suc, List, [], ◌∷◌, ◌++◌, map, Bool, true, cond, ◌&&◌, eqb, length, drop, Option, Some, None}
use Rattle.transcript.specs.declared.Entry.{Entry}
use Rattle.transcript.specs.Entries.{bare}
use Rattle.transcript.specs.Sections.{is_section, section_bytes, section_entries}
use Rattle.packets.specs.Packets.{became, expands, packets, packets_of}
use Rattle.packets.specs.Heard.{entry_in, packets_stand}
use Rattle.refusals.specs.Lent.{Given, lent_to}
use Rattle.refusals.specs.Table.{SECTION, EXPANSION}

unfoldable pub expanded : List Entry → List ℕ
expanded [] = []
expanded (e ∷ es) = packets_of e ++ expanded es

unfoldable pub all_expand : List Entry → Bool
all_expand [] = true
all_expand (e ∷ es) = expands e && all_expand es

-- how many bytes entries become
unfoldable pub size_of : List Entry → Option ℕ
size_of es = cond (all_expand es) (Some (length (expanded es))) None

-- "Refusals: 12 first, then new 15 expansion .., then 8; all leave the output unchanged." The value is how many bytes were written.
unfoldable pub expand_into : List ℕ → List ℕ → Given
expand_into s out =
    let bytes = expanded (section_entries s) in
    lent_to (cond (is_section s) (cond (all_expand (section_entries s)) 0 EXPANSION) SECTION) (length bytes) bytes out

-- bytes that are packets of at most f entries, one entry's after the other's
unfoldable pub all_heard : ℕ → List ℕ → Bool
all_heard zero b = eqb (length b) 0
all_heard (suc f) b = cond (eqb (length b) 0) true (packets_stand b && all_heard f (drop (length (packets (entry_in b))) b))

-- those entries
unfoldable pub heard_entries : ℕ → List ℕ → List Entry
heard_entries zero b = []
heard_entries (suc f) b = cond (eqb (length b) 0) [] (entry_in b ∷ heard_entries f (drop (length (packets (entry_in b))) b))

-- how many there are: "At most 4,096 entries" of a section (document 01)
unfoldable pub count_of : List ℕ → Option ℕ
count_of b = cond (all_heard 4096 b) (Some (length (heard_entries 4096 b))) None

-- "Reading the packets back gives the entries again, without waits, outcomes and read data": the section of them; 15 for "bytes that no section expands to", then 8
unfoldable pub read_into : List ℕ → List ℕ → Given
read_into b out =
    let bytes = section_bytes (map bare (heard_entries 4096 b)) in
    lent_to (cond (all_heard 4096 b) 0 EXPANSION) (length bytes) bytes out

-- "without waits"; "A repeater entry comes back as the demod write it became."
unfoldable pub transfers : List Entry → List Entry
transfers [] = []
transfers (e ∷ es) = cond (eqb e.kind 9) (transfers es) (became e ∷ transfers es)
