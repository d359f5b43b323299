-- Sections. Document 01: "A section is its entries and an 8-byte trailer: count (u32, low byte first), then the distance from the trailer's
-- start to the first entry, 16 times the count. At most 4,096 entries."
-- Assumes nothing.
use Rattle.std.specs.Prelude.{ℕ, zero, suc, ◌+◌, ◌-◌, ◌*◌, ◌≤◌, ◌≡◌, List, [], ◌∷◌, ◌++◌, Bool, true, cond, ◌&&◌, leb, eqb, length, take, drop, Option, Some, None}
use Rattle.wire.specs.Bytes.{le_bytes, le_value}
use Rattle.refusals.specs.Table.{SECTION}
use Rattle.transcript.specs.declared.Entry.{Entry}
use Rattle.transcript.specs.declared.Section.{Section}
use Rattle.transcript.specs.Entries.{entry_bytes, entry_of, entry_fits, fits}

-- the entries' bytes, one entry after the other
unfoldable pub entries_bytes : List Entry → List ℕ
entries_bytes [] = []
entries_bytes (e ∷ es) = entry_bytes e ++ entries_bytes es

unfoldable pub trailer_bytes : ℕ → List ℕ
trailer_bytes count = le_bytes 4 count ++ le_bytes 4 (16 * count)

unfoldable pub section_bytes : List Entry → List ℕ
section_bytes es = entries_bytes es ++ trailer_bytes (length es)

-- the first k entries of some bytes
unfoldable pub entries_in : ℕ → List ℕ → List Entry
entries_in zero l = []
entries_in (suc k) l = entry_of (take 16 l) ∷ entries_in k (drop 16 l)

unfoldable pub all_fit : ℕ → List ℕ → Bool
all_fit zero l = true
all_fit (suc k) l = fits (take 16 l) && all_fit k (drop 16 l)

-- "The reader starts from the end of a slice": the trailer's two numbers, and where the first entry stands
abbrev pub count_of : List ℕ → ℕ
count_of s = le_value (take 4 (drop (length s - 8) s))

abbrev pub distance_of : List ℕ → ℕ
distance_of s = le_value (take 4 (drop (length s - 8 + 4) s))

abbrev pub start_of : List ℕ → ℕ
start_of s = length s - 8 - 16 * count_of s

-- "accepts exactly sections whose entries fit the table"; "At most 4,096 entries"
unfoldable pub is_section : List ℕ → Bool
is_section s =
    leb 8 (length s)
    && leb (count_of s) 4096
    && eqb (distance_of s) (16 * count_of s)
    && leb (16 * count_of s) (length s - 8)
    && all_fit (count_of s) (drop (start_of s) s)

abbrev pub section_at : ℕ → ℕ → Section
section_at start count = record { start = start; count = count }

unfoldable pub section_of : List ℕ → Option Section
section_of s = cond (is_section s) (Some (section_at (start_of s) (count_of s))) None

-- "also hands back what stands before them (refused: empty parts)"
unfoldable pub entries_of : List ℕ → List ℕ
entries_of s = cond (is_section s) (take (16 * count_of s) (drop (start_of s) s)) []

unfoldable pub before_of : List ℕ → List ℕ
before_of s = cond (is_section s) (take (start_of s) s) []

-- the entries of a section: those of the part that is handed back
abbrev pub section_entries : List ℕ → List Entry
section_entries s = entries_in (count_of s) (entries_of s)

-- "12 section: reader's rule broken"; 0 for what is read
abbrev pub refusal_of : Option Section → ℕ
refusal_of (Some found) = 0
refusal_of None = SECTION

abbrev pub AllFit : List Entry → Type 0
AllFit [] = Unit {0}
AllFit (e ∷ es) = (entry_fits e ≡ true) × AllFit es

-- s is p and the section of es, and the reader hands both back
pub record Parted (s p : List ℕ) (es : List Entry) : Type 0 where
  pub accepted : section_of s ≡ Some (section_at (length p) (length es))
  pub before : before_of s ≡ p
  pub part : entries_of s ≡ entries_bytes es
  pub entries : section_entries s ≡ es
  pub most : length es ≤ 4096
  pub fit : AllFit es
  pub whole : s ≡ p ++ section_bytes es
