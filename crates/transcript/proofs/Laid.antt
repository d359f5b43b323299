-- What is laid out in a room: an entry's two halves are its 16 bytes, and entries one after the other, sealed, are their section.
-- Assumes nothing.
use Prim.Native.Nat.{ℕ, ◌+◌, ◌*◌, ◌/◌, ◌%◌, ◌<◌}
use mathlib.Core.Path.{◌≡◌, refl, sym, ◌∙◌}
use mathlib.Core.List.{List, [], ◌∷◌, ◌++◌, append-nil, append_assoc}
use native.Mathlib.Omega.{arith}
use lib.ListN.{length, length-append}
use lib.Seq.{sets}
use Rattle.wire.specs.Bytes.{le_bytes}
use Rattle.wire.proofs.Widths.{length-le_bytes}
use Rattle.wire.proofs.Stores.{sets_append}
use Rattle.transcript.specs.declared.Entry.{Entry}
use Rattle.transcript.specs.Entries.{entry_bytes, Eight, Eights}
use Rattle.transcript.specs.Sections.{entries_bytes, trailer_bytes, section_bytes}

-- the eight bytes before the data
abbrev pub head_bytes : Entry → List ℕ
head_bytes e = e.kind ∷ e.outcome ∷ e.target ∷ e.n ∷ e.address % 256 ∷ e.address / 256 ∷ 0 ∷ 0 ∷ []

pub entry_laid : (s : List ℕ) (at : ℕ) (e : Entry) → e.address < 65536
    → sets (sets s at (head_bytes e)) (at + 8) e.bytes ≡ sets s at (entry_bytes e)
unfolding entry_bytes le_bytes
entry_laid s at e h =
    let high : e.address / 256 % 256 ≡ e.address / 256 = omega arith in
    sym (sets_append s at (head_bytes e) e.bytes) ∙ rw high

pub trailer_laid : (s : List ℕ) (count : ℕ)
    → sets (sets s (16 * count) (le_bytes 4 count)) (16 * count + 4) (le_bytes 4 (16 * count)) ≡ sets s (16 * count) (trailer_bytes count)
unfolding trailer_bytes
trailer_laid s count =
    rw (sets_append s (16 * count) (le_bytes 4 count) (le_bytes 4 (16 * count)), length-le_bytes)

pub length-entry_bytes : (e : Entry) → Eight e → length (entry_bytes e) ≡ 16
unfolding entry_bytes le_bytes
length-entry_bytes e h = rw h

pub length-entries_bytes : (es : List Entry) → Eights es → length (entries_bytes es) ≡ 16 * length es
unfolding entries_bytes
length-entries_bytes [] h = refl
length-entries_bytes (e ∷ es) h =
    let rest : length (entries_bytes es) ≡ 16 * length es = length-entries_bytes es h.1 in
    rw (length-append, length-entry_bytes e h.0) (omega arith)

pub length-trailer_bytes : (count : ℕ) → length (trailer_bytes count) ≡ 8
unfolding trailer_bytes le_bytes
length-trailer_bytes count = refl

pub length-section_bytes : (es : List Entry) → Eights es → length (section_bytes es) ≡ 16 * length es + 8
unfolding section_bytes
length-section_bytes es h = rw (length-append, length-entries_bytes es h, length-trailer_bytes)

pub entries_bytes-append : (xs ys : List Entry) → entries_bytes (xs ++ ys) ≡ entries_bytes xs ++ entries_bytes ys
unfolding entries_bytes
entries_bytes-append [] ys = refl
entries_bytes-append (x ∷ xs) ys = rw (entries_bytes-append xs ys, append_assoc)

pub eights_append : (xs ys : List Entry) → Eights xs → Eights ys → Eights (xs ++ ys)
eights_append [] ys h k = k
eights_append (x ∷ xs) ys h k = (h.0, eights_append xs ys h.1 k)

-- one entry more behind those that stand at the start of a room
pub entry_next : (room : List ℕ) (es : List Entry) (e : Entry) → Eights es
    → sets (sets room 0 (entries_bytes es)) (16 * length es) (entry_bytes e) ≡ sets room 0 (entries_bytes (es ++ (e ∷ [])))
unfolding entries_bytes
entry_next room es e h =
    let here : 0 + length (entries_bytes es) ≡ 16 * length es = omega (arith, length-entries_bytes es h) in
    rw (entries_bytes-append es (e ∷ []), append-nil, sets_append, here)

-- and their trailer: the section stands at the start of the room, and all behind it is as it was
pub section_laid : (room : List ℕ) (es : List Entry) → Eights es
    → sets (sets room 0 (entries_bytes es)) (16 * length es) (trailer_bytes (length es)) ≡ sets room 0 (section_bytes es)
unfolding section_bytes
section_laid room es h =
    let here : 0 + length (entries_bytes es) ≡ 16 * length es = omega (arith, length-entries_bytes es h) in
    rw (sets_append, here)
