-- The reader accepts exactly the sections: what is written is read back, with what stood before it, and each slice that is accepted is
-- what stood before followed by the section of its entries.
-- Assumes nothing.
use Prim.Native.Nat.{ℕ, zero, suc, ◌+◌, ◌-◌, ◌*◌, ◌<◌, ◌≤◌}
use mathlib.Core.Path.{◌≡◌, refl, sym, ap, ap₂, ◌∙◌, subst}
use mathlib.Core.List.{List, [], ◌∷◌, ◌++◌, append-nil, append_assoc}
use mathlib.Core.Bool.{true, ◌&&◌}
use native.Mathlib.Omega.{arith}
use native.Mathlib.Nat.{zero-add, suc-add}
use lib.Dec.{eqb}
use lib.ListN.{length, get_or, take, drop, length-append, length-take, length-drop, take-append-drop}
use lib.Seq.{take-nil, take_at, drop_at, take-take, drop-drop, take-add, take_all}
use Rattle.wire.specs.Bytes.{le_bytes, le_value, Bytes}
use Rattle.wire.proofs.Widths.{length-le_bytes, value_bytes, bytes_value, bytes_take, bytes_drop}
use Rattle.transcript.specs.declared.Entry.{Entry}
use Rattle.std.specs.Prelude.{Some}
use Rattle.transcript.specs.Entries.{entry_bytes, entry_of, entry_fits, fits, Eights}
use Rattle.transcript.specs.Sections.{entries_bytes, trailer_bytes, section_bytes, entries_in, all_fit, count_of, distance_of, start_of, is_section, section_at, section_of, entries_of, before_of, section_entries, AllFit, Parted}
use Rattle.transcript.proofs.Laid.{length-entry_bytes, length-entries_bytes, length-section_bytes}
use Rattle.transcript.proofs.Reading.{both, Sound, sound, is_section_lem}
use Rattle.transcript.proofs.Rows.{row_of, read_written, fits_written, written_read}

drop_take : (n m : ℕ) (l : List ℕ) → drop n (take (n + m) l) ≡ take m (drop n l)
drop_take zero m l = ap (λ (k : ℕ). take k l) (zero-add m)
drop_take (suc n) m [] = rw (suc-add n m) (sym (take-nil m))
drop_take (suc n) m (x ∷ xs) = rw (suc-add n m) (drop_take n m xs)

-- ---- entries in bytes

pub length-entries_in : (k : ℕ) (l : List ℕ) → length (entries_in k l) ≡ k
unfolding entries_in
length-entries_in zero l = refl
length-entries_in (suc k) l = ap suc (length-entries_in k (drop 16 l))

-- each stands in its own 16 bytes
pub entry_at_lem : (k i : ℕ) (l : List ℕ) (d : Entry) → i < k → get_or (entries_in k l) i d ≡ entry_of (take 16 (drop (16 * i) l))
unfolding entries_in
entry_at_lem zero i l d h = absurd (omega arith)
entry_at_lem (suc k) zero l d h = refl
entry_at_lem (suc k) (suc i) l d h =
    let next : 16 * suc i ≡ 16 + 16 * i = omega arith in
    let less : i < k = omega arith in
    rw (next, ← drop-drop (16 * i) 16 l) (entry_at_lem k i (drop 16 l) d less)

-- the first k entries lie in the first 16 k bytes
pub entries_in-take : (k : ℕ) (l : List ℕ) → entries_in k (take (16 * k) l) ≡ entries_in k l
unfolding entries_in
entries_in-take zero l = refl
entries_in-take (suc k) l =
    let size : 16 * suc k ≡ 16 + 16 * k = omega arith in
    let first : take 16 (take (16 + 16 * k) l) ≡ take 16 l = take-take 16 (16 + 16 * k) l (omega arith) in
    rw (size, first, drop_take 16 (16 * k) l, entries_in-take k (drop 16 l))

pub fit_eights : (es : List Entry) → AllFit es → Eights es
fit_eights [] h = tt
fit_eights (e ∷ es) h = ((row_of e h.0).eight, fit_eights es h.1)

-- entries that were written are read
pub entries_in-written : (es : List Entry) (r : List ℕ) → AllFit es → entries_in (length es) (entries_bytes es ++ r) ≡ es
unfolding entries_in entries_bytes
entries_in-written [] r h = refl
entries_in-written (e ∷ es) r h =
    let row = row_of e h.0 in
    let long : length (entry_bytes e) ≡ 16 = length-entry_bytes e row.eight in
    rw (
      append_assoc (entry_bytes e) (entries_bytes es) r,
      take_at (entry_bytes e) (entries_bytes es ++ r) 16 long,
      drop_at (entry_bytes e) (entries_bytes es ++ r) 16 long,
      read_written e row.address,
      entries_in-written es r h.1,
    )

all_fit-written : (es : List Entry) (r : List ℕ) → AllFit es → all_fit (length es) (entries_bytes es ++ r) ≡ true
unfolding all_fit entries_bytes
all_fit-written [] r h = refl
all_fit-written (e ∷ es) r h =
    let long : length (entry_bytes e) ≡ 16 = length-entry_bytes e (row_of e h.0).eight in
    rw (
      append_assoc (entry_bytes e) (entries_bytes es) r,
      take_at (entry_bytes e) (entries_bytes es ++ r) 16 long,
      drop_at (entry_bytes e) (entries_bytes es ++ r) 16 long,
      fits_written e h.0,
      all_fit-written es r h.1,
    )

-- and bytes whose entries fit are written from them
pub written-entries_in : (k : ℕ) (l : List ℕ) → Bytes l → all_fit k l ≡ true → entries_bytes (entries_in k l) ≡ take (16 * k) l
unfolding entries_in entries_bytes all_fit
written-entries_in zero l b h = refl
written-entries_in (suc k) l b h =
    let p = both (fits (take 16 l)) (all_fit k (drop 16 l)) h in
    let size : 16 * suc k ≡ 16 + 16 * k = omega arith in
    rw (size, take-add 16 (16 * k) l, written_read (take 16 l) (bytes_take 16 l b) p.0, written-entries_in k (drop 16 l) (bytes_drop 16 l b) p.1)

entries_in-fit : (k : ℕ) (l : List ℕ) → all_fit k l ≡ true → AllFit (entries_in k l)
unfolding entries_in all_fit fits
entries_in-fit zero l h = tt
entries_in-fit (suc k) l h =
    let b = take 16 l in
    let p = both (fits b) (all_fit k (drop 16 l)) h in
    let q = both (eqb (get_or b 6 0) 0 && eqb (get_or b 7 0) 0) (entry_fits (entry_of b)) p.0 in
    (q.1, entries_in-fit k (drop 16 l) p.1)

-- ---- sections

-- p, entries and their trailer: the trailer's numbers are read, and lead to the entries
module _ (p : List ℕ) (es : List Entry) (fit : AllFit es) (most : length es ≤ 4096) where
  entries_long : length (entries_bytes es) ≡ 16 * length es
  entries_long = length-entries_bytes es (fit_eights es fit)

  long : length (p ++ section_bytes es) ≡ length p + 16 * length es + 8
  long = length-append p (section_bytes es) ∙ omega (arith, length-section_bytes es (fit_eights es fit))

  trailer : drop (length (p ++ section_bytes es) - 8) (p ++ section_bytes es) ≡ trailer_bytes (length es)
  unfolding section_bytes
  trailer =
      let here : length (p ++ entries_bytes es) ≡ length (p ++ section_bytes es) - 8 = length-append p (entries_bytes es) ∙ omega (arith, long, entries_long) in
      ap (drop (length (p ++ section_bytes es) - 8)) (sym (append_assoc p (entries_bytes es) (trailer_bytes (length es))))
      ∙ drop_at (p ++ entries_bytes es) (trailer_bytes (length es)) (length (p ++ section_bytes es) - 8) here

  count : count_of (p ++ section_bytes es) ≡ length es
  unfolding trailer_bytes
  count =
      ap (λ (l : List ℕ). le_value (take 4 l)) trailer
      ∙ ap le_value (take_at (le_bytes 4 (length es)) (le_bytes 4 (16 * length es)) 4 (length-le_bytes 4 (length es)))
      ∙ value_bytes 4 (length es) (omega arith)

  distance : distance_of (p ++ section_bytes es) ≡ 16 * length es
  unfolding trailer_bytes
  distance =
      let second : drop (length (p ++ section_bytes es) - 8 + 4) (p ++ section_bytes es) ≡ le_bytes 4 (16 * length es) =
      sym (drop-drop 4 (length (p ++ section_bytes es) - 8) (p ++ section_bytes es))
      ∙ ap (drop 4) trailer
      ∙ drop_at (le_bytes 4 (length es)) (le_bytes 4 (16 * length es)) 4 (length-le_bytes 4 (length es)) in
      let all : take 4 (le_bytes 4 (16 * length es)) ≡ le_bytes 4 (16 * length es) =
      take_all 4 (le_bytes 4 (16 * length es)) (omega (arith, length-le_bytes 4 (16 * length es))) in
      ap (λ (l : List ℕ). le_value (take 4 l)) second ∙ ap le_value all ∙ value_bytes 4 (16 * length es) (omega arith)

  start : start_of (p ++ section_bytes es) ≡ length p
  start = omega (arith, long, count)

  rest : drop (start_of (p ++ section_bytes es)) (p ++ section_bytes es) ≡ section_bytes es
  rest = ap (λ (i : ℕ). drop i (p ++ section_bytes es)) start ∙ drop_at p (section_bytes es) (length p) refl

  accepted : is_section (p ++ section_bytes es) ≡ true
  unfolding section_bytes
  accepted =
      is_section_lem (p ++ section_bytes es)
      (record {
        long = omega (arith, long);
        most = omega (arith, count);
        near = omega (arith, count, distance);
        room = omega (arith, long, count);
        fit = ap₂ all_fit count rest ∙ all_fit-written es (trailer_bytes (length es)) fit;
      })

  part : entries_of (p ++ section_bytes es) ≡ entries_bytes es
  unfolding entries_of section_bytes
  part =
      rw accepted
      (ap₂ (λ (k : ℕ) (l : List ℕ). take (16 * k) l) count rest
      ∙ take_at (entries_bytes es) (trailer_bytes (length es)) (16 * length es) entries_long)

  -- what is written is read back, with what stood before it
  pub written_then_read : Parted (p ++ section_bytes es) p es
  unfolding section_of before_of
  written_then_read =
      record {
        accepted = rw accepted (ap₂ (λ (a k : ℕ). Some (section_at a k)) start count);
        before = rw accepted (ap (λ (i : ℕ). take i (p ++ section_bytes es)) start ∙ take_at p (section_bytes es) (length p) refl);
        part = part;
        entries = ap₂ entries_in count (part ∙ sym (append-nil (entries_bytes es))) ∙ entries_in-written es [] fit;
        most = most;
        fit = fit;
        whole = refl;
      }

-- each slice that is accepted is what stood before followed by the section of its entries
module _ (s : List ℕ) (bytes : Bytes s) (good : is_section s ≡ true) where
  holds : Sound s
  holds = sound s good

  -- four bytes of the trailer are those of their value
  four : (i : ℕ) → i + 4 ≤ length s → le_bytes 4 (le_value (take 4 (drop i s))) ≡ take 4 (drop i s)
  four i h =
      let size : length (take 4 (drop i s)) ≡ 4 = length-take 4 (drop i s) ∙ omega (arith, length-drop i s) in
      rw size at (bytes_value (take 4 (drop i s)) (bytes_take 4 (drop i s) (bytes_drop i s bytes)))

  back : trailer_bytes (count_of s) ≡ drop (length s - 8) s
  unfolding trailer_bytes
  back =
      let h = holds in
      let end : take 4 (drop (length s - 8 + 4) s) ≡ drop (length s - 8 + 4) s =
      take_all 4 (drop (length s - 8 + 4) s) (omega (arith, length-drop (length s - 8 + 4) s, h.long)) in
      ap₂ ◌++◌ (four (length s - 8) (omega (arith, h.long))) (ap (le_bytes 4) (sym h.near) ∙ four (length s - 8 + 4) (omega (arith, h.long)) ∙ end)
      ∙ ap (λ (l : List ℕ). take 4 (drop (length s - 8) s) ++ l) (sym (drop-drop 4 (length s - 8) s))
      ∙ take-append-drop 4 (drop (length s - 8) s)

  handed : entries_of s ≡ take (16 * count_of s) (drop (start_of s) s)
  unfolding entries_of
  handed = rw good

  front : before_of s ≡ take (start_of s) s
  unfolding before_of
  front = rw good

  named : section_entries s ≡ entries_in (count_of s) (drop (start_of s) s)
  named = ap (entries_in (count_of s)) handed ∙ entries_in-take (count_of s) (drop (start_of s) s)

  counted : length (section_entries s) ≡ count_of s
  counted = length-entries_in (count_of s) (entries_of s)

  all_fit_lem : AllFit (section_entries s)
  all_fit_lem = subst AllFit (sym named) (entries_in-fit (count_of s) (drop (start_of s) s) holds.fit)

  laid : entries_bytes (section_entries s) ≡ take (16 * count_of s) (drop (start_of s) s)
  laid = ap entries_bytes named ∙ written-entries_in (count_of s) (drop (start_of s) s) (bytes_drop (start_of s) s bytes) holds.fit

  whole : before_of s ++ section_bytes (section_entries s) ≡ s
  unfolding section_bytes
  whole =
      let h = holds in
      let here : start_of s + 16 * count_of s ≡ length s - 8 = omega (arith, h.long, h.room) in
      let end : trailer_bytes (length (section_entries s)) ≡ drop (16 * count_of s) (drop (start_of s) s) =
      ap trailer_bytes counted ∙ back ∙ ap (λ (i : ℕ). drop i s) (sym here) ∙ sym (drop-drop (16 * count_of s) (start_of s) s) in
      ap₂ ◌++◌ front (ap₂ ◌++◌ laid end ∙ take-append-drop (16 * count_of s) (drop (start_of s) s))
      ∙ take-append-drop (start_of s) s

  pub read_then_written : Parted s (before_of s) (section_entries s)
  read_then_written =
      subst (λ (l : List ℕ). Parted l (before_of s) (section_entries s)) whole
      (written_then_read (before_of s) (section_entries s) all_fit_lem (omega (arith, counted, holds.most)))
