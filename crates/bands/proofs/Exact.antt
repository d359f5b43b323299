-- Bands and the bytes that they are written to, both ways. Assumes nothing.
use Prim.Native.Nat.{ℕ, zero, suc, ◌*◌, ◌/◌, ◌%◌, ◌<◌, ◌≤◌}
use mathlib.Core.Path.{◌≡◌, refl, sym, ap, ap₂, ◌∙◌}
use mathlib.Core.List.{List, [], ◌∷◌, ◌++◌, append-nil}
use native.Mathlib.Omega.{arith}
use lib.ListN.{length, get_or, take, drop, length-append, length-drop, take-append-drop}
use lib.Seq.{drop_at, drop-cons}
use Rattle.wire.specs.Bytes.{Bytes, le_bytes, le_value}
use Rattle.wire.specs.Parts.{joined}
use Rattle.wire.proofs.Joins.{joined_parts}
use Rattle.wire.proofs.Widths.{bytes_drop, one_number, value_bytes}
use Rattle.bands.specs.declared.Band.{Band}
use Rattle.bands.specs.Formed.{Good, nth}
use Rattle.bands.specs.Tables.{band, band_bytes, band_of, bands_in, bands_of, table_bytes}

-- ---- one band

pub length-band_bytes : (b : Band) → length (band_bytes b) ≡ 27
unfolding band_bytes le_bytes
length-band_bytes b = refl

-- what was written is read, whatever stands behind it
pub band_read : (b : Band) (r : List ℕ) → Good b → band_of (band_bytes b ++ r) ≡ b
unfolding band_of band_bytes le_bytes
band_read b r g =
    let first : le_value (le_bytes 8 b.first) ≡ b.first = value_bytes 8 b.first (omega (arith, g.order, g.last)) in
    let last : le_value (le_bytes 8 b.last) ≡ b.last = value_bytes 8 b.last g.last in
    let shift : le_value (le_bytes 8 b.shift) ≡ b.shift = value_bytes 8 b.shift g.shift in
    λ i. band (first i) (last i) (shift i) b.inverted b.path b.notch

three : (s : List ℕ) → 27 ≤ length s → take 3 (drop 24 s) ≡ get_or s 24 0 ∷ get_or s 25 0 ∷ get_or s 26 0 ∷ []
three s h =
    rw (drop-cons s 24 0 (omega (arith, h)), drop-cons s 25 0 (omega (arith, h)), drop-cons s 26 0 (omega (arith, h)))

-- and bytes are what their band is written to
pub band_written : (s : List ℕ) → Bytes s → 27 ≤ length s → band_bytes (band_of s) ≡ take 27 s
unfolding band_of band_bytes joined
band_written s bytes h =
    ap₂ ◌++◌ (one_number 8 0 s bytes (omega (arith, h)))
    (ap₂ ◌++◌ (one_number 8 8 s bytes (omega (arith, h)))
    (ap₂ ◌++◌ (one_number 8 16 s bytes (omega (arith, h))) (sym (three s h) ∙ sym (append-nil (take 3 (drop 24 s))))))
    ∙ joined_parts s 0 (8 ∷ 8 ∷ 8 ∷ 3 ∷ [])

-- ---- bands end to end

pub length-table_bytes : (bs : List Band) → length (table_bytes bs) ≡ 27 * length bs
unfolding table_bytes
length-table_bytes [] = refl
length-table_bytes (b ∷ bs) =
    let rest : length (table_bytes bs) ≡ 27 * length bs = length-table_bytes bs in
    rw (length-append, length-band_bytes b) (omega arith)

pub length-bands_in : (k : ℕ) (s : List ℕ) → length (bands_in k s) ≡ k
unfolding bands_in
length-bands_in zero s = refl
length-bands_in (suc k) s = ap suc (length-bands_in k (drop 27 s))

bands_in-read : (bs : List Band) → ((i : ℕ) → i < length bs → Good (nth bs i)) → bands_in (length bs) (table_bytes bs) ≡ bs
unfolding bands_in table_bytes
bands_in-read [] h = refl
bands_in-read (b ∷ bs) h =
    ap₂ ◌∷◌ (band_read b (table_bytes bs) (h 0 (omega arith)))
    (ap (bands_in (length bs)) (drop_at (band_bytes b) (table_bytes bs) 27 (length-band_bytes b)) ∙ bands_in-read bs (λ i l. h (suc i) (omega (arith, l))))

pub bands_read : (bs : List Band) → ((i : ℕ) → i < length bs → Good (nth bs i)) → bands_of (table_bytes bs) ≡ bs
bands_read bs h =
    let count : length (table_bytes bs) / 27 ≡ length bs = omega (arith, length-table_bytes bs) in
    ap (λ (k : ℕ). bands_in k (table_bytes bs)) count ∙ bands_in-read bs h

bands_in-written : (k : ℕ) (s : List ℕ) → Bytes s → length s ≡ 27 * k → table_bytes (bands_in k s) ≡ s
unfolding bands_in table_bytes
bands_in-written zero [] bytes h = refl
bands_in-written zero (x ∷ s) bytes h = absurd (omega (arith, h))
bands_in-written (suc k) s bytes h =
    let rest : length (drop 27 s) ≡ 27 * k = length-drop 27 s ∙ omega (arith, h) in
    ap₂ ◌++◌ (band_written s bytes (omega (arith, h))) (bands_in-written k (drop 27 s) (bytes_drop 27 s bytes) rest)
    ∙ take-append-drop 27 s

pub table_written : (s : List ℕ) → Bytes s → length s % 27 ≡ 0 → table_bytes (bands_of s) ≡ s
table_written s bytes h = bands_in-written (length s / 27) s bytes (omega (arith, h))
