-- The two tables, row by row: what one more row does, where the rows end, and bounds that every row keeps. Assumes nothing.
use mathlib.Core.Path.{◌≡◌, refl}
use mathlib.Core.Bool.{Bool, true, false, not, ◌&&◌}
use Prim.Native.Nat.{ℕ, ◌+◌, ◌*◌, ◌/◌, ◌≤◌, ◌<◌}
use native.Mathlib.Omega.{arith}
use native.Mathlib.Numerals.{add-one}
use lib.Dec.{T, leb, ltb}
use lib.ListN.{get_or, drop, drop_of_length-le}
use lib.Seq.{drop-cons}
use mir.Facts.{and_yes, leb_yes}
use Rattle.below.proofs.Test.{below}
use Rattle.worksheet.specs.declared.Band.{Band}
use Rattle.worksheet.specs.declared.Line.{Line}
use Rattle.worksheet.specs.declared.Work.{Work}
use Rattle.worksheet.specs.Sheet.{bands, band_of, bands_of, lines, line_of, lines_of}

-- ---- the ranges

pub band_turn : (lo m : ℕ) (d : Band) (i : ℕ) → i < 6 → bands_of lo (band_of lo m (get_or bands i d)) (drop (i + 1) bands) ≡ bands_of lo m (drop i bands)
unfolding bands_of
band_turn lo m d i h = rw (add-one, drop-cons bands i d h)

pub band_end : (lo m i : ℕ) → 6 ≤ i → m ≡ bands_of lo m (drop i bands)
unfolding bands_of
band_end lo m i h = rw (drop_of_length-le bands h)

-- ---- the lines

pub line_turn : (k : ℕ) (w : Work) (d : Line) (i : ℕ) → i < 16 → lines_of k (line_of k w (get_or lines i d)) (drop (i + 1) lines) ≡ lines_of k w (drop i lines)
unfolding lines_of
line_turn k w d i h = rw (add-one, drop-cons lines i d h)

pub line_end : (k : ℕ) (w : Work) (i : ℕ) → 16 ≤ i → w ≡ lines_of k w (drop i lines)
unfolding lines_of
line_end k w i h = rw (drop_of_length-le lines h)

-- each line divides by something and adds 32,768 at most
fair : Line → ℕ → Bool
fair d i = leb 1 (get_or lines i d).0 && leb (get_or lines i d).1 32_768

pub line_fair : (d : Line) (i : ℕ) → i < 16 → (0 < (get_or lines i d).0) × ((get_or lines i d).1 ≤ 32_768)
unfolding fair
line_fair d i h =
    let t : T (leb 1 (get_or lines i d).0) × T (leb (get_or lines i d).1 32_768) = and_yes (leb 1 (get_or lines i d).0) (leb (get_or lines i d).1 32_768) (below (fair d) 16 tt i h) in
    (leb_yes t.0, leb_yes t.1)

grows_by : (k : ℕ) (w : Work) (l : Line) (b : Bool) → (not w.ended && (ltb 1 w.left && ltb (2 * k / l.0) w.left)) ≡ b → (line_of k w l).sum ≤ w.sum + l.1
unfolding line_of
grows_by k w l true e = simp e (omega arith)
grows_by k w l false e = simp e (omega arith)

pub grows : (k : ℕ) (w : Work) (l : Line) → (line_of k w l).sum ≤ w.sum + l.1
grows k w l = grows_by k w l _ refl
