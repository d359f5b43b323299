-- The tables that are taken are the well-formed ones, exactly. Assumes nothing.
use Prim.Native.Nat.{ℕ, zero, suc, ◌*◌, ◌/◌, ◌%◌, ◌<◌, ◌≤◌}
use mathlib.Core.Path.{◌≡◌, refl, sym, ap, ◌∙◌}
use mathlib.Core.Bool.{true, ◌&&◌}
use mathlib.Core.List.{List, [], ◌∷◌}
use native.Mathlib.Omega.{arith}
use borrow.Author.Tests.{eq-eqb, eqb-true, le-leb, leb-true}
use lib.Dec.{eqb, leb}
use lib.ListN.{length, drop, length-drop}
use Rattle.wire.specs.Bytes.{Bytes}
use Rattle.wire.proofs.Widths.{bytes_drop, one_below}
use Rattle.bands.specs.declared.Band.{Band}
use Rattle.bands.specs.Formed.{Formed, Good, nth}
use Rattle.bands.specs.Tables.{ascending, band_of, bands_in, bands_of, fits_of, table_ok}
use Rattle.bands.proofs.Exact.{bands_read, length-bands_in, length-table_bytes, table_written}
use Rattle.bands.proofs.Only.{Fitting, begins, both}

-- ---- what is taken is well formed

good_one : (s : List ℕ) → Bytes s → 27 ≤ length s → Fitting (band_of s) → Good (band_of s)
unfolding band_of
good_one s bytes long f =
    record {
      order = f.order;
      last = one_below 8 8 s bytes (omega (arith, long));
      shift = one_below 8 16 s bytes (omega (arith, long));
      inverted = f.inverted;
      path = f.path;
      notch = f.notch;
    }

good_all : (k : ℕ) (s : List ℕ) (least : ℕ) → Bytes s → 27 * k ≤ length s → ascending least (bands_in k s) ≡ true
    → (i : ℕ) → i < length (bands_in k s) → Good (nth (bands_in k s) i)
unfolding bands_in
good_all zero s least bytes long h i l = absurd (omega (arith, l))
good_all (suc k) s least bytes long h zero l =
    good_one s bytes (omega (arith, long)) (begins least (band_of s) (bands_in k (drop 27 s)) h).fit
good_all (suc k) s least bytes long h (suc i) l =
    let g = begins least (band_of s) (bands_in k (drop 27 s)) h in
    good_all k (drop 27 s) (suc (band_of s).last) (bytes_drop 27 s bytes) (omega (arith, long, length-drop 27 s)) g.rest i (omega (arith, l))

firsts : (least : ℕ) (bs : List Band) → ascending least bs ≡ true → (i : ℕ) → i < length bs → least ≤ (nth bs i).first
firsts least [] h i l = absurd (omega (arith, l))
firsts least (b ∷ bs) h zero l = (begins least b bs h).from
firsts least (b ∷ bs) h (suc i) l =
    let g = begins least b bs h in
    let next : suc b.last ≤ (nth bs i).first = firsts (suc b.last) bs g.rest i (omega (arith, l)) in
    omega (arith, next, g.fit.order, g.from)

parted : (least : ℕ) (bs : List Band) → ascending least bs ≡ true → (i j : ℕ) → i < j → j < length bs → (nth bs i).last < (nth bs j).first
parted least [] h i j l m = absurd (omega (arith, m))
parted least (b ∷ bs) h i zero l m = absurd (omega (arith, l))
parted least (b ∷ bs) h zero (suc j) l m = firsts (suc b.last) bs (begins least b bs h).rest j (omega (arith, m))
parted least (b ∷ bs) h (suc i) (suc j) l m =
    parted (suc b.last) bs (begins least b bs h).rest i j (omega (arith, l)) (omega (arith, m))

pub taken_formed : (s : List ℕ) → Bytes s → table_ok s ≡ true → Formed s (bands_of s)
unfolding table_ok
taken_formed s bytes h =
    let p = both (eqb (length s % 27) 0 && leb (length s) 432) (ascending 0 (bands_of s)) h in
    let q = both (eqb (length s % 27) 0) (leb (length s) 432) p.0 in
    let whole : length s % 27 ≡ 0 = eqb-true (length s % 27) 0 q.0 in
    let most : length s ≤ 432 = leb-true (length s) 432 q.1 in
    record {
      whole = sym (table_written s bytes whole);
      most = omega (arith, most, length-bands_in (length s / 27) s);
      each = good_all (length s / 27) s 0 bytes (omega arith) p.1;
      apart = parted 0 (bands_of s) p.1;
    }

-- ---- and what is well formed is taken

good_fits : (b : Band) → Good b → fits_of b ≡ true
good_fits b g =
    rw (le-leb b.first b.last g.order, le-leb b.inverted 1 g.inverted, le-leb b.path 3 g.path, le-leb b.notch 1 g.notch)

ascending_made : (least : ℕ) (bs : List Band) → ((i : ℕ) → i < length bs → Good (nth bs i))
    → ((i j : ℕ) → i < j → j < length bs → (nth bs i).last < (nth bs j).first) → (0 < length bs → least ≤ (nth bs 0).first) → ascending least bs ≡ true
unfolding ascending
ascending_made least [] each apart above = refl
ascending_made least (b ∷ bs) each apart above =
    let here : least ≤ b.first = above (omega arith) in
    rw (good_fits b (each 0 (omega arith)), le-leb least b.first here)
    (ascending_made (suc b.last) bs (λ i l. each (suc i) (omega (arith, l))) (λ i j l m. apart (suc i) (suc j) (omega (arith, l)) (omega (arith, m)))
    (λ l. apart 0 1 (omega arith) (omega (arith, l))))

pub formed_taken : (s : List ℕ) (bs : List Band) → Formed s bs → table_ok s ≡ true
unfolding table_ok
formed_taken s bs f =
    let long : length s ≡ 27 * length bs = ap length f.whole ∙ length-table_bytes bs in
    let most : length bs ≤ 16 = f.most in
    let whole : length s % 27 ≡ 0 = omega arith in
    let back : bands_of s ≡ bs = ap bands_of f.whole ∙ bands_read bs f.each in
    rw (eq-eqb (length s % 27) 0 whole, le-leb (length s) 432 (omega arith), back) (ascending_made 0 bs f.each f.apart (λ l. omega arith))
