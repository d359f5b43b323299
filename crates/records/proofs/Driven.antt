-- The driver's record: what the code reads and stores is what the definitions say, and a record is read from exactly the bytes that one is
-- written to: what was written is read (`driver_read_lem`), and bytes that are accepted are written again from what was read (`driver_written`).
-- Assumes nothing.
use Prim.Native.Nat.{ℕ, zero, suc, ◌+◌, ◌<◌, ◌≤◌}
use mathlib.Core.Path.{◌≡◌, refl, sym, ap, ap₂, ◌∙◌}
use mathlib.Core.Bool.{Bool, true, false, ◌&&◌}
use mathlib.Core.List.{List, []}
use native.Mathlib.Omega.{arith}
use borrow.Author.Tests.{eq-eqb, eqb-true, le-leb, leb-true, ne_eqb}
use lib.Dec.{eqb, leb}
use lib.IntN.{ℤ, pos}
use lib.ListN.{length, take, drop}
use lib.Seq.{take_all}
use mir.Syntax.{w32}
use mir.Val.{Fits, SFits, of_z, to_z}
use mir.Facts.{Fits-of_z, of_z-to_z, sfits_to_z, to_z-of_z}
use Rattle.wire.specs.Bytes.{Bytes, le_bytes, le_value}
use Rattle.wire.proofs.Widths.{length-le_bytes, one_below, one_number, value_bytes}
use Rattle.board.specs.Numbers.{board_number}
use Rattle.board.specs.declared.Board.{Board}
use Rattle.board.specs.declared.Board.TheVariants.{Generic, V4}
use Rattle.driver.specs.Record.{driver, sound_driver, xtal_by, xtal_of}
use Rattle.driver.specs.declared.Driver.{Driver}
use Rattle.records.specs.Drivers.{driver_bytes, driver_fits, driver_from, driver_of, driver_parts, driver_read, driver_widths, is_driver}
use Rattle.records.specs.Fields.{board_from}
use Rattle.wire.specs.Parts.{joined, laid, parts_from, Sized}
use Rattle.records.proofs.Exact.{both}
use Rattle.wire.proofs.Joins.{joined_parts, laid_joined, length_joined, parts_joined}
use Rattle.records.proofs.Turns.{sets_whole}

word_fits : (n : ℕ) → n < 4_294_967_296 → Fits w32 n
word_fits n h = record { fits = h }

-- ---- the code

module _ (b : List ℕ) where
  pub driver_made : (board : Board) (k n m f r a : ℕ) (z : ℤ) → k ≡ le_value (take 1 b) → board ≡ board_from k → n ≡ le_value (take 4 (drop 1 b))
      → m ≡ le_value (take 4 (drop 5 b)) → m < 4_294_967_296 → z ≡ to_z w32 m → f ≡ le_value (take 8 (drop 9 b)) → r ≡ le_value (take 4 (drop 17 b))
      → a ≡ le_value (take 8 (drop 21 b)) → driver board n (to_z w32 (of_z w32 z)) f r a ≡ driver_from (parts_from 0 driver_widths b)
  driver_made board k n m f r a z ek eb en em h ez ef er ea =
      let same : to_z w32 (of_z w32 z) ≡ to_z w32 m = ap (λ (y : ℤ). to_z w32 (of_z w32 y)) ez ∙ ap (to_z w32) (of_z-to_z (word_fits m h)) in
      rw (same, eb, ek, en, em, ef, er, ea)

  pub driver_tested : (k x : ℕ) (d : Driver) → k ≡ le_value (take 1 b) → d ≡ driver_from (parts_from 0 driver_widths b) → SFits w32 d.ppm
      → x ≡ xtal_by d.nominal (to_z w32 (of_z w32 d.ppm)) → leb k 1 && leb 1 x ≡ driver_fits (parts_from 0 driver_widths b)
  unfolding driver_fits
  driver_tested k x d ek ed s ex =
      ap₂ ◌&&◌ (ap (λ (n : ℕ). leb n 1) ek) (ap (leb 1) (ex ∙ ap (xtal_by d.nominal) (to_z-of_z s) ∙ ap xtal_of ed))

  pub driver_short : (length b ≡ 29 → ⊥) → driver_read false (driver Generic 1 (pos 0) 0 0 0) ≡ driver_of b
  unfolding driver_of is_driver
  driver_short h = rw (ne_eqb (length b) 29 h)

  pub driver_bad : (f : Bool) → length b ≡ 29 → f ≡ driver_fits (parts_from 0 driver_widths b) → f ≡ false
      → driver_read false (driver Generic 1 (pos 0) 0 0 0) ≡ driver_of b
  unfolding driver_of is_driver
  driver_bad f h e never = rw (eq-eqb (length b) 29 h, ← e, never)

  pub driver_good : (f : Bool) (d : Driver) → length b ≡ 29 → f ≡ driver_fits (parts_from 0 driver_widths b) → f ≡ true
      → d ≡ driver_from (parts_from 0 driver_widths b) → driver_read true d ≡ driver_of b
  unfolding driver_of is_driver
  driver_good f d h e fine same = rw (same, eq-eqb (length b) 29 h, ← e, fine)

sized : (d : Driver) → Sized driver_widths (driver_parts d)
sized d = (
  length-le_bytes 1 (board_number d.board),
  (length-le_bytes 4 d.nominal, (length-le_bytes 4 (of_z w32 d.ppm), (length-le_bytes 8 d.frequency, (length-le_bytes 4 d.rate, (length-le_bytes 8 d.actual, tt))))),
)

long : (d : Driver) → length (driver_bytes d) ≡ 29
unfolding driver_bytes
long d = length_joined driver_widths (driver_parts d) (sized d)

-- the parts stored one after the other over 29 bytes
pub driver_image_whole : (d : Driver) (l : List ℕ) → length l ≡ 29 → laid l 0 driver_widths (driver_parts d) ≡ driver_bytes d
unfolding driver_bytes
driver_image_whole d l e =
    laid_joined l 0 driver_widths (driver_parts d) (sized d) ∙ sets_whole l (driver_bytes d) (long d ∙ sym e)

-- ---- exactness

board_read : (o : Board) → board_from (le_value (le_bytes 1 (board_number o))) ≡ o
unfolding le_value le_bytes
board_read Generic = refl
board_read V4 = refl

board_fits : (o : Board) → leb (le_value (le_bytes 1 (board_number o))) 1 ≡ true
unfolding le_value le_bytes
board_fits Generic = refl
board_fits V4 = refl

board_written : (n : ℕ) → n ≤ 1 → board_number (board_from n) ≡ n
board_written zero h = refl
board_written (suc zero) h = refl
board_written (suc (suc n)) h = absurd (omega arith)

-- the ranges of the fields' types, and a reference that can be corrected
pub record RangedDriver (d : Driver) : Type 0 where
  pub nominal : d.nominal < 4_294_967_296
  pub ppm : SFits w32 d.ppm
  pub frequency : d.frequency < 18_446_744_073_709_551_616
  pub rate : d.rate < 4_294_967_296
  pub actual : d.actual < 18_446_744_073_709_551_616
  pub right : 1 ≤ xtal_of d

module _ (d : Driver) (h : RangedDriver d) where
  parted : parts_from 0 driver_widths (driver_bytes d) ≡ driver_parts d
  unfolding driver_bytes
  parted = parts_joined [] 0 driver_widths (driver_parts d) refl (sized d)

  ppm_read : to_z w32 (le_value (le_bytes 4 (of_z w32 d.ppm))) ≡ d.ppm
  ppm_read = ap (to_z w32) (value_bytes 4 (of_z w32 d.ppm) (Fits-of_z h.ppm).fits) ∙ to_z-of_z h.ppm

  fields_read : driver_from (driver_parts d) ≡ d
  fields_read i =
      driver (board_read d.board i) (value_bytes 4 d.nominal h.nominal i) (ppm_read i) (value_bytes 8 d.frequency h.frequency i)
      (value_bytes 4 d.rate h.rate i) (value_bytes 8 d.actual h.actual i)

  parts_fit : driver_fits (driver_parts d) ≡ true
  unfolding driver_fits
  parts_fit = rw (board_fits d.board) (ap sound_driver fields_read ∙ le-leb 1 (xtal_of d) h.right)

  accepted : is_driver (driver_bytes d) ≡ true
  unfolding is_driver
  accepted = rw (eq-eqb (length (driver_bytes d)) 29 (long d)) (ap driver_fits parted ∙ parts_fit)

  -- what was written is read
  pub driver_read_lem : driver_of (driver_bytes d) ≡ driver_read true d
  unfolding driver_of
  driver_read_lem = rw accepted (ap (driver_read true) (ap driver_from parted ∙ fields_read))

module _ (b : List ℕ) (bytes : Bytes b) (good : is_driver b ≡ true) where
  size : length b ≡ 29
  unfolding is_driver
  size = eqb-true (length b) 29 (both (eqb (length b) 29) (driver_fits (parts_from 0 driver_widths b)) good).0

  tests : (le_value (take 1 b) ≤ 1) × (1 ≤ xtal_of (driver_from (parts_from 0 driver_widths b)))
  unfolding is_driver driver_fits
  tests =
      let k = leb (le_value (take 1 b)) 1 in
      let x = sound_driver (driver_from (parts_from 0 driver_widths b)) in
      let p = both k x (both (eqb (length b) 29) (k && x) good).1 in
      (leb-true (le_value (take 1 b)) 1 p.0, leb-true 1 (xtal_of (driver_from (parts_from 0 driver_widths b))) p.1)

  number : (k at : ℕ) → at + k ≤ 29 → le_bytes k (le_value (take k (drop at b))) ≡ take k (drop at b)
  number k at h = one_number k at b bytes (omega (arith, size))

  word : le_value (take 4 (drop 5 b)) < 4_294_967_296
  word = one_below 4 5 b bytes (omega (arith, size))

  parts_written : driver_parts (driver_from (parts_from 0 driver_widths b)) ≡ parts_from 0 driver_widths b
  parts_written =
      rw (
        board_written (le_value (take 1 b)) tests.0,
        number 1 0 (omega arith),
        number 4 1 (omega arith),
        of_z-to_z (word_fits (le_value (take 4 (drop 5 b))) word),
        number 4 5 (omega arith),
        number 8 9 (omega arith),
        number 4 17 (omega arith),
        number 8 21 (omega arith),
      )

  taken : driver_of b ≡ driver_read true (driver_from (parts_from 0 driver_widths b))
  unfolding driver_of
  taken = rw good

  in_ranges : RangedDriver (driver_from (parts_from 0 driver_widths b))
  in_ranges =
      record {
        nominal = one_below 4 1 b bytes (omega (arith, size));
        ppm = sfits_to_z (word_fits (le_value (take 4 (drop 5 b))) word);
        frequency = one_below 8 9 b bytes (omega (arith, size));
        rate = one_below 4 17 b bytes (omega (arith, size));
        actual = one_below 8 21 b bytes (omega (arith, size));
        right = tests.1;
      }

  -- what was read is written: the bytes again, from a record in its ranges
  pub driver_written : ((driver_of b).ok ≡ true) × (driver_bytes (driver_of b).driver ≡ b) × RangedDriver (driver_of b).driver
  unfolding driver_bytes
  driver_written =
      rw taken
      (refl, ap joined parts_written ∙ joined_parts b 0 driver_widths ∙ take_all 29 b (omega (arith, size)), in_ranges)
