-- A tuner's record is read from exactly the bytes that one is written to: what was written is read (`read_written`), and bytes that are
-- accepted are written again from what was read, which is a record in its ranges (`written_read`).
-- Assumes nothing.
use Prim.Native.Nat.{ℕ, zero, suc, ◌+◌, ◌%◌, ◌<◌, ◌≤◌}
use mathlib.Core.Path.{◌≡◌, refl, sym, ap, ap₂, ◌∙◌}
use mathlib.Core.Bool.{Bool, true, false, ◌&&◌}
use mathlib.Core.List.{List, [], ◌∷◌, map}
use native.Mathlib.Omega.{arith}
use borrow.Author.Tests.{eq-eqb, eqb-true, le-leb, leb-true, leb-false}
use lib.Dec.{T, eqb, leb}
use lib.Ieee.{Float, binary32, fits, of_bits, to_bits}
use lib.Ieee.Bits.{of_bits-to_bits, of_bits-fits, to_bits-lt}
use lib.ListN.{length, take, drop, length-map}
use lib.Seq.{take_all}
use Rattle.wire.specs.Bytes.{Bytes, le_bytes, le_value}
use Rattle.wire.proofs.Widths.{one_below, one_long, one_number, value_bytes}
use Rattle.wire.proofs.Floats.{nan_pattern, own_pattern}
use Rattle.pll.specs.declared.Kind.{Kind}
use Rattle.pll.specs.declared.Kind.TheVariants.{R820T, R828D}
use Rattle.r82xx.specs.declared.Tuner.{Tuner}
use Rattle.pll.specs.Plan.{kind_number}
use Rattle.records.specs.Fields.{flag_byte, flag_read, flags_only, kind_of, proper_gain}
use Rattle.wire.specs.Parts.{joined, parts_from}
use Rattle.records.specs.Tuners.{is_tuner, tuner_bytes, tuner_fits, tuner_from, tuner_of, tuner_parts, tuner_read, tuner_widths}
use Rattle.wire.proofs.Joins.{joined_parts, length_joined, parts_joined}
use Rattle.records.proofs.Made.{Lists, sized}

-- ---- one part

kind_read : (k : Kind) → kind_of (le_value (le_bytes 1 (kind_number k))) ≡ k
unfolding le_value le_bytes
kind_read R820T = refl
kind_read R828D = refl

kind_fits : (k : Kind) → leb (le_value (le_bytes 1 (kind_number k))) 1 ≡ true
unfolding le_value le_bytes
kind_fits R820T = refl
kind_fits R828D = refl

kind_written : (n : ℕ) → n ≤ 1 → kind_number (kind_of n) ≡ n
kind_written zero h = refl
kind_written (suc zero) h = refl
kind_written (suc (suc n)) h = absurd (omega arith)

flag_read_lem : (b : Bool) → flag_read (le_value (le_bytes 1 (flag_byte b))) ≡ b
unfolding le_value le_bytes
flag_read_lem true = refl
flag_read_lem false = refl

flag_fits : (b : Bool) → leb (le_value (le_bytes 1 (flag_byte b))) 1 ≡ true
unfolding le_value le_bytes
flag_fits true = refl
flag_fits false = refl

flag_written : (n : ℕ) → n ≤ 1 → flag_byte (flag_read n) ≡ n
flag_written zero h = refl
flag_written (suc zero) h = refl
flag_written (suc (suc n)) h = absurd (omega arith)

flags_read : (fs : List Bool) → map flag_read (map flag_byte fs) ≡ fs
flags_read [] = refl
flags_read (true ∷ fs) = ap (λ (l : List Bool). true ∷ l) (flags_read fs)
flags_read (false ∷ fs) = ap (λ (l : List Bool). false ∷ l) (flags_read fs)

flags_fit : (fs : List Bool) → flags_only (map flag_byte fs) ≡ true
unfolding flags_only
flags_fit [] = refl
flags_fit (true ∷ fs) = flags_fit fs
flags_fit (false ∷ fs) = flags_fit fs

pub both : (a b : Bool) → a && b ≡ true → (a ≡ true) × (b ≡ true)
both true b h = (refl, h)
both false b h =
    let z : ◌≡◌ {A = ℕ} 0 1 = cc in
    absurd (omega arith)

flags_written : (bs : List ℕ) → flags_only bs ≡ true → map flag_byte (map flag_read bs) ≡ bs
unfolding flags_only
flags_written [] h = refl
flags_written (b ∷ bs) h =
    let p = both (leb b 1) (flags_only bs) h in
    ap₂ ◌∷◌ (flag_written b (leb-true b 1 p.0)) (flags_written bs p.1)

-- a gain's bits: those of a NaN are the one pattern
gain_fits : (g : Float) → T (fits binary32 g) → proper_gain (to_bits binary32 g) ≡ true
gain_fits g h = go (leb (to_bits binary32 g % 0x8000_0000) 0x7f80_0000) refl
  where
    go : (t : Bool) → leb (to_bits binary32 g % 0x8000_0000) 0x7f80_0000 ≡ t → proper_gain (to_bits binary32 g) ≡ true
    go true e = rw e
    go false e =
        let over : 0x7f80_0000 < to_bits binary32 g % 0x8000_0000 = leb-false (to_bits binary32 g % 0x8000_0000) 0x7f80_0000 e in
        let same : to_bits binary32 g ≡ 0x7fc0_0000 = ap (to_bits binary32) (sym (of_bits-to_bits binary32 g h)) ∙ nan_pattern (to_bits binary32 g) over in
        rw e (eq-eqb (to_bits binary32 g) 0x7fc0_0000 same)

gain_written : (n : ℕ) → n < 0x1_0000_0000 → proper_gain n ≡ true → to_bits binary32 (of_bits binary32 n) ≡ n
gain_written n h p = go (leb (n % 0x8000_0000) 0x7f80_0000) refl
  where
    go : (t : Bool) → leb (n % 0x8000_0000) 0x7f80_0000 ≡ t → to_bits binary32 (of_bits binary32 n) ≡ n
    go true e = own_pattern n h (leb-true (n % 0x8000_0000) 0x7f80_0000 e)
    go false e =
        let same : n ≡ 0x7fc0_0000 = eqb-true n 0x7fc0_0000 (rw e at p) in
        nan_pattern n (leb-false (n % 0x8000_0000) 0x7f80_0000 e) ∙ sym same

-- ---- a record

-- the ranges of a record's fields: those of their types, and the references not 0
pub record Ranged (t : Tuner) : Type 0 where
  pub lists : Lists t
  pub address : t.chip.address < 256
  pub nominal : t.nominal < 4_294_967_296
  pub known : 1 ≤ t.nominal
  pub corrected : t.corrected < 4_294_967_296
  pub right : 1 ≤ t.corrected
  pub gain : T (fits binary32 t.gain)
  pub ifreq : t.ifreq < 18_446_744_073_709_551_616

module _ (t : Tuner) (h : Ranged t) where
  parted : parts_from 0 tuner_widths (tuner_bytes t) ≡ tuner_parts t
  unfolding tuner_bytes
  parted = parts_joined [] 0 tuner_widths (tuner_parts t) refl (sized t h.lists)

  nominal_read : le_value (le_bytes 4 t.nominal) ≡ t.nominal
  nominal_read = value_bytes 4 t.nominal h.nominal

  corrected_read : le_value (le_bytes 4 t.corrected) ≡ t.corrected
  corrected_read = value_bytes 4 t.corrected h.corrected

  gain_bits : le_value (le_bytes 4 (to_bits binary32 t.gain)) ≡ to_bits binary32 t.gain
  gain_bits = value_bytes 4 (to_bits binary32 t.gain) (to_bits-lt binary32 t.gain h.gain)

  fields_read : tuner_from (tuner_parts t) ≡ t
  fields_read i =
      record {
        kind = kind_read t.kind i;
        chip =
            record {
              address = value_bytes 1 t.chip.address h.address i;
              shadow = t.chip.shadow;
              doubtful = flags_read t.chip.doubtful i;
            };
        nominal = nominal_read i;
        corrected = corrected_read i;
        lock = flag_read_lem t.lock i;
        gain = (ap (of_bits binary32) gain_bits ∙ of_bits-to_bits binary32 t.gain h.gain) i;
        ifreq = value_bytes 8 t.ifreq h.ifreq i;
        notch = flag_read_lem t.notch i;
      }

  parts_fit : tuner_fits (tuner_parts t) ≡ true
  unfolding tuner_fits
  parts_fit =
      rw (
        kind_fits t.kind,
        nominal_read,
        le-leb 1 t.nominal h.known,
        corrected_read,
        le-leb 1 t.corrected h.right,
        flag_fits t.lock,
        gain_bits,
        gain_fits t.gain h.gain,
        flag_fits t.notch,
        flags_fit t.chip.doubtful,
      )

  long : length (tuner_bytes t) ≡ 78
  unfolding tuner_bytes
  long = length_joined tuner_widths (tuner_parts t) (sized t h.lists)

  accepted : is_tuner (tuner_bytes t) ≡ true
  unfolding is_tuner
  accepted = rw (eq-eqb (length (tuner_bytes t)) 78 long) (ap tuner_fits parted ∙ parts_fit)

  -- what was written is read
  pub read_written : tuner_of (tuner_bytes t) ≡ tuner_read true t
  unfolding tuner_of
  read_written = rw accepted (ap (tuner_read true) (ap tuner_from parted ∙ fields_read))

module _ (b : List ℕ) (bytes : Bytes b) (good : is_tuner b ≡ true) where
  size : length b ≡ 78
  unfolding is_tuner
  size = eqb-true (length b) 78 (both (eqb (length b) 78) (tuner_fits (parts_from 0 tuner_widths b)) good).0

  record Tests : Type 0 where
    kind : le_value (take 1 b) ≤ 1
    nominal : 1 ≤ le_value (take 4 (drop 29 b))
    corrected : 1 ≤ le_value (take 4 (drop 33 b))
    lock : le_value (take 1 (drop 37 b)) ≤ 1
    gain : proper_gain (le_value (take 4 (drop 38 b))) ≡ true
    notch : le_value (take 1 (drop 50 b)) ≤ 1
    flags : flags_only (take 27 (drop 51 b)) ≡ true

  tests : Tests
  unfolding is_tuner tuner_fits
  tests =
      let k = leb (le_value (take 1 b)) 1 in
      let n = leb 1 (le_value (take 4 (drop 29 b))) in
      let c = leb 1 (le_value (take 4 (drop 33 b))) in
      let l = leb (le_value (take 1 (drop 37 b))) 1 in
      let g = proper_gain (le_value (take 4 (drop 38 b))) in
      let o = leb (le_value (take 1 (drop 50 b))) 1 in
      let f = flags_only (take 27 (drop 51 b)) in
      let z = both (eqb (length b) 78) (k && n && c && l && g && o && f) good in
      let p = both (k && n && c && l && g && o) f z.1 in
      let q = both (k && n && c && l && g) o p.0 in
      let r = both (k && n && c && l) g q.0 in
      let s = both (k && n && c) l r.0 in
      let t = both (k && n) c s.0 in
      let u = both k n t.0 in
      record {
        kind = leb-true (le_value (take 1 b)) 1 u.0;
        nominal = leb-true 1 (le_value (take 4 (drop 29 b))) u.1;
        corrected = leb-true 1 (le_value (take 4 (drop 33 b))) t.1;
        lock = leb-true (le_value (take 1 (drop 37 b))) 1 s.1;
        gain = r.1;
        notch = leb-true (le_value (take 1 (drop 50 b))) 1 q.1;
        flags = p.1;
      }

  -- a part that is a number, by its width and place
  number : (k at : ℕ) → at + k ≤ 78 → le_bytes k (le_value (take k (drop at b))) ≡ take k (drop at b)
  number k at h = one_number k at b bytes (omega (arith, size))

  parts_written : tuner_parts (tuner_from (parts_from 0 tuner_widths b)) ≡ parts_from 0 tuner_widths b
  parts_written =
      let h = tests in
      rw (
        kind_written (le_value (take 1 b)) h.kind,
        number 1 0 (omega arith),
        number 1 1 (omega arith),
        number 4 29 (omega arith),
        number 4 33 (omega arith),
        flag_written (le_value (take 1 (drop 37 b))) h.lock,
        number 1 37 (omega arith),
        gain_written (le_value (take 4 (drop 38 b))) (one_below 4 38 b bytes (omega (arith, size))) h.gain,
        number 4 38 (omega arith),
        number 8 42 (omega arith),
        flag_written (le_value (take 1 (drop 50 b))) h.notch,
        number 1 50 (omega arith),
        flags_written (take 27 (drop 51 b)) h.flags,
      )

  taken : tuner_of b ≡ tuner_read true (tuner_from (parts_from 0 tuner_widths b))
  unfolding tuner_of
  taken = rw good

  in_ranges : Ranged (tuner_from (parts_from 0 tuner_widths b))
  in_ranges =
      let h = tests in
      record {
        lists =
            record {
              shadow = one_long 27 2 b (omega (arith, size));
              doubtful = length-map (take 27 (drop 51 b)) flag_read ∙ one_long 27 51 b (omega (arith, size));
            };
        address = one_below 1 1 b bytes (omega (arith, size));
        nominal = one_below 4 29 b bytes (omega (arith, size));
        known = h.nominal;
        corrected = one_below 4 33 b bytes (omega (arith, size));
        right = h.corrected;
        gain = of_bits-fits binary32 (le_value (take 4 (drop 38 b)));
        ifreq = one_below 8 42 b bytes (omega (arith, size));
      }

  -- what was read is written: the bytes again, from a record in its ranges
  pub written_read : ((tuner_of b).ok ≡ true) × (tuner_bytes (tuner_of b).tuner ≡ b) × Ranged (tuner_of b).tuner
  unfolding tuner_bytes
  written_read =
      rw taken
      (refl, ap joined parts_written ∙ joined_parts b 0 tuner_widths ∙ take_all 78 b (omega (arith, size)), in_ranges)
