-- One reading-back fact for all kinds, each way, and what an entry that fits the table is known to be.
-- Assumes nothing.
use Prim.Native.Nat.{ℕ, zero, suc, ◌<◌, ◌≤◌}
use mathlib.Core.Path.{◌≡◌, refl, sym, ap, ap₂, ◌∙◌}
use mathlib.Core.List.{List, [], ◌∷◌, ◌++◌}
use mathlib.Core.Bool.{Bool, true, ◌&&◌}
use native.Mathlib.Omega.{arith}
use lib.Dec.{eqb, leb}
use borrow.Author.Tests.{eqb-true, leb-true}
use lib.ListN.{length, get_or, take, drop, length-drop, length-take}
use lib.Seq.{drop-cons}
use Rattle.wire.specs.Bytes.{le_bytes, le_value, Bytes}
use Rattle.wire.proofs.Widths.{value_bytes, bytes_value, bytes_take, bytes_drop}
use Rattle.transcript.specs.declared.Entry.{Entry}
use Rattle.transcript.specs.Table.{row_fits, n_low, n_high, outcome_most, target_most, address_most, first_most}
use Rattle.transcript.specs.Entries.{entry_bytes, entry_of, zeros, kept_by, entry_fits, fits}
use Rattle.transcript.proofs.Reading.{both}

-- a column's numbers are all at most m, which is one computed test
within : ℕ → List ℕ → Bool
within m [] = true
within m (x ∷ xs) = leb x m && within m xs

column : (m : ℕ) (l : List ℕ) → within m l ≡ true → (k : ℕ) → get_or l k 0 ≤ m
unfolding within
column m [] h k = omega arith
column m (x ∷ xs) h zero = leb-true x m (both (leb x m) (within m xs) h).0
column m (x ∷ xs) h (suc k) = column m xs (both (leb x m) (within m xs) h).1 k

pub address_most_lem : (k : ℕ) → get_or address_most k 0 ≤ 65535
unfolding within address_most
address_most_lem = column 65535 address_most refl

-- what is known of an entry that fits
pub record Row (e : Entry) : Type 0 where
  pub kind : (1 ≤ e.kind) × (e.kind ≤ 9)
  pub outcome : e.outcome ≤ 1
  pub target : e.target ≤ 255
  pub n : e.n ≤ 8
  pub address : e.address < 65536
  pub eight : length e.bytes ≡ 8
  pub padded : zeros (drop (kept_by e.kind e.outcome e.n) e.bytes) ≡ true

pub row_of : (e : Entry) → entry_fits e ≡ true → Row e
unfolding entry_fits row_fits within n_high outcome_most target_most address_most
row_of e h =
    let k = e.kind in
    let b = get_or e.bytes 0 0 in
    let t1 = leb k 9 in
    let t2 = leb 1 k in
    let t3 = leb e.outcome (get_or outcome_most k 0) in
    let t4 = leb e.target (get_or target_most k 0) in
    let t5 = leb (get_or n_low k 0) e.n in
    let t6 = leb e.n (get_or n_high k 0) in
    let t7 = leb e.address (get_or address_most k 0) in
    let t8 = leb b (get_or first_most k 0) in
    let size = eqb (length e.bytes) 8 in
    let rest = zeros (drop (kept_by k e.outcome e.n) e.bytes) in
    let p = both (row_fits k e.outcome e.target e.n e.address b && size) rest h in
    let q = both (row_fits k e.outcome e.target e.n e.address b) size p.0 in
    let r8 = both (t1 && t2 && t3 && t4 && t5 && t6 && t7) t8 q.0 in
    let r7 = both (t1 && t2 && t3 && t4 && t5 && t6) t7 r8.0 in
    let r6 = both (t1 && t2 && t3 && t4 && t5) t6 r7.0 in
    let r5 = both (t1 && t2 && t3 && t4) t5 r6.0 in
    let r4 = both (t1 && t2 && t3) t4 r5.0 in
    let r3 = both (t1 && t2) t3 r4.0 in
    let r2 = both t1 t2 r3.0 in
    record {
      kind = (leb-true 1 k r2.1, leb-true k 9 r2.0);
      outcome = omega (arith, leb-true e.outcome (get_or outcome_most k 0) r3.1, column 1 outcome_most refl k);
      target = omega (arith, leb-true e.target (get_or target_most k 0) r4.1, column 255 target_most refl k);
      n = omega (arith, leb-true e.n (get_or n_high k 0) r6.1, column 8 n_high refl k);
      address = omega (arith, leb-true e.address (get_or address_most k 0) r7.1, address_most_lem k);
      eight = eqb-true (length e.bytes) 8 q.1;
      padded = p.1;
    }

-- an entry's 16 bytes stand for it: the one reading-back fact, for all kinds
pub read_written : (e : Entry) → e.address < 65536 → entry_of (entry_bytes e) ≡ e
unfolding entry_of entry_bytes le_bytes
read_written e h = rw (value_bytes 2 e.address h)

pub fits_written : (e : Entry) → entry_fits e ≡ true → fits (entry_bytes e) ≡ true
unfolding fits entry_bytes le_bytes
fits_written e h = ap entry_fits (read_written e (row_of e h).address) ∙ h

cons_drop : (b : List ℕ) (i : ℕ) → i < length b → get_or b i 0 ∷ drop (suc i) b ≡ drop i b
cons_drop b i h = sym (drop-cons b i 0 h)

-- and 16 bytes that fit are those of the entry that they stand for
pub written_read : (b : List ℕ) → Bytes b → fits b ≡ true → entry_bytes (entry_of b) ≡ b
unfolding fits entry_bytes entry_of
written_read b bytes h =
    let p = both (eqb (get_or b 6 0) 0 && eqb (get_or b 7 0) 0) (entry_fits (entry_of b)) h in
    let q = both (eqb (get_or b 6 0) 0) (eqb (get_or b 7 0) 0) p.0 in
    let six : get_or b 6 0 ≡ 0 = eqb-true (get_or b 6 0) 0 q.0 in
    let seven : get_or b 7 0 ≡ 0 = eqb-true (get_or b 7 0) 0 q.1 in
    let eight : length (drop 8 b) ≡ 8 = (row_of (entry_of b) p.1).eight in
    let long : length b ≡ 16 = omega (arith, length-drop 8 b, eight) in
    let two : length (take 2 (drop 4 b)) ≡ 2 = length-take 2 (drop 4 b) ∙ simp length-drop (omega arith) in
    let value : le_bytes 2 (le_value (take 2 (drop 4 b))) ≡ take 2 (drop 4 b) =
    rw two at (bytes_value (take 2 (drop 4 b)) (bytes_take 2 (drop 4 b) (bytes_drop 4 b bytes))) in
    let spelt : take 2 (drop 4 b) ≡ get_or b 4 0 ∷ get_or b 5 0 ∷ [] = rw (drop-cons b 4 0 (omega arith), drop-cons b 5 0 (omega arith)) in
    ap₂ (λ (x : List ℕ) (y : ℕ). (get_or b 0 0 ∷ get_or b 1 0 ∷ get_or b 2 0 ∷ get_or b 3 0 ∷ []) ++ (x ++ (0 ∷ y ∷ drop 8 b))) (value ∙ spelt) (sym seven)
    ∙ ap (λ (x : ℕ). get_or b 0 0 ∷ get_or b 1 0 ∷ get_or b 2 0 ∷ get_or b 3 0 ∷ get_or b 4 0 ∷ get_or b 5 0 ∷ x ∷ get_or b 7 0 ∷ drop 8 b) (sym six)
    ∙ rw (
      cons_drop b 7 (omega arith),
      cons_drop b 6 (omega arith),
      cons_drop b 5 (omega arith),
      cons_drop b 4 (omega arith),
      cons_drop b 3 (omega arith),
      cons_drop b 2 (omega arith),
      cons_drop b 1 (omega arith),
      cons_drop b 0 (omega arith),
    )
