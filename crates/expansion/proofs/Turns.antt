-- A loop over a section's entries: what one turn does to the entries that are left, their size and their packets.
-- Assumes nothing.
use Prim.Native.Nat.{ℕ, zero, suc, ◌+◌, ◌-◌, ◌*◌, ◌<◌, ◌≤◌}
use mathlib.Core.Path.{◌≡◌, refl, sym, ap, ◌∙◌, subst}
use mathlib.Core.List.{List, [], ◌∷◌}
use mathlib.Core.Bool.{Bool, true, false, ◌&&◌}
use native.Mathlib.Omega.{arith}
use lib.Dec.{eqb}
use lib.ListN.{length, get_or, take, drop, length-append}
use lib.Seq.{sets, drop-drop}
use Rattle.wire.proofs.Stores.{sets_append}
use Rattle.transcript.specs.declared.Entry.{Entry}
use Rattle.transcript.specs.Entries.{entry_of, entry_fits, fits}
use Rattle.transcript.specs.Sections.{all_fit, entries_in}
use Rattle.transcript.proofs.Reading.{both}
use Rattle.transcript.proofs.Rows.{row_of}
use Rattle.packets.specs.Packets.{expands, packets_of}
use Rattle.packets.proofs.Begins.{most_bytes}
use Rattle.std.specs.Prelude.{Some, None}
use Rattle.expansion.specs.Expansion.{all_expand, expanded, size_of}

-- each of entries that fit does
fits_at : (k i : ℕ) (l : List ℕ) → i < k → all_fit k l ≡ true → fits (take 16 (drop (16 * i) l)) ≡ true
unfolding all_fit
fits_at zero i l h f = absurd (omega arith)
fits_at (suc k) zero l h f = (both (fits (take 16 l)) (all_fit k (drop 16 l)) f).0
fits_at (suc k) (suc i) l h f =
    let next : 16 * suc i ≡ 16 + 16 * i = omega arith in
    let less : i < k = omega arith in
    rw (next, ← drop-drop (16 * i) 16 l) (fits_at k i (drop 16 l) less (both (fits (take 16 l)) (all_fit k (drop 16 l)) f).1)

fits_entry : (b : List ℕ) → fits b ≡ true → entry_fits (entry_of b) ≡ true
unfolding fits
fits_entry b h = (both (eqb (get_or b 6 0) 0 && eqb (get_or b 7 0) 0) (entry_fits (entry_of b)) h).1

-- the entries from the i-th on
abbrev pub left : List ℕ → ℕ → ℕ → ℕ → List Entry
left s start count i = entries_in (count - i) (drop (start + 16 * i) s)

module _ (s : List ℕ) (start count : ℕ) where
  pub left_all : left s start count 0 ≡ entries_in count (drop start s)
  left_all =
      let all : count - 0 ≡ count = omega arith in
      let here : start + 16 * 0 ≡ start = omega arith in
      rw (all, here)

  pub left_none : (i : ℕ) → count ≤ i → left s start count i ≡ []
  unfolding entries_in
  left_none i h =
      let none : count - i ≡ 0 = omega arith in
      rw none

  module _ (i : ℕ) (h : i < count) (e : Entry) (is : e ≡ entry_of (take 16 (drop (start + 16 * i) s))) where
    turn : left s start count i ≡ e ∷ left s start count (i + 1)
    unfolding entries_in
    turn =
        let more : count - i ≡ suc (count - (i + 1)) = omega arith in
        let next : start + 16 * (i + 1) ≡ start + 16 * i + 16 = omega arith in
        rw (more, next, ← drop-drop 16 (start + 16 * i) s, is)

    pub good : all_fit count (drop start s) ≡ true → entry_fits e ≡ true
    good f =
        subst (λ (u : Entry). entry_fits u ≡ true) (sym is)
        (fits_entry (take 16 (drop (start + 16 * i) s)) (rw (← drop-drop (16 * i) start s) (fits_at count i (drop start s) h f)))

    pub few : all_fit count (drop start s) ≡ true → e.n ≤ 8
    few f = (row_of e (good f)).n

    pub stops : (t : Bool) → t ≡ expands e → t ≡ false → all_expand (left s start count i) ≡ false
    unfolding all_expand
    stops t q f = rw (turn, ← q, f)

    pub goes : (t : Bool) → t ≡ expands e → t ≡ true → all_expand (left s start count (i + 1)) ≡ all_expand (left s start count i)
    unfolding all_expand
    goes t q f = rw (turn, ← q, f)

    pub grows : (k : ℕ) → k ≡ length (packets_of e) → k + length (expanded (left s start count (i + 1))) ≡ length (expanded (left s start count i))
    unfolding expanded
    grows k q = rw (turn, length-append (packets_of e) (expanded (left s start count (i + 1))), q)

    pub within : (t : Bool) (k : ℕ) → all_fit count (drop start s) ≡ true → t ≡ expands e → t ≡ true → k ≡ length (packets_of e) → k ≤ 18
    within t k f q v r = omega (arith, most_bytes e (eqb e.kind 9) refl (good f) (sym q ∙ v), r)

    pub stores : (out next : List ℕ) (at k : ℕ) → next ≡ sets out at (packets_of e) → k ≡ length (packets_of e)
        → sets next (at + k) (expanded (left s start count (i + 1))) ≡ sets out at (expanded (left s start count i))
    unfolding expanded
    stores out next at k p q =
        rw (turn, sets_append out at (packets_of e) (expanded (left s start count (i + 1))), p, q)

  -- the loops' ends
  pub refused : (i : ℕ) → all_expand (left s start count i) ≡ all_expand (entries_in count (drop start s)) → all_expand (left s start count i) ≡ false
      → None ≡ size_of (entries_in count (drop start s))
  unfolding size_of
  refused i p q = rw (← p, q)

  pub ended : (i size : ℕ) → count ≤ i → all_expand (left s start count i) ≡ all_expand (entries_in count (drop start s))
      → size + length (expanded (left s start count i)) ≡ length (expanded (entries_in count (drop start s))) → Some size ≡ size_of (entries_in count (drop start s))
  unfolding size_of all_expand expanded
  ended i size h p q =
      let none : left s start count i ≡ [] = left_none i h in
      let all : all_expand (entries_in count (drop start s)) ≡ true = sym p ∙ ap all_expand none in
      let long : size ≡ length (expanded (entries_in count (drop start s))) = omega (arith, q, ap (λ (es : List Entry). length (expanded es)) none) in
      rw (all, ← long)

  pub stored : (i at : ℕ) (out : List ℕ) → count ≤ i → out ≡ sets out at (expanded (left s start count i))
  unfolding expanded
  stored i at out h = rw (left_none i h)
