-- What a run of stores leaves: a run in two parts, and one turn of each loop that stores bytes one after the other.
-- Assumes nothing.
use Prim.Native.Nat.{ℕ, suc, ◌+◌, ◌-◌, ◌/◌, ◌%◌, ◌<◌, ◌≤◌}
use mathlib.Core.Path.{◌≡◌, sym, ap, ◌∙◌}
use mathlib.Core.List.{List, [], ◌∷◌, ◌++◌, append_assoc}
use native.Mathlib.Omega.{arith}
use native.Mathlib.Nat.{add-suc, suc-add, add-zero}
use lib.ListN.{length, set}
use lib.Seq.{sets, drop-drop}
use borrow.Rule.Slice.PartMut.{put_mid}
use Rattle.std.proofs.lemmas.List.Edits.{sets-eq}
use Rattle.wire.specs.Bytes.{le_bytes}

pub sets_append : (l : List ℕ) (i : ℕ) (xs ys : List ℕ) → sets l i (xs ++ ys) ≡ sets (sets l i xs) (i + length xs) ys
sets_append l i [] ys = ap (λ (k : ℕ). sets l k ys) (sym (add-zero i))
sets_append l i (x ∷ xs) ys =
    sets_append (set l i x) (suc i) xs ys
    ∙ ap (λ (k : ℕ). sets (sets (set l i x) (suc i) xs) k ys) (suc-add i (length xs) ∙ sym (add-suc i (length xs)))

-- a turn of `put`: the lowest of the bytes that are left is stored
pub put_turn : (s : List ℕ) (at i k n : ℕ) → i < k
    → sets (set s (at + i) (n % 256)) (at + (i + 1)) (le_bytes (k - (i + 1)) (n / 256)) ≡ sets s (at + i) (le_bytes (k - i) n)
unfolding le_bytes
put_turn s at i k n h =
    let left : k - i ≡ suc (k - (i + 1)) = omega arith in
    let next : at + (i + 1) ≡ suc (at + i) = omega arith in
    rw (left, next)

-- the loops' first and last states
pub put_start : (s : List ℕ) (at k n : ℕ) → sets s (at + 0) (le_bytes (k - 0) n) ≡ sets s at (le_bytes k n)
put_start s at k n =
    let all : k - 0 ≡ k = omega arith in
    let here : at + 0 ≡ at = omega arith in
    rw (all, here)

pub put_end : (s : List ℕ) (at i k n : ℕ) → k ≤ i → s ≡ sets s (at + i) (le_bytes (k - i) n)
unfolding le_bytes
put_end s at i k n h =
    let none : k - i ≡ 0 = omega arith in
    rw none

-- a part of a list with another of its length in its place
pub copy_put : (at : ℕ) (l from : List ℕ) → at + length from ≤ length l → put_mid at (at + length from - at) l from ≡ sets l at from
copy_put at l from h =
    let many : at + length from - at ≡ length from = omega arith in
    rw (many, drop-drop, sets-eq from l at h, append_assoc)
