-- The bytes of a stream are exactly those that some pending part of at most eight bytes is kept as, and they are read back as it. Assumes nothing.
use Prim.Native.Nat.{ℕ, zero, suc, ◌+◌, ◌-◌, ◌≤◌}
use mathlib.Core.Path.{◌≡◌, refl, sym, ap, ap₂, ◌∙◌}
use mathlib.Core.Bool.{true}
use mathlib.Core.List.{List, [], ◌∷◌, ◌++◌}
use native.Mathlib.Omega.{arith}
use borrow.Author.Tests.{eq-eqb, le-leb}
use lib.ListN.{length, drop, get_or, replicate, length-append, length-replicate, length-drop, take-append-drop}
use lib.Seq.{take_at, drop_at, drop-cons, drop-drop, length-take-le}
use Rattle.wire.specs.Bytes.{le_value}
use Rattle.stream.specs.Pending.{is_stream, pending_of, stream_bytes}
use Rattle.stream.proofs.Laws.{stream_held, stream_length, stream_rest}

-- a number is 0 where all its bytes are
nought : (n : ℕ) → le_value (replicate n 0) ≡ 0
unfolding le_value
nought zero = refl
nought (suc n) = rw (nought n)

all_zeros : (bs : List ℕ) → le_value bs ≡ 0 → bs ≡ replicate (length bs) 0
unfolding le_value
all_zeros [] h = refl
all_zeros (b ∷ bs) h =
    let low : b ≡ 0 = omega arith in
    let high : le_value bs ≡ 0 = omega arith in
    ap₂ (λ (x : ℕ) (xs : List ℕ). x ∷ xs) low (all_zeros bs high)

one_more : (n : ℕ) → 1 + n ≡ suc n
one_more n = omega arith

-- what is kept is accepted, and its pending part comes back
pub kept : (p : List ℕ) → length p ≤ 8 → is_stream (stream_bytes p) ≡ true
unfolding is_stream
kept p h =
    let whole : length (stream_bytes p) ≡ 9 = simp (length-append, length-replicate) (omega arith) in
    let rest : drop (1 + length p) (stream_bytes p) ≡ replicate (8 - length p) 0 =
    ap (λ (k : ℕ). drop k (stream_bytes p)) (one_more (length p)) ∙ drop_at p (replicate (8 - length p) 0) (length p) refl in
    let zeros : le_value (drop (1 + length p) (stream_bytes p)) ≡ 0 = ap le_value rest ∙ nought (8 - length p) in
    rw (eq-eqb (length (stream_bytes p)) 9 whole, le-leb (length p) 8 h, eq-eqb (le_value (drop (1 + length p) (stream_bytes p))) 0 zeros)

pub back : (p : List ℕ) → pending_of (stream_bytes p) ≡ p
back p = take_at p (replicate (8 - length p) 0) (length p) refl

-- what is accepted is kept so
pub image : (b : List ℕ) → is_stream b ≡ true → b ≡ stream_bytes (pending_of b)
image b h =
    let whole : length b ≡ 9 = stream_length b h in
    let most : get_or b 0 0 ≤ 8 = stream_held b h in
    let first : b ≡ get_or b 0 0 ∷ drop 1 b = drop-cons b 0 0 (omega arith) in
    let count : length (pending_of b) ≡ get_or b 0 0 = length-take-le (get_or b 0 0) (drop 1 b) (simp length-drop (omega arith)) in
    let tail : drop (get_or b 0 0) (drop 1 b) ≡ drop (1 + get_or b 0 0) b = drop-drop (get_or b 0 0) 1 b in
    let size : length (drop (1 + get_or b 0 0) b) ≡ 8 - length (pending_of b) = simp length-drop (omega arith) in
    let zeros : drop (get_or b 0 0) (drop 1 b) ≡ replicate (8 - length (pending_of b)) 0 =
    tail ∙ all_zeros (drop (1 + get_or b 0 0) b) (stream_rest b h) ∙ ap (λ (n : ℕ). replicate n 0) size in
    first
    ∙ ap₂ (λ (n : ℕ) (xs : List ℕ). n ∷ xs) (sym count)
    (sym (take-append-drop (get_or b 0 0) (drop 1 b)) ∙ ap (λ (xs : List ℕ). pending_of b ++ xs) zeros)
