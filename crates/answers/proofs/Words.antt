-- Signed numbers as bytes: how many there are, and a turn of the loop that stores them and of the one that reads them, with its first and last state.
-- Assumes nothing.
use Prim.Native.Nat.{ℕ, suc, ◌+◌, ◌-◌, ◌*◌, ◌<◌, ◌≤◌}
use mathlib.Core.Path.{◌≡◌, refl, sym, ap, ◌∙◌}
use mathlib.Core.List.{List, [], ◌∷◌, ◌++◌, append_assoc, append-nil}
use native.Mathlib.Omega.{arith}
use native.Mathlib.Numerals.{add-one}
use lib.IntN.{ℤ, pos}
use lib.ListN.{length, get_or, set, take, drop, drop_of_length-le, length-append}
use lib.Seq.{sets, drop-cons, take-suc-set, take_all, drop-drop}
use mir.Syntax.{w32}
use mir.Val.{of_z, to_z}
use Rattle.answers.specs.Lent.{word_bytes, words_in}
use Rattle.wire.specs.Bytes.{le_bytes, le_value}
use Rattle.wire.proofs.Stores.{sets_append}
use Rattle.wire.proofs.Widths.{length-le_bytes}

pub length_words : (v : List ℤ) → length (word_bytes v) ≡ 4 * length v
unfolding word_bytes
length_words [] = refl
length_words (z ∷ zs) = length-append (le_bytes 4 (of_z w32 z)) (word_bytes zs) ∙ omega (arith, length-le_bytes 4 (of_z w32 z), length_words zs)

pub put_turn : (s : List ℕ) (v : List ℤ) (i : ℕ) → i < length v
    → sets (sets s (4 * i) (le_bytes 4 (of_z w32 (get_or v i (pos 0))))) (4 * (i + 1)) (word_bytes (drop (i + 1) v)) ≡ sets s (4 * i) (word_bytes (drop i v))
unfolding word_bytes
put_turn s v i h =
    let n = of_z w32 (get_or v i (pos 0)) in
    let next : 4 * (i + 1) ≡ 4 * i + length (le_bytes 4 n) = omega (arith, length-le_bytes 4 n) in
    ap (λ (k : ℕ). sets (sets s (4 * i) (le_bytes 4 n)) k (word_bytes (drop (i + 1) v))) next
    ∙ sym (sets_append s (4 * i) (le_bytes 4 n) (word_bytes (drop (i + 1) v)))
    ∙ ap (λ (k : ℕ). sets s (4 * i) (le_bytes 4 n ++ word_bytes (drop k v))) (add-one i)
    ∙ ap (λ (l : List ℤ). sets s (4 * i) (word_bytes l)) (sym (drop-cons v i (pos 0) h))

pub put_end : (s : List ℕ) (v : List ℤ) (i : ℕ) → length v ≤ i → s ≡ sets s (4 * i) (word_bytes (drop i v))
unfolding word_bytes
put_end s v i h = rw (drop_of_length-le v h)

pub read_turn : (s : List ℕ) (v : List ℤ) (i : ℕ) → i < 16 → i < length v
    → take (i + 1) (set v i (to_z w32 (le_value (take 4 (drop (4 * i) s))))) ++ words_in (16 - (i + 1)) (drop (4 * (i + 1)) s)
    ≡ take i v ++ words_in (16 - i) (drop (4 * i) s)
unfolding words_in
read_turn s v i h l =
    let z = to_z w32 (le_value (take 4 (drop (4 * i) s))) in
    let more : 16 - i ≡ suc (16 - (i + 1)) = omega arith in
    let next : 4 * (i + 1) ≡ 4 * i + 4 = omega arith in
    ap (λ (k : ℕ). take k (set v i z) ++ words_in (16 - (i + 1)) (drop (4 * (i + 1)) s)) (add-one i)
    ∙ ap (λ (u : List ℤ). u ++ words_in (16 - (i + 1)) (drop (4 * (i + 1)) s)) (take-suc-set v i z l)
    ∙ append_assoc (take i v) (z ∷ []) (words_in (16 - (i + 1)) (drop (4 * (i + 1)) s))
    ∙ ap (λ (k : ℕ). take i v ++ z ∷ words_in (16 - (i + 1)) (drop k s)) next
    ∙ ap (λ (u : List ℕ). take i v ++ z ∷ words_in (16 - (i + 1)) u) (sym (drop-drop 4 (4 * i) s))
    ∙ ap (λ (k : ℕ). take i v ++ words_in k (drop (4 * i) s)) (sym more)

pub read_end : (s : List ℕ) (v : List ℤ) (i : ℕ) → length v ≡ 16 → i ≤ 16 → 16 ≤ i → v ≡ take i v ++ words_in (16 - i) (drop (4 * i) s)
unfolding words_in
read_end s v i n a b =
    let none : 16 - i ≡ 0 = omega arith in
    sym (ap (λ (k : ℕ). take i v ++ words_in k (drop (4 * i) s)) none ∙ append-nil (take i v) ∙ take_all i v (omega arith))
