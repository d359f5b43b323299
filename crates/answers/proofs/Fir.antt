-- The FIR calls over a host's bytes: what any twenty bytes unpack to, as a host has it, packs to the same twenty. Assumes nothing.
use Prim.Native.Nat.{ℕ, zero, suc, ◌+◌, ◌^◌, ◌<◌, ◌≤◌}
use mathlib.Core.Path.{◌≡◌, refl, sym, ap, ◌∙◌}
use mathlib.Core.Bool.{Bool, true}
use mathlib.Core.List.{List, [], ◌∷◌, ◌++◌, map}
use native.Mathlib.Omega.{arith}
use borrow.Author.Tests.{lt-ltb, ltb-true}
use lib.IntN.{ℤ}
use lib.ListN.{length, take, drop, length-append, length-map, length-take, length-drop}
use lib.Pow.{are_bytes}
use lib.Seq.{sets, take_at, drop_at}
use lib.Signed.{mag}
use mir.Syntax.{w32}
use mir.Val.{of_z, to_z}
use mir.ValLaws.{of_z_fits}
use Rattle.wire.specs.Bytes.{le_bytes, le_value}
use Rattle.wire.proofs.Widths.{length-le_bytes, value_bytes}
use Rattle.refusals.specs.declared.Answer.TheVariants.{Done}
use Rattle.chip.proofs.Laws.{and_left, and_right}
use Rattle.fir.specs.declared.Packed.{Packed}
use Rattle.std.specs.List.{list_all}
use Rattle.fir.specs.Packing.{packed, signed_of, twos, unpack_of, within}
use Rattle.fir.proofs.Inverse.{unpack_pack}
use Rattle.fir.proofs.Lists.{cons}
use Rattle.fir.proofs.Widths.{kept, signed_within}
use Rattle.answers.specs.Lent.{pack_into, word_bytes, words_in}
use Rattle.refusals.specs.Lent.{given, lent_to}
use Rattle.answers.proofs.Giving.{packing}
use Rattle.refusals.proofs.Giving.{laid}
use Rattle.answers.proofs.Words.{length_words}

-- numbers that an i32 holds come back out of their bytes
words_back : (v : List ℤ) → list_all (within (2 ^ 31)) v ≡ true → words_in (length v) (word_bytes v) ≡ v
unfolding words_in word_bytes
words_back [] h = refl
words_back (z ∷ zs) h =
    let bs = le_bytes 4 (of_z w32 z) in
    let l : length bs ≡ 4 = length-le_bytes 4 (of_z w32 z) in
    let small : mag z < 2 ^ 31 = ltb-true (mag z) (2 ^ 31) (and_left (within (2 ^ 31) z) (list_all (within (2 ^ 31)) zs) h) in
    let value : le_value (take 4 (bs ++ word_bytes zs)) ≡ of_z w32 z =
    ap le_value (take_at bs (word_bytes zs) 4 l) ∙ value_bytes 4 (of_z w32 z) (of_z_fits w32 z (record { sfits = small })).fits in
    cons (ap (to_z w32) value ∙ kept z small)
    (ap (words_in (length zs)) (drop_at bs (word_bytes zs) 4 l) ∙ words_back zs (and_right (within (2 ^ 31) z) (list_all (within (2 ^ 31)) zs) h))

-- what is unpacked is sixteen of those
all_small : (half : ℕ) → 0 < half → half ≤ 2 ^ 31 → (l : List ℕ) → list_all (within (2 ^ 31)) (map (signed_of half) l) ≡ true
all_small half p m [] = refl
all_small half p m (x ∷ l) =
    let s : mag (signed_of half x) < half = ltb-true (mag (signed_of half x)) half (signed_within half x p) in
    simp (lt-ltb (mag (signed_of half x)) (2 ^ 31) (omega arith), all_small half p m l)

every_both : (p : ℤ → Bool) (xs ys : List ℤ) → list_all p xs ≡ true → list_all p ys ≡ true → list_all p (xs ++ ys) ≡ true
every_both p [] ys h k = k
every_both p (x ∷ xs) ys h k = rw (and_left (p x) (list_all p xs) h) (every_both p xs ys (and_right (p x) (list_all p xs) h) k)

unpacked_small : (b : List ℕ) → list_all (within (2 ^ 31)) (unpack_of b) ≡ true
unfolding unpack_of
unpacked_small b =
    every_both (within (2 ^ 31)) (map (signed_of 128) (take 8 b)) (map (signed_of 2048) (twos (drop 8 b)))
    (all_small 128 (omega arith) (omega arith) (take 8 b)) (all_small 2048 (omega arith) (omega arith) (twos (drop 8 b)))

length_twos : (n : ℕ) (l : List ℕ) → length l ≡ n + n + n → length (twos l) ≡ n + n
length_twos zero [] e = refl
length_twos zero (x ∷ l) e = absurd (omega arith)
length_twos (suc n) [] e = absurd (omega arith)
length_twos (suc n) (x ∷ []) e = absurd (omega arith)
length_twos (suc n) (x ∷ y ∷ []) e = absurd (omega arith)
length_twos (suc n) (x ∷ y ∷ z ∷ l) e =
    let r : length l ≡ n + n + n = omega arith in
    omega (arith, length_twos n l r)

unpacked_sixteen : (b : List ℕ) → length b ≡ 20 → length (unpack_of b) ≡ 16
unfolding unpack_of
unpacked_sixteen b e =
    let four : length (drop 8 b) ≡ 4 + 4 + 4 = omega (arith, length-drop 8 b) in
    omega (
      arith,
      length-append (map (signed_of 128) (take 8 b)) (map (signed_of 2048) (twos (drop 8 b))),
      length-map (take 8 b) (signed_of 128),
      length-map (twos (drop 8 b)) (signed_of 2048),
      length-take 8 b,
      length_twos 4 (drop 8 b) four,
    )

pub unpacked_back : (s out : List ℕ) → length s ≡ 20 → are_bytes s ≡ true → 20 ≤ length out
    → pack_into (word_bytes (unpack_of s)) out ≡ given (Done 0) (sets out 0 s)
unpacked_back s out n h l =
    let v = unpack_of s in
    let many : length v ≡ 16 = unpacked_sixteen s n in
    let wide : length (word_bytes v) ≡ 64 = omega (arith, length_words v) in
    let words : words_in 16 (word_bytes v) ≡ v = ap (λ (k : ℕ). words_in k (word_bytes v)) (sym many) ∙ words_back v (unpacked_small s) in
    sym (packing (word_bytes v) out wide)
    ∙ ap (λ (p : Packed). lent_to p.refusal 0 p.bytes out) (ap packed words ∙ unpack_pack s n h)
    ∙ sym (laid 0 0 s out refl (omega arith))
