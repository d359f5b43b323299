-- The packer and the unpacker are each other's inverse: what was packed unpacks to the same sixteen, and any twenty bytes unpack to sixteen
-- in range that pack to the same bytes. Assumes nothing.
use mathlib.Core.Path.{◌≡◌, refl, ap, ◌∙◌}
use mathlib.Core.Bool.{Bool, true, false, ◌&&◌}
use mathlib.Core.List.{List, [], ◌∷◌, ◌++◌, map}
use Prim.Native.Nat.{ℕ, zero, suc, ◌+◌, ◌*◌, ◌/◌, ◌%◌, ◌<◌}
use native.Mathlib.Omega.{arith}
use borrow.Author.Tests.{ltb-true, lt-ltb}
use lib.Dec.{ltb, lit<}
use lib.IntN.{ℤ}
use lib.ListN.{length, take, drop, take-append-drop, length-map, length-take, length-drop}
use lib.Pow.{are_bytes}
use lib.Seq.{take_at, drop_at}
use Rattle.refusals.specs.Table.{COEFFICIENT}
use Rattle.fir.specs.declared.Packed.{Packed}
use Rattle.std.specs.List.{list_all}
use Rattle.fir.specs.Packing.{fir_fits, low_of, no_bytes, pack_of, packed, signed_of, threes, twos, unpack_of, within}
use Rattle.fir.proofs.Lists.{cons}
use Rattle.fir.proofs.Widths.{low_lt, low_signed, signed_low, signed_within}

and_left : (a b : Bool) → (a && b) ≡ true → a ≡ true
and_left true b h = refl
and_left false b h = h

and_right : (a b : Bool) → (a && b) ≡ true → b ≡ true
and_right true b h = h
and_right false b h = absurd (let z : ◌≡◌ {A = ℕ} 0 1 = cc in omega arith)

-- ---- packed, then unpacked

shorts : (l : List ℤ) → list_all (within 128) l ≡ true → map (signed_of 128) (map (low_of 128) l) ≡ l
shorts [] h = refl
shorts (z ∷ l) h = cons (signed_low 128 z (and_left (within 128 z) (list_all (within 128) l) h)) (shorts l (and_right (within 128 z) (list_all (within 128) l) h))

-- the first of two comes back out of the first two bytes, the second out of the last two
first_back : (a b : ℕ) → b < 4096 → a / 16 * 16 + (a % 16 * 16 + b / 256) / 16 ≡ a
first_back a b h = omega arith

second_back : (a b : ℕ) → b < 4096 → (a % 16 * 16 + b / 256) % 16 * 256 + b % 256 ≡ b
second_back a b h = omega arith

longs : (n : ℕ) (l : List ℤ) → length l ≡ n + n → list_all (within 2048) l ≡ true
    → map (signed_of 2048) (twos (threes (map (low_of 2048) l))) ≡ l
longs zero [] e h = refl
longs zero (y ∷ l) e h = absurd (omega arith)
longs (suc n) [] e h = absurd (omega arith)
longs (suc n) (y ∷ []) e h = absurd (omega arith)
longs (suc n) (y ∷ z ∷ l) e h =
    let i = and_right (within 2048 y) (within 2048 z && list_all (within 2048) l) h in
    let r : length l ≡ n + n = omega arith in
    let b : low_of 2048 z < 4096 = low_lt 2048 z (lit< tt) in
    cons (ap (signed_of 2048) (first_back (low_of 2048 y) (low_of 2048 z) b) ∙ signed_low 2048 y (and_left (within 2048 y) (within 2048 z && list_all (within 2048) l) h))
    (cons (ap (signed_of 2048) (second_back (low_of 2048 y) (low_of 2048 z) b) ∙ signed_low 2048 z (and_left (within 2048 z) (list_all (within 2048) l) i))
    (longs n l r (and_right (within 2048 z) (list_all (within 2048) l) i)))

packed_unpacked : (v : List ℤ) → length v ≡ 16 → fir_fits v ≡ true → unpack_of (pack_of v) ≡ v
unfolding pack_of unpack_of fir_fits
packed_unpacked v n h =
    let p = map (low_of 128) (take 8 v) in
    let q = threes (map (low_of 2048) (drop 8 v)) in
    let e : length p ≡ 8 = length-map (take 8 v) (low_of 128) ∙ omega (arith, length-take 8 v) in
    let d : length (drop 8 v) ≡ 4 + 4 = omega (arith, length-drop 8 v) in
    ap (λ (u : List ℕ). map (signed_of 128) u ++ map (signed_of 2048) (twos (drop 8 (p ++ q)))) (take_at p q 8 e)
    ∙ ap (λ (u : List ℕ). map (signed_of 128) p ++ map (signed_of 2048) (twos u)) (drop_at p q 8 e)
    ∙ ap (λ (u : List ℤ). u ++ map (signed_of 2048) (twos q)) (shorts (take 8 v) (and_left (list_all (within 128) (take 8 v)) (list_all (within 2048) (drop 8 v)) h))
    ∙ ap (λ (u : List ℤ). take 8 v ++ u) (longs 4 (drop 8 v) d (and_right (list_all (within 128) (take 8 v)) (list_all (within 2048) (drop 8 v)) h))
    ∙ take-append-drop 8 v

-- ---- unpacked, then packed

module _ (x : ℕ) (l : List ℕ) (h : are_bytes (x ∷ l) ≡ true) where
  head_lt : x < 256
  head_lt = ltb-true x 256 (and_left (ltb x 256) (are_bytes l) h)

  tail_bytes : are_bytes l ≡ true
  tail_bytes = and_right (ltb x 256) (are_bytes l) h

bytes_take : (n : ℕ) (l : List ℕ) → are_bytes l ≡ true → are_bytes (take n l) ≡ true
bytes_take zero l h = refl
bytes_take (suc n) [] h = refl
bytes_take (suc n) (x ∷ l) h = simp (lt-ltb x 256 (head_lt x l h), bytes_take n l (tail_bytes x l h))

bytes_drop : (n : ℕ) (l : List ℕ) → are_bytes l ≡ true → are_bytes (drop n l) ≡ true
bytes_drop zero l h = h
bytes_drop (suc n) [] h = refl
bytes_drop (suc n) (x ∷ l) h = bytes_drop n l (tail_bytes x l h)

shorts_packed : (l : List ℕ) → are_bytes l ≡ true → map (low_of 128) (map (signed_of 128) l) ≡ l
shorts_packed [] h = refl
shorts_packed (x ∷ l) h = cons (low_signed 128 x (head_lt x l h)) (shorts_packed l (tail_bytes x l h))

longs_packed : (n : ℕ) (l : List ℕ) → length l ≡ n + n + n → are_bytes l ≡ true
    → threes (map (low_of 2048) (map (signed_of 2048) (twos l))) ≡ l
longs_packed zero [] e h = refl
longs_packed zero (x ∷ l) e h = absurd (omega arith)
longs_packed (suc n) [] e h = absurd (omega arith)
longs_packed (suc n) (x ∷ []) e h = absurd (omega arith)
longs_packed (suc n) (x ∷ y ∷ []) e h = absurd (omega arith)
longs_packed (suc n) (x ∷ y ∷ z ∷ l) e h =
    let r : length l ≡ n + n + n = omega arith in
    let i = tail_bytes x (y ∷ z ∷ l) h in
    let j = tail_bytes y (z ∷ l) i in
    let x8 : x < 256 = head_lt x (y ∷ z ∷ l) h in
    let y8 : y < 256 = head_lt y (z ∷ l) i in
    let z8 : z < 256 = head_lt z l j in
    let a : low_of 2048 (signed_of 2048 (x * 16 + y / 16)) ≡ x * 16 + y / 16 = low_signed 2048 (x * 16 + y / 16) (omega arith) in
    let b : low_of 2048 (signed_of 2048 (y % 16 * 256 + z)) ≡ y % 16 * 256 + z = low_signed 2048 (y % 16 * 256 + z) (omega arith) in
    cons (ap (λ (m : ℕ). m / 16) a ∙ omega arith)
    (cons ((λ i. a i % 16 * 16 + b i / 256) ∙ omega arith)
    (cons (ap (λ (m : ℕ). m % 256) b ∙ omega arith)
    (longs_packed n l r (tail_bytes z l j))))

unpacked_packed : (b : List ℕ) → length b ≡ 20 → are_bytes b ≡ true → pack_of (unpack_of b) ≡ b
unfolding pack_of unpack_of
unpacked_packed b n h =
    let p = map (signed_of 128) (take 8 b) in
    let q = map (signed_of 2048) (twos (drop 8 b)) in
    let e : length p ≡ 8 = length-map (take 8 b) (signed_of 128) ∙ omega (arith, length-take 8 b) in
    let d : length (drop 8 b) ≡ 4 + 4 + 4 = omega (arith, length-drop 8 b) in
    ap (λ (u : List ℤ). map (low_of 128) u ++ threes (map (low_of 2048) (drop 8 (p ++ q)))) (take_at p q 8 e)
    ∙ ap (λ (u : List ℤ). map (low_of 128) p ++ threes (map (low_of 2048) u)) (drop_at p q 8 e)
    ∙ ap (λ (u : List ℕ). u ++ threes (map (low_of 2048) q)) (shorts_packed (take 8 b) (bytes_take 8 b h))
    ∙ ap (λ (u : List ℕ). take 8 b ++ u) (longs_packed 4 (drop 8 b) d (bytes_drop 8 b h))
    ∙ take-append-drop 8 b

all_signed : (half : ℕ) → 0 < half → (l : List ℕ) → list_all (within half) (map (signed_of half) l) ≡ true
all_signed half h [] = refl
all_signed half h (x ∷ l) = simp (signed_within half x h, all_signed half h l)

unpacked_fits : (b : List ℕ) → length b ≡ 20 → fir_fits (unpack_of b) ≡ true
unfolding fir_fits unpack_of
unpacked_fits b n =
    let p = map (signed_of 128) (take 8 b) in
    let q = map (signed_of 2048) (twos (drop 8 b)) in
    let e : length p ≡ 8 = length-map (take 8 b) (signed_of 128) ∙ omega (arith, length-take 8 b) in
    ap (λ (u : List ℤ). list_all (within 128) u && list_all (within 2048) (drop 8 (p ++ q))) (take_at p q 8 e)
    ∙ ap (λ (u : List ℤ). list_all (within 128) p && list_all (within 2048) u) (drop_at p q 8 e)
    ∙ simp (all_signed 128 (lit< tt) (take 8 b), all_signed 2048 (lit< tt) (twos (drop 8 b)))

-- ---- the same of the packer's answer, by which its contract speaks

pub packed_in : (v : List ℤ) → fir_fits v ≡ true → packed v ≡ record { refusal = 0; bytes = pack_of v }
unfolding packed
packed_in v h = simp h

pub packed_out : (v : List ℤ) → fir_fits v ≡ false → packed v ≡ record { refusal = COEFFICIENT; bytes = no_bytes }
unfolding packed
packed_out v h = simp h

-- any sixteen in range come back
pub pack_unpack : (v : List ℤ) → length v ≡ 16 → fir_fits v ≡ true → unpack_of (packed v).bytes ≡ v
pack_unpack v n h = ap (λ (p : Packed). unpack_of p.bytes) (packed_in v h) ∙ packed_unpacked v n h

-- any twenty bytes come back, and none are refused
pub unpack_pack : (b : List ℕ) → length b ≡ 20 → are_bytes b ≡ true → packed (unpack_of b) ≡ record { refusal = 0; bytes = b }
unpack_pack b n h = packed_in (unpack_of b) (unpacked_fits b n) ∙ (λ i. record { refusal = 0; bytes = unpacked_packed b n h i })
