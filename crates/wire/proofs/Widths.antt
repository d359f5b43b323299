-- One law each way between a number and its bytes, over the width; the length of a number's bytes; the bound of a value.
-- Assumes nothing.
use Prim.Native.Nat.{ℕ, zero, suc, ◌+◌, ◌-◌, ◌*◌, ◌/◌, ◌%◌, ◌^◌, ◌<◌, ◌≤◌}
use mathlib.Core.Path.{◌≡◌, refl, ap, ◌∙◌}
use mathlib.Core.List.{List, [], ◌∷◌}
use native.Mathlib.Omega.{arith}
use native.Mathlib.Nat.{add_assoc, pow-succ', pow-le-pow_right}
use lib.ListN.{length, get_or, take, drop, length-take, length-drop}
use lib.Seq.{drop-cons, get_or-drop}
use Rattle.wire.specs.Bytes.{le_value, le_bytes, Bytes}

pub length-le_bytes : (k n : ℕ) → length (le_bytes k n) ≡ k
unfolding le_bytes
length-le_bytes zero n = refl
length-le_bytes (suc k) n = ap suc (length-le_bytes k (n / 256))

pub le_bytes-bytes : (k n : ℕ) → Bytes (le_bytes k n)
unfolding le_bytes
le_bytes-bytes zero n i = omega arith
le_bytes-bytes (suc k) n zero = omega arith
le_bytes-bytes (suc k) n (suc i) = le_bytes-bytes k (n / 256) i

pub le_value-below : (bs : List ℕ) → Bytes bs → le_value bs < 256 ^ length bs
unfolding le_value
le_value-below [] h = omega arith
le_value-below (b ∷ bs) h =
    let here : b < 256 = h 0 in
    let rest : le_value bs < 256 ^ length bs = le_value-below bs (λ i. h (suc i)) in
    rw (pow-succ' 256 (length bs)) (omega arith)

-- every number below 256 to the k is read back from its k bytes
pub value_bytes : (k n : ℕ) → n < 256 ^ k → le_value (le_bytes k n) ≡ n
unfolding le_value le_bytes
value_bytes zero n h = omega arith
value_bytes (suc k) n h =
    let wide : n < 256 * 256 ^ k = rw pow-succ' at h in
    let rest : le_value (le_bytes k (n / 256)) ≡ n / 256 = value_bytes k (n / 256) (omega arith) in
    omega arith

-- all bytes are the bytes of their value
pub bytes_value : (bs : List ℕ) → Bytes bs → le_bytes (length bs) (le_value bs) ≡ bs
unfolding le_value le_bytes
bytes_value [] h = refl
bytes_value (b ∷ bs) h =
    let here : b < 256 = h 0 in
    let low : (b + 256 * le_value bs) % 256 ≡ b = omega arith in
    let high : (b + 256 * le_value bs) / 256 ≡ le_value bs = omega arith in
    rw (low, high, bytes_value bs (λ i. h (suc i)))

-- a turn of `get`, which goes from the highest byte down: the value of one byte more
pub get_turn : (s : List ℕ) (at i k : ℕ) → 0 < i → i ≤ k → at + k ≤ length s
    → le_value (take (k - i) (drop (at + i) s)) * 256 + get_or s (at + (i - 1)) 0 ≡ le_value (take (k - (i - 1)) (drop (at + (i - 1)) s))
unfolding le_value
get_turn s at i k pos le fits =
    let more : k - (i - 1) ≡ suc (k - i) = omega arith in
    let next : suc (at + (i - 1)) ≡ at + i = omega arith in
    let here : at + (i - 1) < length s = omega arith in
    rw (more, drop-cons s (at + (i - 1)) 0 here, next) (omega arith)

-- and its bound
pub get_below : (n b i k : ℕ) → 0 < i → i ≤ k → n < 256 ^ (k - i) → b < 256 → n * 256 + b < 256 ^ (k - (i - 1))
get_below n b i k pos le h byte =
    let more : k - (i - 1) ≡ suc (k - i) = omega arith in
    rw (more, pow-succ') (omega arith)

-- which at most eight bytes keep within 64 bits, whatever the next byte is
pub get_fits : (n i k : ℕ) → 0 < i → i ≤ k → k ≤ 8 → n < 256 ^ (k - i) → n * 256 + 255 < 2 ^ 64
get_fits n i k pos le most h =
    let under : n * 256 + 255 < 256 ^ (k - (i - 1)) = get_below n 255 i k pos le h (omega arith) in
    let top : 256 ^ (k - (i - 1)) ≤ 256 ^ 8 = pow-le-pow_right {n = 256} (omega arith) {i = k - (i - 1)} {j = 8} (omega arith) in
    omega arith

-- the loop's first and last states
pub get_start : (s : List ℕ) (at k : ℕ) → (0 ≡ le_value (take (k - k) (drop (at + k) s))) × (0 < 256 ^ (k - k))
unfolding le_value
get_start s at k =
    let none : k - k ≡ 0 = omega arith in
    rw none (refl, omega arith)

pub get_end : (s : List ℕ) (at i k n : ℕ) → i ≤ 0 → n ≡ le_value (take (k - i) (drop (at + i) s)) → n < 256 ^ (k - i)
    → (n ≡ le_value (take k (drop at s))) × (n < 256 ^ k)
get_end s at i k n h e b =
    let all : k - i ≡ k = omega arith in
    let here : at + i ≡ at = omega arith in
    (rw (all, here) at e, rw all at b)

-- parts of bytes are bytes
pub bytes_drop : (n : ℕ) (bs : List ℕ) → Bytes bs → Bytes (drop n bs)
bytes_drop n bs h i = rw (get_or-drop n bs i 0) (h (n + i))

pub bytes_take : (n : ℕ) (bs : List ℕ) → Bytes bs → Bytes (take n bs)
bytes_take zero bs h i = omega arith
bytes_take (suc n) [] h i = omega arith
bytes_take (suc n) (b ∷ bs) h zero = h 0
bytes_take (suc n) (b ∷ bs) h (suc i) = bytes_take n bs (λ j. h (suc j)) i

-- ---- a number that stands in k bytes of a list

pub one_number : (k at : ℕ) (b : List ℕ) → Bytes b → at + k ≤ length b → le_bytes k (le_value (take k (drop at b))) ≡ take k (drop at b)
one_number k at b bytes h =
    let size : length (take k (drop at b)) ≡ k = length-take k (drop at b) ∙ omega (arith, length-drop at b) in
    rw size at (bytes_value (take k (drop at b)) (bytes_take k (drop at b) (bytes_drop at b bytes)))

pub one_below : (k at : ℕ) (b : List ℕ) → Bytes b → at + k ≤ length b → le_value (take k (drop at b)) < 256 ^ k
one_below k at b bytes h =
    let size : length (take k (drop at b)) ≡ k = length-take k (drop at b) ∙ omega (arith, length-drop at b) in
    rw size at (le_value-below (take k (drop at b)) (bytes_take k (drop at b) (bytes_drop at b bytes)))

pub one_long : (k at : ℕ) (b : List ℕ) → at + k ≤ length b → length (take k (drop at b)) ≡ k
one_long k at b h = length-take k (drop at b) ∙ omega (arith, length-drop at b)

-- four bytes at the start of a part, one by one
spelt : (k i j : ℕ) (s : List ℕ) → i < length s → suc i ≡ j → take (suc k) (drop i s) ≡ get_or s i 0 ∷ take k (drop j s)
spelt k i j s h next = rw (drop-cons s i 0 h, next)

pub four_spelt : (k at : ℕ) (s : List ℕ) → at + 4 ≤ length s
    → take (suc (suc (suc (suc k)))) (drop at s) ≡ get_or s at 0 ∷ get_or s (at + 1) 0 ∷ get_or s (at + 2) 0 ∷ get_or s (at + 3) 0 ∷ take k (drop (at + 4) s)
four_spelt k at s h =
    spelt (suc (suc (suc k))) at (at + 1) s (omega arith) (omega arith)
    ∙ ap (λ l. get_or s at 0 ∷ l) (spelt (suc (suc k)) (at + 1) (at + 2) s (omega arith) (omega arith))
    ∙ ap (λ l. get_or s at 0 ∷ get_or s (at + 1) 0 ∷ l) (spelt (suc k) (at + 2) (at + 3) s (omega arith) (omega arith))
    ∙ ap (λ l. get_or s at 0 ∷ get_or s (at + 1) 0 ∷ get_or s (at + 2) 0 ∷ l) (spelt k (at + 3) (at + 4) s (omega arith) (omega arith))

pub eight_spelt : (at : ℕ) (s : List ℕ) → at + 8 ≤ length s
    → take 8 (drop at s)
    ≡ get_or s at 0 ∷ get_or s (at + 1) 0 ∷ get_or s (at + 2) 0 ∷ get_or s (at + 3) 0
    ∷ get_or s (at + 4) 0 ∷ get_or s (at + 5) 0 ∷ get_or s (at + 6) 0 ∷ get_or s (at + 7) 0 ∷ []
eight_spelt at s h =
    four_spelt 4 at s (omega arith)
    ∙ ap (λ l. get_or s at 0 ∷ get_or s (at + 1) 0 ∷ get_or s (at + 2) 0 ∷ get_or s (at + 3) 0 ∷ l) (simp add_assoc at (four_spelt 0 (at + 4) s (omega arith)))
