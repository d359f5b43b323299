-- An entry that is judged by numbers of several bytes: its data as one number, and its address with the two zeros behind it as one.
-- Assumes nothing.
use Prim.Native.Nat.{ℕ, zero, suc, ◌+◌, ◌*◌, ◌/◌, ◌%◌, ◌-◌, ◌^◌, ◌<◌, ◌≤◌}
use mathlib.Core.Path.{◌≡◌, refl, sym, ap, ◌∙◌}
use mathlib.Core.List.{List, [], ◌∷◌}
use mathlib.Core.Bool.{Bool, true, false, ◌&&◌, and-true, and-false}
use native.Mathlib.Omega.{arith}
use lib.Dec.{eqb, leb}
use lib.Pow.{shr_lt, shr-shr}
use borrow.Author.Tests.{eq-eqb, ne_eqb, eqb-true, eqb-false, lt-leb, le-leb}
use lib.ListN.{length, get_or, take, drop, drop_of_length-le}
use lib.Seq.{get_or-take, get_or-drop}
use Rattle.wire.specs.Bytes.{le_bytes, le_value, Bytes}
use Rattle.wire.proofs.Widths.{length-le_bytes, four_spelt, one_number, one_long}
use Rattle.transcript.specs.Table.{row_fits, address_most}
use Rattle.transcript.specs.Entries.{entry_of, zeros, kept_by, entry_fits, fits}
use Rattle.transcript.proofs.Rows.{address_most_lem}

-- ---- a line of the table

-- tests that any byte passes need not be made
pub any_byte : (x low high address : Bool) (t b : ℕ) → t < 256 → b < 256
    → x && low && high && address ≡ x && leb t 255 && low && high && address && leb b 255
any_byte x low high address t b target first = rw (le-leb t 255 (omega arith), le-leb b 255 (omega arith), and-true x, and-true)

-- nor the least n of a line that has none
pub any_least : (x high address first : Bool) (n : ℕ) → x && high && address && first ≡ x && leb 0 n && high && address && first
any_least x high address first n = rw (le-leb 0 n (omega arith), and-true)

-- a kind that is none of the lines: one test after the other
pub beyond : (i k : ℕ) → i < k → (k ≡ suc i → ⊥) → suc i < k
beyond i k h other = omega arith

pub no_line : (k o t n a b : ℕ) → (0 < k → 9 < k) → false ≡ row_fits k o t n a b
unfolding row_fits
no_line zero o t n a b h = refl
no_line (suc k) o t n a b h = rw (lt-leb (suc k) 9 (h (omega arith)))

-- ---- data with zeros behind them

some_byte : (x : ℕ) (t : Bool) → eqb (x % 256) 0 ≡ t → (x ≡ 0 → ⊥) → false ≡ t && eqb (x / 256) 0
some_byte x false h some = refl
some_byte x true h some = rw (ne_eqb (x / 256) 0 (λ z. some (omega (arith, eqb-true (x % 256) 0 h))))

halves : (x : ℕ) (t : Bool) → eqb x 0 ≡ t → t ≡ eqb (x % 256) 0 && eqb (x / 256) 0
halves x true h =
    let none : x ≡ 0 = eqb-true x 0 h in
    rw (eq-eqb (x % 256) 0 (omega arith), eq-eqb (x / 256) 0 (omega arith))
halves x false h = some_byte x (eqb (x % 256) 0) refl (eqb-false x 0 h)

zeros_number : (k x : ℕ) → x < 2 ^ (8 * k) → eqb x 0 ≡ zeros (le_bytes k x)
unfolding zeros le_bytes
zeros_number zero x h = eq-eqb x 0 (omega arith)
zeros_number (suc k) x h =
    let more : 8 * suc k ≡ 8 * k + 8 = omega arith in
    let rest : eqb (x / 256) 0 ≡ zeros (le_bytes k (x / 256)) = zeros_number k (x / 256) (shr_lt (8 * k) 8 (rw more at h)) in
    halves x (eqb x 0) refl ∙ ap (λ t. eqb (x % 256) 0 && t) rest

bytes_from : (m k d : ℕ) → le_bytes k (d / 2 ^ (8 * m)) ≡ drop m (le_bytes (m + k) d)
unfolding le_bytes
bytes_from zero k d =
    let one : d / 2 ^ (8 * 0) ≡ d = omega arith in
    let none : 0 + k ≡ k = omega arith in
    rw (one, none)
bytes_from (suc m) k d =
    let more : suc m + k ≡ suc (m + k) = omega arith in
    let eight : 8 * suc m ≡ 8 + 8 * m = omega arith in
    ap (le_bytes k) (ap (λ x. d / 2 ^ x) eight ∙ sym (shr-shr d 8 (8 * m))) ∙ bytes_from m k (d / 256) ∙ rw more

pub all_kept : (d kept : ℕ) → 7 < kept → true ≡ zeros (drop kept (le_bytes 8 d))
unfolding zeros
all_kept d kept h =
    let none : length (le_bytes 8 d) ≤ kept = omega (arith, length-le_bytes 8 d) in
    rw (drop_of_length-le (le_bytes 8 d) none)

pub some_kept : (d kept : ℕ) → kept ≤ 7 → d < 2 ^ 64 → eqb (d / 2 ^ (8 * kept)) 0 ≡ zeros (drop kept (le_bytes 8 d))
some_kept d kept h fit =
    let rest : kept + (8 - kept) ≡ 8 = omega arith in
    let wide : 8 * (8 - kept) + 8 * kept ≡ 64 = omega arith in
    zeros_number (8 - kept) (d / 2 ^ (8 * kept)) (shr_lt (8 * (8 - kept)) (8 * kept) (rw wide fit))
    ∙ ap zeros (bytes_from kept (8 - kept) d ∙ ap (λ x. drop kept (le_bytes x d)) rest)

-- ---- the address and the two zeros

too_wide : (k o t n a b : ℕ) → 65535 < a → row_fits k o t n a b ≡ false
unfolding row_fits
too_wide k o t n a b h = rw (lt-leb a (get_or address_most k 0) (omega (arith, address_most_lem k)), and-false)

zeros_behind : (k o t n b low x y a : ℕ) → a ≡ low + 0x10000 * (x + 256 * y) → row_fits k o t n a b ≡ eqb x 0 && eqb y 0 && row_fits k o t n low b
zeros_behind k o t n b low zero zero a h =
    let same : a ≡ low = omega arith in
    rw same
zeros_behind k o t n b low zero (suc y) a h = rw (too_wide k o t n a b (omega arith), ne_eqb (suc y) 0 (λ z. omega arith))
zeros_behind k o t n b low (suc x) y a h = rw (too_wide k o t n a b (omega arith), ne_eqb (suc x) 0 (λ z. omega arith))

assoc : (x y z : Bool) → x && y && z ≡ x && (y && z)
assoc true y z = refl
assoc false y z = refl

-- ---- the tests that the code makes are those of `fits`

spelt_fits : (k o t n p q x y a d : ℕ) (bs : List ℕ) → a ≡ le_value (p ∷ q ∷ x ∷ y ∷ []) → length bs ≡ 8 → le_bytes 8 d ≡ bs
    → row_fits k o t n a (get_or bs 0 0) && zeros (drop (kept_by k o n) (le_bytes 8 d)) ≡ fits (k ∷ o ∷ t ∷ n ∷ p ∷ q ∷ x ∷ y ∷ bs)
unfolding fits entry_fits entry_of le_value
spelt_fits k o t n p q x y a d bs whole long same =
    rw (
      zeros_behind k o t n (get_or bs 0 0) (p + 256 * (q + 256 * 0)) x y a (omega arith),
      same,
      eq-eqb (length bs) 8 long,
      and-true,
      assoc (eqb x 0 && eqb y 0),
    )

pub words_fit : (s : List ℕ) (at a d : ℕ) → Bytes s → at + 16 ≤ length s → a ≡ le_value (take 4 (drop (at + 4) s)) → d ≡ le_value (take 8 (drop (at + 8) s))
    → row_fits (get_or s at 0) (get_or s (at + 1) 0) (get_or s (at + 2) 0) (get_or s (at + 3) 0) a (get_or s (at + 8) 0)
    && zeros (drop (kept_by (get_or s at 0) (get_or s (at + 1) 0) (get_or s (at + 3) 0)) (le_bytes 8 d))
    ≡ fits (take 16 (drop at s))
words_fit s at a d bytes h address number =
    let k = get_or s at 0 in
    let o = get_or s (at + 1) 0 in
    let t = get_or s (at + 2) 0 in
    let n = get_or s (at + 3) 0 in
    let bs = take 8 (drop (at + 8) s) in
    let behind : List ℕ → List ℕ = λ l. get_or s (at + 4) 0 ∷ get_or s (at + 4 + 1) 0 ∷ get_or s (at + 4 + 2) 0 ∷ get_or s (at + 4 + 3) 0 ∷ l in
    let eight : at + 4 + 4 ≡ at + 8 = omega arith in
    let none : at + 8 + 0 ≡ at + 8 = omega arith in
    let first : get_or s (at + 8) 0 ≡ get_or bs 0 0 =
    sym (get_or-take 8 (drop (at + 8) s) 0 0 (omega arith) ∙ get_or-drop (at + 8) s 0 0 ∙ ap (λ i. get_or s i 0) none) in
    let rest : take 12 (drop (at + 4) s) ≡ behind bs = four_spelt 8 (at + 4) s (omega arith) ∙ ap (λ i. behind (take 8 (drop i s))) eight in
    let all : take 16 (drop at s) ≡ k ∷ o ∷ t ∷ n ∷ behind bs = four_spelt 12 at s (omega arith) ∙ ap (λ l. k ∷ o ∷ t ∷ n ∷ l) rest in
    ap (λ b. row_fits k o t n a b && zeros (drop (kept_by k o n) (le_bytes 8 d))) first
    ∙ spelt_fits k o t n _ _ _ _ a d bs
    (address ∙ ap le_value (four_spelt 0 (at + 4) s (omega arith)))
    (one_long 8 (at + 8) s (omega arith))
    (ap (le_bytes 8) number ∙ one_number 8 (at + 8) s bytes (omega arith))
    ∙ ap fits (sym all)
