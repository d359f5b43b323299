-- The FIR coefficients as bytes, and back.
-- Document 01, "Demodulator": "FIR: eight 8-bit, then eight 12-bit signed values, two in three bytes. Our packer takes any sixteen in range;
-- our unpacker is its inverse." A width is said by half the numbers that it has: 128 for eight bits, 2048 for twelve.
-- Assumes nothing.
use Rattle.std.specs.Prelude.{Bool, cond, ◌&&◌, List, [], ◌∷◌, ◌++◌, map, ℕ, ◌+◌, ◌-◌, ◌*◌, ◌/◌, ◌%◌, ltb, ℤ, pos, negsuc, take, drop}
use Rattle.std.specs.Int.Signed.{mag}
use Rattle.std.specs.List.{list_all}
use Rattle.refusals.specs.Table.{COEFFICIENT}
use Rattle.fir.specs.declared.Packed.{Packed}

-- from -half to half - 1
abbrev pub within : ℕ → ℤ → Bool
within half z = ltb (mag z) half

-- refusal 7: "a FIR value past its width"
unfoldable pub fir_fits : List ℤ → Bool
fir_fits v = list_all (within 128) (take 8 v) && list_all (within 2048) (drop 8 v)

-- the bits of z that the width holds, as a number: z modulo 2 * half; and the number's z
abbrev pub low_of : ℕ → ℤ → ℕ
low_of half (pos n) = n % (2 * half)
low_of half (negsuc n) = 2 * half - 1 - n % (2 * half)

abbrev pub signed_of : ℕ → ℕ → ℤ
signed_of half n = cond (ltb n half) (pos n) (negsuc (2 * half - 1 - n))

-- two of twelve bits in three bytes: eight bits of the first, its last four with the second's first four, eight bits of the second
abbrev pub threes : List ℕ → List ℕ
threes [] = []
threes (a ∷ []) = []
threes (a ∷ b ∷ l) = a / 16 ∷ (a % 16 * 16 + b / 256) ∷ b % 256 ∷ threes l

abbrev pub twos : List ℕ → List ℕ
twos [] = []
twos (x ∷ []) = []
twos (x ∷ y ∷ []) = []
twos (x ∷ y ∷ z ∷ l) = (x * 16 + y / 16) ∷ (y % 16 * 256 + z) ∷ twos l

unfoldable pub pack_of : List ℤ → List ℕ
pack_of v = map (low_of 128) (take 8 v) ++ threes (map (low_of 2048) (drop 8 v))

unfoldable pub unpack_of : List ℕ → List ℤ
unpack_of b = map (signed_of 128) (take 8 b) ++ map (signed_of 2048) (twos (drop 8 b))

abbrev pub no_bytes : List ℕ
no_bytes = 0 ∷ 0 ∷ 0 ∷ 0 ∷ 0 ∷ 0 ∷ 0 ∷ 0 ∷ 0 ∷ 0 ∷ 0 ∷ 0 ∷ 0 ∷ 0 ∷ 0 ∷ 0 ∷ 0 ∷ 0 ∷ 0 ∷ 0 ∷ []

-- the packer's answer: its refusal, 0 or 7, and the bytes, zeros where it refused
unfoldable pub packed : List ℤ → Packed
packed v = cond (fir_fits v) (record { refusal = 0; bytes = pack_of v }) (record { refusal = COEFFICIENT; bytes = no_bytes })

-- the Rust's FIR_DEFAULT
abbrev pub fir_default : List ℤ
fir_default =
    negsuc 53 ∷ negsuc 35 ∷ negsuc 40 ∷ negsuc 39 ∷ negsuc 31 ∷ negsuc 13 ∷ pos 14 ∷ pos 53 ∷ pos 101 ∷ pos 156 ∷ pos 215 ∷ pos 273
    ∷ pos 327 ∷ pos 372 ∷ pos 404 ∷ pos 421 ∷ []
