-- For N from 13 to 127 the byte of 0x14 gives N back: "13 + 4·(low six bits) + top two bits is N" (document 01, "PLL"). Assumes nothing.
use Rattle.std.proofs.Common.{◌≡◌, ℕ, ◌+◌, ◌-◌, ◌*◌, ◌/◌, ◌%◌, ◌<◌, ◌≤◌, Bool, eqb, ltb, subst, arith, eqb→eq, ltb→lt}
use Rattle.below.proofs.Test.{below}
use Rattle.pll.specs.Setting.{setting_of}

-- the test at N = j + 13
right : ℕ → Bool
right j = eqb (13 + 4 * (setting_of (j + 13) % 64) + setting_of (j + 13) / 64) (j + 13)

pub setting_law : (n : ℕ) → 13 ≤ n → n < 128 → 13 + 4 * (setting_of n % 64) + setting_of n / 64 ≡ n
unfolding right setting_of
setting_law n h k =
    let back : n - 13 + 13 ≡ n = omega arith in
    subst (λ (i : ℕ). 13 + 4 * (setting_of i % 64) + setting_of i / 64 ≡ i) back
    (eqb→eq _ _ (below right 115 tt (n - 13) (omega arith)))

-- a byte, for every N that passes the cap
byte : ℕ → Bool
byte n = ltb (setting_of n) 256

pub setting_byte : (n : ℕ) → n < 128 → setting_of n < 256
unfolding byte setting_of
setting_byte n k = ltb→lt _ _ (below byte 128 tt n k)
