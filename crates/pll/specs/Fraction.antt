-- The sum of the fraction. Document 01, "PLL": "Sum S from 0: for n = 2, 4, .. 65,536 while F > 1: if F > 2K/n, add 32,768/(n/2) to S,
-- take 2K/n from F, and stop if n ≥ 32,768."
use Rattle.std.specs.Prelude.{ℕ, zero, suc, ◌+◌, ◌-◌, ◌*◌, ◌/◌, Bool, false, cond, not, ◌&&◌, nat_le, nat_lt}
use Rattle.pll.specs.declared.Sum.{Sum}

-- a turn takes the quotient: not stopped, F > 1 and F > 2K/n
abbrev pub takes_turn : ℕ → ℕ → Sum → Bool
takes_turn k n s = not s.stopped && (nat_lt 1 s.rest && nat_lt (2 * k / n) s.rest)

unfoldable pub turn_of : ℕ → ℕ → Sum → Sum
turn_of k n s =
    cond (takes_turn k n s)
    (record { sum = s.sum + 32_768 / (n / 2); rest = s.rest - 2 * k / n; stopped = nat_le 32_768 n })
    s

-- that many turns, from n on
unfoldable pub turns_of : ℕ → ℕ → ℕ → Sum → Sum
turns_of zero k n s = s
turns_of (suc t) k n s = turns_of t k (n * 2) (turn_of k n s)

-- the state before the first turn
abbrev pub sum_start : ℕ → Sum
sum_start f = record { sum = 0; rest = f; stopped = false }

abbrev pub sum_of : ℕ → ℕ → Sum
sum_of k f = turns_of 16 k 2 (sum_start f)

-- the quotients taken, added up: what the law of the sum speaks of
unfoldable pub taken_of : ℕ → ℕ → ℕ → Sum → ℕ
taken_of zero k n s = 0
taken_of (suc t) k n s = cond (takes_turn k n s) (2 * k / n) 0 + taken_of t k (n * 2) (turn_of k n s)
