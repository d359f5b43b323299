-- The IF's three bytes, read back: the word that was sent, and what it stands for. Assumes nothing.
use Prim.Native.Nat.{ℕ, zero, suc, ◌+◌, ◌-◌, ◌*◌, ◌/◌, ◌%◌, ◌^◌, ◌<◌}
use mathlib.Core.Path.{◌≡◌, refl, ap, ◌∙◌}
use native.Mathlib.Omega.{arith}
use native.Mathlib.Nat.{mod-eq_of_lt}
use Rattle.registers.specs.Rates.{if_ratio_of, if_value_of, negated_of}
use Rattle.evidence.proofs.Units.{word}

twice : (x : ℕ) → x < 4_194_304 → negated_of (negated_of x) ≡ x
twice zero h = refl
twice (suc x) h =
    let small : suc x % 4_194_304 ≡ suc x = mod-eq_of_lt h in
    let once : (4_194_304 - suc x) % 4_194_304 ≡ 4_194_304 - suc x = mod-eq_of_lt (omega arith) in
    rw (small, once, once) (omega arith)

-- registers that hold what an IF sends
pub stands_for : (hz xtal a b c : ℕ) → if_ratio_of hz xtal < 2 ^ 22 → a ≡ if_value_of hz xtal / 2 ^ 16 % 2 ^ 8 → b ≡ if_value_of hz xtal / 2 ^ 8 % 2 ^ 8 % 2 ^ 8
    → c ≡ if_value_of hz xtal % 2 ^ 8 % 2 ^ 8 → negated_of (65_536 * (a % 64) + (256 * b + c)) ≡ if_ratio_of hz xtal
stands_for hz xtal a b c h p q r =
    let small : if_value_of hz xtal < 4_194_304 = omega arith in
    rw (p, q, r) (ap negated_of (word (if_value_of hz xtal) small) ∙ twice (if_ratio_of hz xtal) h)
