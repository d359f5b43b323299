-- `packets::in_table` meets its contract: each line of the match has the numbers of its line of the table.
-- Assumes nothing.
use Prim.Native.Nat.{ℕ, zero, suc, ◌<◌}
use mathlib.Core.Path.{◌≡◌, refl, sym, ap}
use mathlib.Core.Bool.{◌&&◌}
use native.Mathlib.Omega.{arith}
use lib.Dec.{leb}
use Rattle.transcript.specs.Table.{n_low, n_high}
use Rattle.packets.specs.Heard.{in_table}
use Rattle.packets.proofs.in_table.Goals as goal

beyond : (i k : ℕ) → i < k → (k ≡ suc i → ⊥) → suc i < k
beyond i k h other = omega arith

past : (k n : ℕ) → leb 0 n && leb n 0 ≡ in_table (suc (suc (suc (suc (suc (suc (suc (suc (suc k))))))))) n
unfolding in_table n_low n_high
past zero n = refl
past (suc k) n = refl

-- no kind, a wait, and what is past the table
other : (k n : ℕ) → (0 < k → 8 < k) → leb 0 n && leb n 0 ≡ in_table k n
unfolding in_table n_low n_high
other zero n h = refl
other (suc zero) n h = absurd (omega (arith, h (omega arith)))
other (suc (suc zero)) n h = absurd (omega (arith, h (omega arith)))
other (suc (suc (suc zero))) n h = absurd (omega (arith, h (omega arith)))
other (suc (suc (suc (suc zero)))) n h = absurd (omega (arith, h (omega arith)))
other (suc (suc (suc (suc (suc zero))))) n h = absurd (omega (arith, h (omega arith)))
other (suc (suc (suc (suc (suc (suc zero)))))) n h = absurd (omega (arith, h (omega arith)))
other (suc (suc (suc (suc (suc (suc (suc zero))))))) n h = absurd (omega (arith, h (omega arith)))
other (suc (suc (suc (suc (suc (suc (suc (suc zero)))))))) n h = absurd (omega (arith, h (omega arith)))
other (suc (suc (suc (suc (suc (suc (suc (suc (suc k))))))))) n h = past k n

pub returns-in-1 : goal.returns-in-1
unfolding in_table n_low n_high
returns-in-1 c = sym (ap (λ k. in_table k c.args.n) c.in-1.is)

pub returns-in-2 : goal.returns-in-2
unfolding in_table n_low n_high
returns-in-2 c = sym (ap (λ k. in_table k c.args.n) c.in-2.is)

pub returns-in-3 : goal.returns-in-3
unfolding in_table n_low n_high
returns-in-3 c = sym (ap (λ k. in_table k c.args.n) c.in-3.is)

pub returns-in-4 : goal.returns-in-4
unfolding in_table n_low n_high
returns-in-4 c = sym (ap (λ k. in_table k c.args.n) c.in-4.is)

pub returns-in-5 : goal.returns-in-5
unfolding in_table n_low n_high
returns-in-5 c = sym (ap (λ k. in_table k c.args.n) c.in-5.is)

pub returns-in-6 : goal.returns-in-6
unfolding in_table n_low n_high
returns-in-6 c = sym (ap (λ k. in_table k c.args.n) c.in-6.is)

pub returns-in-7 : goal.returns-in-7
unfolding in_table n_low n_high
returns-in-7 c = sym (ap (λ k. in_table k c.args.n) c.in-7.is)

pub returns-in-8 : goal.returns-in-8
unfolding in_table n_low n_high
returns-in-8 c = sym (ap (λ k. in_table k c.args.n) c.in-8.is)

pub returns-in_default : goal.returns-in_default
returns-in_default c =
    let k = c.args.k in
    let r = c.in_default.in_default-own.rest in
    other k c.args.n (λ some. beyond 7 k (beyond 6 k (beyond 5 k (beyond 4 k (beyond 3 k (beyond 2 k (beyond 1 k (beyond 0 k some r.0.0.0.0.0.0.0.1) r.0.0.0.0.0.0.1) r.0.0.0.0.0.1) r.0.0.0.0.1) r.0.0.0.1) r.0.0.1) r.0.1) r.1)
