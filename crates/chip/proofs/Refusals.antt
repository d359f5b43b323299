-- What is known of a call that no number refused before its steps. Assumes nothing.
use Rattle.std.proofs.Common.{◌≡◌, ℕ, ◌+◌, ◌*◌, ◌<◌, ◌≤◌, Bool, true, false, cond, eqb, ltb, refl, arith, ltb-false, eqb-true}
use borrow.Author.Tests.{eqb-false}
use Rattle.refusals.specs.Table.{ROOM, OUTCOMES, REPLIES}
use Rattle.chip.specs.Calls.{too_short, refusal_with}

-- lent slices that suffice
pub record Enough (n m room outcomes replies : ℕ) : Type 0 where
  pub rooms : 16 * n + 8 ≤ room
  pub outs : n ≤ outcomes
  pub back : m ≤ replies

first_zero : (b : Bool) (a k : ℕ) → 0 < a → cond b a k ≡ 0 → (b ≡ false) × (k ≡ 0)
first_zero true a k h e = absurd (omega arith)
first_zero false a k h e = (refl, e)

pub enough : (n m room outcomes replies : ℕ) → too_short n m room outcomes replies ≡ 0 → Enough n m room outcomes replies
unfolding too_short
enough n m room outcomes replies e =
    let a = first_zero (ltb room (16 * n + 8)) ROOM (cond (ltb outcomes n) OUTCOMES (cond (ltb replies m) REPLIES 0)) (omega arith) e in
    let b = first_zero (ltb outcomes n) 9 (cond (ltb replies m) 10 0) (omega arith) a.1 in
    let d = first_zero (ltb replies m) 10 0 (omega arith) b.1 in
    record {
      rooms = ltb-false room (16 * n + 8) a.0;
      outs = ltb-false outcomes n b.0;
      back = ltb-false replies m d.0;
    }

-- no refusal: the records are in their ranges, the argument is taken, and the slices suffice
pub record Unrefused (sound : Bool) (argument n m room outcomes replies : ℕ) : Type 0 where
  pub sure : sound ≡ true
  pub taken : argument ≡ 0
  pub lent : Enough n m room outcomes replies

pub taken_by : (sound : Bool) (argument n m room outcomes replies : ℕ) → refusal_with sound argument n m room outcomes replies ≡ 0
    → Unrefused sound argument n m room outcomes replies
taken_by false argument n m room outcomes replies e = absurd (omega arith)
taken_by true argument n m room outcomes replies e = go (eqb argument 0) refl
  where
    go : (z : Bool) → eqb argument 0 ≡ z → Unrefused true argument n m room outcomes replies
    go true q = record { sure = refl; taken = eqb-true argument 0 q; lent = enough n m room outcomes replies (rw q at e) }
    go false q = absurd (eqb-false argument 0 q (rw q at e))
