-- The tries for a lock, one by one: what a turn of the loop does to what is left of the program. Assumes nothing.
use Prim.Native.Nat.{ℕ, suc, ◌+◌, ◌-◌, ◌*◌, ◌≤◌, ◌<◌}
use mathlib.Core.Path.{◌≡◌, refl, sym, ap}
use mathlib.Core.Bool.{Bool, true, false, cond}
use mathlib.Core.List.{List, [], ◌∷◌, ◌++◌}
use native.Mathlib.Omega.{arith}
use borrow.Author.Tests.{lt-ltb, le-ltb}
use lib.Dec.{eqb}
use Rattle.transcript.specs.declared.Entry.{Entry}
use Rattle.chip.specs.declared.Update.{Update}
use Rattle.chip.specs.Entries.{pointer, read_entry, wait}
use Rattle.chip.specs.InCode.{closing}
use Rattle.chip.specs.Steps.{Step, Line, every, goes, inner, masked, run, step, updates}
use Rattle.chip.specs.Steps.Step.{Close, Plain}
use Rattle.chip.proofs.Laws.{parts, stop, swap}
use Rattle.pll.specs.declared.Kind.{Kind}
use Rattle.pll.specs.declared.Plan.{Plan}
use Rattle.std.specs.Prelude.{Option, Some, None}
use Rattle.tuning.specs.declared.FreqRange.{FreqRange}
use Rattle.tuning.specs.Mux.{mux_updates, pll_updates, range_of}
use Rattle.tuning.specs.Program.{inner_steps, pll_steps}
use Rattle.tuning.specs.Tries.{after_try, again, fine_of, locked, locks_at, power_of, repair_updates, reply_bytes, status_steps, tries_from, try_read}
use Rattle.tuning.proofs.Programs.{every_app, inner_after, inner_tries, inner_updates}

-- the one write after the first try
pub first_write : (i : ℕ) (u : Update) → i ≡ 0 → u ≡ masked 0x12 0x06 0xff → updates (u ∷ []) ≡ updates (again i)
first_write i u e m = rw (e, m)

-- behind a later try there is the wait alone
pub wait_alone : (i : ℕ) → eqb i 0 ≡ false → Plain (wait 1) ∷ [] ≡ after_try i
wait_alone i e = rw e

-- the three ways of the repair
module _ (kind : Kind) (number byte power fine : ℕ) (p : power ≡ power_of kind) (q : fine ≡ fine_of byte) where
  pub repair_down : (less : ℕ) → power < fine → less ≡ number - 1 → masked 0x10 (less * 32) 0xe0 ∷ [] ≡ repair_updates kind number byte
  unfolding repair_updates
  repair_down less h l = rw (← p, ← q, lt-ltb power fine h, l)

  pub repair_up : fine ≤ power → fine < power → masked 0x10 ((number + 1) * 32) 0xe0 ∷ [] ≡ repair_updates kind number byte
  unfolding repair_updates
  repair_up h k = rw (← p, ← q, le-ltb power fine h, lt-ltb fine power k)

  pub repair_none : fine ≤ power → power ≤ fine → [] ≡ repair_updates kind number byte
  unfolding repair_updates
  repair_none h k = rw (← p, ← q, le-ltb power fine h, le-ltb fine power k)

-- what all of two lists pass, all of the one that is picked pass
pub pick_every : {A : Type 0} (p : A → Bool) (b : Bool) (xs ys : List A) → every p xs ≡ true → every p ys ≡ true → every p (cond b xs ys) ≡ true
pick_every p true xs ys h k = h
pick_every p false xs ys h k = k

-- reads whose bytes were worked out apart
pub status_made : (address : ℕ) (rs bytes : List ℕ) → bytes ≡ reply_bytes rs 0 5
    → Plain (wait 2) ∷ Plain (pointer address) ∷ Plain (read_entry address 5 bytes) ∷ [] ≡ status_steps address rs
status_made address rs bytes e = rw e

pub try_made : (address : ℕ) (rs bytes : List ℕ) (i : ℕ) → bytes ≡ reply_bytes rs (5 + 3 * i) 3
    → Plain (pointer address) ∷ Plain (read_entry address 3 bytes) ∷ [] ≡ try_read address rs i
try_made address rs bytes i e = rw e

-- the registers' writes, where row and plan were worked out apart
pub mux_made : (address : ℕ) (kind : Kind) (notch : Bool) (plan : Option Plan) (hz : ℕ) (rs : List ℕ) (range : FreqRange) (us : List Update)
    → range ≡ range_of hz → us ≡ mux_updates notch range → plan ≡ None → updates us ≡ inner_steps address kind notch plan hz rs
unfolding inner_steps
mux_made address kind notch plan hz rs range us e l q = rw (l, e, q)

pub plan_made : (address : ℕ) (kind : Kind) (notch : Bool) (plan : Option Plan) (hz : ℕ) (rs : List ℕ) (range : FreqRange) (us vs : List Update) (p : Plan)
    → range ≡ range_of hz → us ≡ mux_updates notch range → vs ≡ pll_updates p → plan ≡ Some p
    → updates us ++ (updates vs ++ pll_steps address kind p.number rs) ≡ inner_steps address kind notch plan hz rs
unfolding inner_steps
plan_made address kind notch plan hz rs range us vs p e l m q = rw (l, m, e, q)

-- what follows the read of try i
abbrev rest_of : ℕ → List ℕ → ℕ → List Step
rest_of address rs i = cond (locks_at rs i) (updates locked) (after_try i ++ tries_from address rs (10 - (i + 1)) (i + 1))

opened : (address : ℕ) (rs : List ℕ) (i : ℕ) → i < 10 → tries_from address rs (10 - i) i ≡ try_read address rs i ++ rest_of address rs i
unfolding tries_from
opened address rs i h =
    let more : 10 - i ≡ suc (10 - (i + 1)) = omega arith in
    rw more

inner_rest : (address : ℕ) (rs : List ℕ) (i : ℕ) → every inner (rest_of address rs i) ≡ true
inner_rest address rs i =
    pick_every inner (locks_at rs i) (updates locked) (after_try i ++ tries_from address rs (10 - (i + 1)) (i + 1)) (inner_updates locked)
    (every_app inner (after_try i) (tries_from address rs (10 - (i + 1)) (i + 1)) (inner_after i) (inner_tries address rs (10 - (i + 1)) (i + 1)))

module _ {L : Type 0} (put : L → ℕ → Entry → L) (os : List ℕ) where
  module _ (address : ℕ) (rs : List ℕ) (i : ℕ) (few : i < 10) (w x : Line L) (read : x ≡ closing put os (run put os (try_read address rs i) w)) where
    all : (y : Line L) → y ≡ closing put os (run put os (rest_of address rs i) x) → y ≡ closing put os (run put os (tries_from address rs (10 - i) i) w)
    all y e =
        swap put os (try_read address rs i ++ rest_of address rs i) (tries_from address rs (10 - i) i) w y (sym (opened address rs i few))
        (parts put os (try_read address rs i) (rest_of address rs i) w x y (inner_rest address rs i) read e)

    -- the read failed
    pub cut_try : goes x.progress ≡ false → step put os Close x ≡ closing put os (run put os (tries_from address rs (10 - i) i) w)
    cut_try h = all (step put os Close x) (stop put os (rest_of address rs i) x (run put os (rest_of address rs i) x) h (inner_rest address rs i) refl)

    -- it has the lock bit
    pub lock_try : (y : Line L) → locks_at rs i ≡ true → y ≡ closing put os (run put os (updates locked) x) → y ≡ closing put os (run put os (tries_from address rs (10 - i) i) w)
    lock_try y b e = all y (swap put os (updates locked) (rest_of address rs i) x y (sym (ap (λ (t : Bool). cond t (updates locked) (after_try i ++ tries_from address rs (10 - (i + 1)) (i + 1))) b)) e)

    -- it has not
    pub next_try : (y : Line L) → locks_at rs i ≡ false → y ≡ closing put os (run put os (after_try i) x)
        → closing put os (run put os (tries_from address rs (10 - (i + 1)) (i + 1)) y) ≡ closing put os (run put os (tries_from address rs (10 - i) i) w)
    next_try y b e =
        let z : Line L = closing put os (run put os (tries_from address rs (10 - (i + 1)) (i + 1)) y) in
        all z
        (swap put os (after_try i ++ tries_from address rs (10 - (i + 1)) (i + 1)) (rest_of address rs i) x z
        (sym (ap (λ (t : Bool). cond t (updates locked) (after_try i ++ tries_from address rs (10 - (i + 1)) (i + 1))) b))
        (parts put os (after_try i) (tries_from address rs (10 - (i + 1)) (i + 1)) x y z (inner_tries address rs (10 - (i + 1)) (i + 1)) e refl))

  pub end_try : (address : ℕ) (rs : List ℕ) (i : ℕ) (w : Line L) → 10 ≤ i → closing put os w ≡ closing put os (run put os (tries_from address rs (10 - i) i) w)
  unfolding tries_from run
  end_try address rs i w h =
      let none : 10 - i ≡ 0 = omega arith in
      rw none
