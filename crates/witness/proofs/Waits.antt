-- The waiting for the lock, told from the last entry to the first, is what the entries tell in their order. Assumes nothing.
use Prim.Native.Nat.{ℕ, ◌+◌}
use mathlib.Core.Path.{◌≡◌, refl, sym, ap, ◌∙◌}
use mathlib.Core.Bool.{Bool, true, false, cond, ◌||◌}
use mathlib.Core.List.{List, [], ◌∷◌, ◌++◌}
use native.Mathlib.Nat.{zero-add}
use native.Mathlib.Omega.{arith}
use borrow.Author.Tests.{le-ltb, ltb-false}
use lib.Dec.{ltb}
use Rattle.transcript.specs.declared.Entry.{Entry}
use Rattle.attempts.specs.Attempts.{names}
use Rattle.chip.specs.Entries.{lock_bit}
use Rattle.evidence.specs.Evidence.{lock_from, lock_mark, oscillator, planned, touches, tries_from, tries_of, try_of}
use Rattle.witness.specs.declared.Waiting.{Waiting}
use Rattle.witness.specs.declared.Stage.TheVariants.{Open, Ended, Counted}
use Rattle.witness.specs.declared.Stage.{Stage}
use Rattle.witness.specs.Walk.{is_counted, is_open, most, waited_all, waited_by, waiting}

pub waits_both : (address : ℕ) (xs ys : List Entry) (w : Waiting) → waited_all address xs (waited_all address ys w) ≡ waited_all address (xs ++ ys) w
unfolding waited_all
waits_both address [] ys w = refl
waits_both address (x ∷ xs) ys w = ap (waited_by address x) (waits_both address xs ys w)

-- a write of the plan's registers or of 0x12 is one of the oscillator's
written : (a b x y z : Bool) → (a || (x || (y || (z || false)))) || b ≡ a || (b || (x || (y || (z || false))))
written true b x y z = refl
written false true true y z = refl
written false true false true z = refl
written false true false false true = refl
written false true false false false = refl
written false false true y z = refl
written false false false true z = refl
written false false false false true = refl
written false false false false false = refl

writes_same : (address : ℕ) (e : Entry) → touches address planned e || names address e 0x12 ≡ touches address oscillator e
writes_same address e = written (names address e 0x10) (names address e 0x12) (names address e 0x14) (names address e 0x15) (names address e 0x16)

-- ---- one entry, by its tests: a write of the plan's registers (p), of 0x12 (n), a try (t) and its bit

abbrev after : Stage → ℕ → ℕ → Bool → Bool → Bool → Bool → Waiting
after stage lock tries p n t bit =
    cond (is_counted stage) (waiting stage lock tries)
    (waiting (cond p Counted (cond ((p || n) || t) Ended stage))
    (cond (is_open stage) (cond (p || n) 0 (cond t (cond bit 2 1) 0)) lock)
    (cond p tries (cond t (most (tries + 1)) tries)))

-- what is told of the lock, where `mark` was before; and of the tries, where `count` were
abbrev lock_or : ℕ → Waiting → ℕ
lock_or mark w = cond (is_open w.stage) mark w.lock

abbrev tries_or : ℕ → Waiting → ℕ
tries_or count w = cond (is_counted w.stage) w.tries (most (count + w.tries))

lock_after : (stage : Stage) (lock tries mark : ℕ) (p n t bit : Bool)
    → cond (is_open stage) (cond (p || n) 0 (cond t (cond bit 2 1) mark)) lock ≡ lock_or mark (after stage lock tries p n t bit)
lock_after Open lock tries mark true n t bit = refl
lock_after Open lock tries mark false true t bit = refl
lock_after Open lock tries mark false false true bit = refl
lock_after Open lock tries mark false false false bit = refl
lock_after Ended lock tries mark true n t bit = refl
lock_after Ended lock tries mark false true t bit = refl
lock_after Ended lock tries mark false false true bit = refl
lock_after Ended lock tries mark false false false bit = refl
lock_after Counted lock tries mark p n t bit = refl

-- a lock of which nothing is told is 0
lock_idle : (stage : Stage) (lock tries : ℕ) (p n t bit : Bool) → lock_or 0 (after stage lock tries p n t bit) ≡ (after stage lock tries p n t bit).lock
lock_idle Open lock tries true n t bit = refl
lock_idle Open lock tries false true t bit = refl
lock_idle Open lock tries false false true bit = refl
lock_idle Open lock tries false false false bit = refl
lock_idle Ended lock tries true n t bit = refl
lock_idle Ended lock tries false true t bit = refl
lock_idle Ended lock tries false false true bit = refl
lock_idle Ended lock tries false false false bit = refl
lock_idle Counted lock tries p n t bit = refl

most_more : (count m : ℕ) → most (count + most m) ≡ most (count + m)
most_more count m = go (ltb m 4_294_967_295) refl
  where
    go : (b : Bool) → ltb m 4_294_967_295 ≡ b → most (count + most m) ≡ most (count + m)
    go true e = rw e
    go false e =
        let past = ltb-false m 4_294_967_295 e in
        rw (e, le-ltb (count + 4_294_967_295) 4_294_967_295 (omega arith), le-ltb (count + m) 4_294_967_295 (omega arith))

more : (count tries : ℕ) → most (count + 1 + tries) ≡ most (count + most (tries + 1))
more count tries =
    let same : count + 1 + tries ≡ count + (tries + 1) = omega arith in
    ap most same ∙ sym (most_more count (tries + 1))

most_twice : (m : ℕ) → most (most m) ≡ most m
most_twice m = ap most (sym (zero-add (most m))) ∙ most_more 0 m ∙ ap most (zero-add m)

tries_after : (stage : Stage) (lock tries count : ℕ) (p n t bit : Bool) → most tries ≡ tries
    → tries_or (cond p 0 (cond t (count + 1) count)) (waiting stage lock tries) ≡ tries_or count (after stage lock tries p n t bit)
tries_after Open lock tries count true n t bit m = ap most (zero-add tries) ∙ m
tries_after Open lock tries count false true true bit m = more count tries
tries_after Open lock tries count false true false bit m = refl
tries_after Open lock tries count false false true bit m = more count tries
tries_after Open lock tries count false false false bit m = refl
tries_after Ended lock tries count true n t bit m = ap most (zero-add tries) ∙ m
tries_after Ended lock tries count false true true bit m = more count tries
tries_after Ended lock tries count false true false bit m = refl
tries_after Ended lock tries count false false true bit m = more count tries
tries_after Ended lock tries count false false false bit m = refl
tries_after Counted lock tries count p n t bit m = refl

-- ---- all entries

record Proper (w : Waiting) : Type 0 where
  tries : most w.tries ≡ w.tries
  idle : lock_or 0 w ≡ w.lock

count_after : (stage : Stage) (lock tries : ℕ) (p n t bit : Bool) → most tries ≡ tries → most (after stage lock tries p n t bit).tries ≡ (after stage lock tries p n t bit).tries
count_after stage lock tries p n t bit m = go (is_counted stage) p t
  where
    go : (b p t : Bool)
        → most (cond b (waiting stage lock tries) (waiting (cond p Counted (cond ((p || n) || t) Ended stage)) (cond (is_open stage) (cond (p || n) 0 (cond t (cond bit 2 1) 0)) lock) (cond p tries (cond t (most (tries + 1)) tries)))).tries
        ≡ (cond b (waiting stage lock tries) (waiting (cond p Counted (cond ((p || n) || t) Ended stage)) (cond (is_open stage) (cond (p || n) 0 (cond t (cond bit 2 1) 0)) lock) (cond p tries (cond t (most (tries + 1)) tries)))).tries
    go true p t = m
    go false true t = m
    go false false true = most_twice (tries + 1)
    go false false false = m

module _ (address : ℕ) where
  abbrev pub told : List Entry → Waiting
  told es = waited_all address es (waiting Open 0 0)

  by_tests : (e : Entry) (w : Waiting) → waited_by address e w ≡ after w.stage w.lock w.tries (touches address planned e) (names address e 0x12) (try_of address e) (lock_bit e)
  unfolding waited_by
  by_tests e w = refl

  proper : (es : List Entry) → Proper (told es)
  unfolding waited_all
  proper [] = record { tries = refl; idle = refl }
  proper (e ∷ es) = step (told es) (proper es)
    where
      step : (w : Waiting) → Proper w → Proper (waited_by address e w)
      step w p =
          let s = touches address planned e in
          let n = names address e 0x12 in
          let t = try_of address e in
          let b = lock_bit e in
          rw (by_tests e w)
          record {
            tries = count_after w.stage w.lock w.tries s n t b p.tries;
            idle = lock_idle w.stage w.lock w.tries s n t b;
          }

  locks : (es : List Entry) (mark : ℕ) → lock_from address mark es ≡ lock_or mark (told es)
  unfolding lock_from waited_all
  locks [] mark = refl
  locks (e ∷ es) mark =
      let w = told es in
      locks es (cond (touches address oscillator e) 0 (cond (try_of address e) (cond (lock_bit e) 2 1) mark))
      ∙ ap (λ (x : Bool). lock_or (cond x 0 (cond (try_of address e) (cond (lock_bit e) 2 1) mark)) w) (sym (writes_same address e))
      ∙ lock_after w.stage w.lock w.tries mark (touches address planned e) (names address e 0x12) (try_of address e) (lock_bit e)
      ∙ ap (lock_or mark) (sym (by_tests e w))

  counts : (es : List Entry) (count : ℕ) → most (tries_from address count es) ≡ tries_or count (told es)
  unfolding tries_from waited_all
  counts [] count =
      let same : count ≡ count + 0 = omega arith in
      ap most same
  counts (e ∷ es) count =
      let w = told es in
      counts es (cond (touches address planned e) 0 (cond (try_of address e) (count + 1) count))
      ∙ tries_after w.stage w.lock w.tries count (touches address planned e) (names address e 0x12) (try_of address e) (lock_bit e) (proper es).tries
      ∙ ap (tries_or count) (sym (by_tests e w))

  pub lock_told : (es : List Entry) → (told es).lock ≡ lock_mark address es
  lock_told es = sym (locks es 0 ∙ (proper es).idle)

  pub tries_told : (es : List Entry) → (told es).tries ≡ most (tries_of address es)
  tries_told es = sym (counts es 0 ∙ go (is_counted (told es).stage))
    where
      go : (b : Bool) → cond b (told es).tries (most (0 + (told es).tries)) ≡ (told es).tries
      go true = refl
      go false = ap most (zero-add (told es).tries) ∙ (proper es).tries
