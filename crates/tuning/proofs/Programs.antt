-- What every step of a tuning passes: a test that updates and plain steps of eight data bytes pass. It serves for "no closing among them" and for
-- "eight data bytes". Assumes nothing.
use Prim.Native.Nat.{ℕ, zero, suc, ◌+◌, ◌*◌}
use mathlib.Core.Path.{◌≡◌, refl}
use mathlib.Core.Bool.{Bool, true, false, cond, ◌&&◌}
use mathlib.Core.List.{List, [], ◌∷◌, ◌++◌}
use borrow.Author.Tests.{eq-eqb}
use lib.ListN.{length, take, drop, get_or}
use lib.Seq.{length-sets}
use Rattle.transcript.specs.declared.Entry.{Entry}
use Rattle.chip.specs.declared.Update.{Update}
use Rattle.transcript.specs.Entries.{zeros8}
use Rattle.chip.specs.Entries.{pointer, read_entry, wait}
use Rattle.chip.specs.Steps.{Step, eight, every, inner, updates, update_step}
use Rattle.chip.specs.Steps.Step.{Plain}
use Rattle.chip.proofs.Laws.{and_right}
use Rattle.chip.proofs.Lists.{inner_update}
use Rattle.pll.specs.declared.Kind.{Kind}
use Rattle.std.specs.Prelude.{Option, Some, None}
use Rattle.pll.specs.declared.Plan.{Plan}
use Rattle.tuning.specs.Mux.{mux_updates, pll_updates, range_of}
use Rattle.tuning.specs.Tries.{after_try, again, locked, locks_at, repair_updates, reply_bytes, status_steps, tries_from, try_read}
use Rattle.tuning.specs.Program.{inner_steps, pll_steps}

and_in : (a b : Bool) → a ≡ true → b ≡ true → (a && b) ≡ true
and_in a b h k = rw (h, k)

both : (a b c : Bool) → (a && b) ≡ true → c ≡ true → (a && c) ≡ true
both true b c h k = k
both false b c h k = h

pub every_app : (p : Step → Bool) (xs ys : List Step) → every p xs ≡ true → every p ys ≡ true → every p (xs ++ ys) ≡ true
unfolding every
every_app p [] ys h k = k
every_app p (x ∷ xs) ys h k = both (p x) (every p xs) (every p (xs ++ ys)) h (every_app p xs ys (and_right (p x) (every p xs) h) k)

pick_every : (p : Step → Bool) (b : Bool) (xs ys : List Step) → every p xs ≡ true → every p ys ≡ true → every p (cond b xs ys) ≡ true
pick_every p true xs ys h k = h
pick_every p false xs ys h k = k

pub eight_update : (u : Update) → eight (update_step u) ≡ true
eight_update u = refl

length_reply : (rs : List ℕ) (at n : ℕ) → length (reply_bytes rs at n) ≡ 8
unfolding reply_bytes
length_reply rs at n = length-sets zeros8 0 (take n (drop at rs))

module _ (p : Step → Bool) (by-plain : (e : Entry) → length e.bytes ≡ 8 → p (Plain e) ≡ true) (by-update : (u : Update) → p (update_step u) ≡ true) where
  pub all_updates : (us : List Update) → every p (updates us) ≡ true
  unfolding every
  all_updates [] = refl
  all_updates (u ∷ us) = and_in (p (update_step u)) (every p (updates us)) (by-update u) (all_updates us)

  all_status : (address : ℕ) (rs : List ℕ) → every p (status_steps address rs) ≡ true
  unfolding every
  all_status address rs =
      and_in (p (Plain (wait 2))) _ (by-plain (wait 2) refl)
      (and_in (p (Plain (pointer address))) _ (by-plain (pointer address) refl)
      (and_in (p (Plain (read_entry address 5 (reply_bytes rs 0 5)))) true (by-plain (read_entry address 5 (reply_bytes rs 0 5)) (length_reply rs 0 5)) refl))

  all_read : (address : ℕ) (rs : List ℕ) (i : ℕ) → every p (try_read address rs i) ≡ true
  unfolding every
  all_read address rs i =
      and_in (p (Plain (pointer address))) _ (by-plain (pointer address) refl)
      (and_in (p (Plain (read_entry address 3 (reply_bytes rs (5 + 3 * i) 3)))) true
      (by-plain (read_entry address 3 (reply_bytes rs (5 + 3 * i) 3)) (length_reply rs (5 + 3 * i) 3)) refl)

  one_wait : every p (Plain (wait 1) ∷ []) ≡ true
  unfolding every
  one_wait = and_in (p (Plain (wait 1))) true (by-plain (wait 1) refl) refl

  pub all_after : (i : ℕ) → every p (after_try i) ≡ true
  all_after i = every_app p (updates (again i)) (Plain (wait 1) ∷ []) (all_updates (again i)) one_wait

  pub all_tries : (address : ℕ) (rs : List ℕ) (left i : ℕ) → every p (tries_from address rs left i) ≡ true
  unfolding tries_from every
  all_tries address rs zero i = refl
  all_tries address rs (suc left) i =
      every_app p (try_read address rs i) (cond (locks_at rs i) (updates locked) (after_try i ++ tries_from address rs left (i + 1))) (all_read address rs i)
      (pick_every p (locks_at rs i) (updates locked) (after_try i ++ tries_from address rs left (i + 1)) (all_updates locked)
      (every_app p (after_try i) (tries_from address rs left (i + 1)) (all_after i) (all_tries address rs left (i + 1))))

  pub all_pll : (address : ℕ) (kind : Kind) (number : ℕ) (rs : List ℕ) → every p (pll_steps address kind number rs) ≡ true
  all_pll address kind number rs =
      every_app p (status_steps address rs) (updates (repair_updates kind number (get_or rs 4 0)) ++ tries_from address rs 10 0) (all_status address rs)
      (every_app p (updates (repair_updates kind number (get_or rs 4 0))) (tries_from address rs 10 0)
      (all_updates (repair_updates kind number (get_or rs 4 0))) (all_tries address rs 10 0))

  pub all_inner : (address : ℕ) (kind : Kind) (notch : Bool) (plan : Option Plan) (hz : ℕ) (rs : List ℕ) → every p (inner_steps address kind notch plan hz rs) ≡ true
  unfolding inner_steps
  all_inner address kind notch None hz rs = all_updates (mux_updates notch (range_of hz))
  all_inner address kind notch (Some q) hz rs =
      every_app p (updates (mux_updates notch (range_of hz) ++ pll_updates q)) (pll_steps address kind q.number rs)
      (all_updates (mux_updates notch (range_of hz) ++ pll_updates q)) (all_pll address kind q.number rs)

-- no closing among them
pub inner_tries : (address : ℕ) (rs : List ℕ) (left i : ℕ) → every inner (tries_from address rs left i) ≡ true
inner_tries = all_tries inner (λ e h. refl) inner_update

pub inner_after : (i : ℕ) → every inner (after_try i) ≡ true
inner_after = all_after inner (λ e h. refl) inner_update

pub inner_pll : (address : ℕ) (kind : Kind) (number : ℕ) (rs : List ℕ) → every inner (pll_steps address kind number rs) ≡ true
inner_pll = all_pll inner (λ e h. refl) inner_update

-- eight data bytes each
pub eight_inner : (address : ℕ) (kind : Kind) (notch : Bool) (plan : Option Plan) (hz : ℕ) (rs : List ℕ) → every eight (inner_steps address kind notch plan hz rs) ≡ true
eight_inner = all_inner eight (λ e h. eq-eqb (length e.bytes) 8 h) eight_update

pub inner_updates : (us : List Update) → every inner (updates us) ≡ true
inner_updates = all_updates inner (λ e h. refl) inner_update
