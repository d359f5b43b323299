-- Document 02, #105: "Feeding the stream in any cuts gives the same transcripts, answers and end record as feeding it whole"; the host's loop over single calls
-- is that feeding; each nine bytes are one command, answered once; what waits at the end has as many bytes as the total leaves modulo nine.
-- Assumes nothing.
use Prim.Native.Nat.{ℕ, zero, suc, ◌+◌, ◌-◌, ◌*◌, ◌%◌, ◌≤◌}
use mathlib.Core.Path.{◌≡◌, refl, sym, ap, ◌∙◌}
use mathlib.Core.Bool.{Bool, true, false, cond}
use mathlib.Core.List.{List, [], ◌∷◌, ◌++◌, append_assoc, append-nil}
use native.Mathlib.Omega.{arith}
use borrow.Author.Tests.{eq-eqb, eqb-true, eqb-false, leb-true, leb-false, ne_eqb}
use lib.Dec.{eqb, leb}
use lib.ListN.{length, take, drop, length-append, length-take, length-drop, take-append-drop}
use Rattle.wire.specs.Parts.{joined}
use Rattle.stream.specs.Pending.{gathered, used_by}
use Rattle.stream.specs.Feeding.{Fed, Ran, call_once, calls, completed, feed, feed_cut, gotten, waiting}

module _ {S O : Type 0} (exec : ℕ → List ℕ → S → Ran S O) where
  -- one piece after the other is both at once
  pub feed_append : (xs ys : List ℕ) (w : Fed S O) → feed exec (xs ++ ys) w ≡ feed exec ys (feed exec xs w)
  unfolding feed
  feed_append [] ys w = refl
  feed_append (x ∷ xs) ys w = feed_append xs ys _

  -- "Feeding the stream in any cuts gives the same transcripts, answers and end record as feeding it whole"
  pub any_cuts : (cs : List (List ℕ)) (w : Fed S O) → feed_cut exec cs w ≡ feed exec (joined cs) w
  unfolding feed_cut joined feed
  any_cuts [] w = refl
  any_cuts (c ∷ cs) w = any_cuts cs (feed exec c w) ∙ sym (feed_append c (joined cs) w)

  -- ---- single calls

  nine_not : (p : List ℕ) → length p ≤ 8 → eqb (length p) 9 ≡ false
  nine_not p h = ne_eqb (length p) 9 (λ e. omega arith)

  -- bytes up to the ninth of the command that is waited for
  up_to : (xs : List ℕ) (w : Fed S O) → length w.pending ≤ 8 → length w.pending + length xs ≤ 9 → feed exec xs w ≡ gotten exec (w.pending ++ xs) w
  unfolding feed
  up_to [] w h k = sym (ap (λ (p : List ℕ). gotten exec p w) (append-nil w.pending) ∙ rw (nine_not w.pending h))
  up_to (x ∷ xs) w h k = go (eqb (length (w.pending ++ (x ∷ []))) 9) refl (up_to xs (waiting exec (w.pending ++ (x ∷ [])) w))
    where
      one : List ℕ
      one = w.pending ++ (x ∷ [])

      size : length one ≡ length w.pending + 1
      size = length-append w.pending (x ∷ [])

      go : (t : Bool) → eqb (length one) 9 ≡ t
          → (length one ≤ 8 → length one + length xs ≤ 9 → feed exec xs (waiting exec one w) ≡ gotten exec (one ++ xs) w)
          → feed exec xs (gotten exec one w) ≡ gotten exec (w.pending ++ (x ∷ xs)) w
      go true e again = last xs (omega (arith, size, eqb-true (length one) 9 e))
        where
          last : (ys : List ℕ) → length ys ≤ 0 → feed exec ys (gotten exec one w) ≡ gotten exec (w.pending ++ (x ∷ ys)) w
          last [] z = refl
          last (y ∷ ys) z = absurd (omega arith)
      go false e again =
          ap (feed exec xs) (rw e)
          ∙ again (omega (arith, size, eqb-false (length one) 9 e)) (omega (arith, size))
          ∙ ap (λ (p : List ℕ). gotten exec p w) (append_assoc w.pending (x ∷ []) xs)

  used_bounds : (p chunk : List ℕ) → length p ≤ 8 → (used_by p chunk ≤ length chunk) × (length p + used_by p chunk ≤ 9)
  used_bounds p chunk h = go (leb (9 - length p) (length chunk)) refl
    where
      go : (t : Bool) → leb (9 - length p) (length chunk) ≡ t → (used_by p chunk ≤ length chunk) × (length p + used_by p chunk ≤ 9)
      go true e = rw e (leb-true (9 - length p) (length chunk) e, omega arith)
      go false e = rw e (omega arith, omega (arith, leb-false (9 - length p) (length chunk) e))

  -- a call takes its part of the chunk as the feeding does
  pub one_call : (chunk : List ℕ) (w : Fed S O) → length w.pending ≤ 8
      → feed exec chunk w ≡ feed exec (drop (used_by w.pending chunk) chunk) (call_once exec chunk w)
  unfolding call_once
  one_call chunk w h =
      let u = used_by w.pending chunk in
      let b = used_bounds w.pending chunk h in
      let size : length (take u chunk) ≤ u = simp length-take (omega arith) in
      ap (λ (xs : List ℕ). feed exec xs w) (sym (take-append-drop u chunk))
      ∙ feed_append (take u chunk) (drop u chunk) w
      ∙ ap (feed exec (drop u chunk)) (up_to (take u chunk) w h (omega arith))

  -- what waits after a call is less than a command
  pub less_than_nine : (bytes : List ℕ) (w : Fed S O) → length bytes ≤ 9 → length (gotten exec bytes w).pending ≤ 8
  less_than_nine bytes w h = go (eqb (length bytes) 9) refl
    where
      go : (t : Bool) → eqb (length bytes) 9 ≡ t → length (gotten exec bytes w).pending ≤ 8
      go true e = rw e (omega arith)
      go false e = rw e (let n = eqb-false (length bytes) 9 e in omega arith)

  pub still_less : (chunk : List ℕ) (w : Fed S O) → length w.pending ≤ 8 → length (call_once exec chunk w).pending ≤ 8
  unfolding call_once
  still_less chunk w h =
      let b = used_bounds w.pending chunk h in
      less_than_nine (gathered w.pending chunk) w (simp (length-append, length-take) (omega arith))

  some_used : (p chunk : List ℕ) → length p ≤ 8 → (length chunk ≡ 0 → ⊥) → 1 ≤ used_by p chunk
  some_used p chunk h n = go (leb (9 - length p) (length chunk)) refl
    where
      go : (t : Bool) → leb (9 - length p) (length chunk) ≡ t → 1 ≤ used_by p chunk
      go true e = rw e (omega arith)
      go false e = rw e (omega arith)

  nothing : (xs : List ℕ) (w : Fed S O) → length xs ≡ 0 → w ≡ feed exec xs w
  unfolding feed
  nothing [] w z = refl
  nothing (x ∷ xs) w z = absurd (omega arith)

  -- the host's loop over single calls is the feeding of its chunk
  pub host_loop : (turns : ℕ) (chunk : List ℕ) (w : Fed S O) → length w.pending ≤ 8 → length chunk ≤ turns → calls exec turns chunk w ≡ feed exec chunk w
  unfolding calls
  host_loop zero chunk w h k = nothing chunk w (omega arith)
  host_loop (suc turns) chunk w h k =
      go (eqb (length chunk) 0) refl (host_loop turns (drop (used_by w.pending chunk) chunk) (call_once exec chunk w) (still_less chunk w h))
    where
      go : (t : Bool) → eqb (length chunk) 0 ≡ t
          → (length (drop (used_by w.pending chunk) chunk) ≤ turns
          → calls exec turns (drop (used_by w.pending chunk) chunk) (call_once exec chunk w) ≡ feed exec (drop (used_by w.pending chunk) chunk) (call_once exec chunk w))
          → cond (eqb (length chunk) 0) w (calls exec turns (drop (used_by w.pending chunk) chunk) (call_once exec chunk w)) ≡ feed exec chunk w
      go true e again = rw e (nothing chunk w (eqb-true (length chunk) 0 e))
      go false e again =
          let u = some_used w.pending chunk h (eqb-false (length chunk) 0 e) in
          let b = used_bounds w.pending chunk h in
          let left : length (drop (used_by w.pending chunk) chunk) ≤ turns = simp length-drop (omega arith) in
          rw e (again left ∙ sym (one_call chunk w h))

  -- ---- commands are nine bytes each

  -- a whole command at once
  pub nine_bytes : (nine : List ℕ) (w : Fed S O) → w.pending ≡ [] → length nine ≡ 9 → feed exec nine w ≡ completed exec nine w
  nine_bytes nine w e h =
      let z : length w.pending ≡ 0 = ap length e in
      up_to nine w (omega arith) (omega arith) ∙ ap (λ (p : List ℕ). gotten exec (p ++ nine) w) e ∙ rw (eq-eqb (length nine) 9 h)

  -- after any bytes: how many were fed, how many commands ran and were answered, how many bytes wait
  pub record Counted (bytes : ℕ) (w v : Fed S O) : Type 0 where
    pub all : 9 * v.number + length v.pending ≡ 9 * w.number + length w.pending + bytes
    pub answered : length v.told + w.number ≡ length w.told + v.number
    pub few : length v.pending ≤ 8

  got_one : (b : ℕ) (w : Fed S O) → length w.pending ≤ 8 → Counted 1 w (gotten exec (w.pending ++ (b ∷ [])) w)
  got_one b w h = go (eqb (length (w.pending ++ (b ∷ []))) 9) refl
    where
      size : length (w.pending ++ (b ∷ [])) ≡ length w.pending + 1
      size = length-append w.pending (b ∷ [])

      go : (t : Bool) → eqb (length (w.pending ++ (b ∷ []))) 9 ≡ t
          → Counted 1 w (cond t (completed exec (w.pending ++ (b ∷ [])) w) (waiting exec (w.pending ++ (b ∷ [])) w))
      go true e =
          let nine : length (w.pending ++ (b ∷ [])) ≡ 9 = eqb-true (length (w.pending ++ (b ∷ []))) 9 e in
          record { all = omega (arith, size); answered = simp length-append (omega arith); few = omega arith }
      go false e =
          let n : length (w.pending ++ (b ∷ [])) ≡ 9 → ⊥ = eqb-false (length (w.pending ++ (b ∷ []))) 9 e in
          record { all = omega (arith, size); answered = omega arith; few = omega (arith, size, n) }

  pub counted : (bs : List ℕ) (w : Fed S O) → length w.pending ≤ 8 → Counted (length bs) w (feed exec bs w)
  unfolding feed
  counted [] w h = record { all = omega arith; answered = omega arith; few = h }
  counted (b ∷ bs) w h =
      let one = got_one b w h in
      let rest = counted bs (gotten exec (w.pending ++ (b ∷ [])) w) one.few in
      record { all = omega arith; answered = omega arith; few = rest.few }

  -- "An incomplete command at the end is reported with its length, 1 to 8, and does nothing": of a stream that starts empty
  pub left_over : (bs : List ℕ) (w : Fed S O) → w.pending ≡ [] → length (feed exec bs w).pending ≡ length bs % 9
  left_over bs w e = let z : length w.pending ≡ 0 = ap length e in let k = counted bs w (omega arith) in omega arith

  -- "An incomplete command at the end .. does nothing": nothing changes but what waits
  pub incomplete : (bs : List ℕ) (w : Fed S O) → length w.pending + length bs ≤ 8 → feed exec bs w ≡ waiting exec (w.pending ++ bs) w
  incomplete bs w h =
      up_to bs w (omega arith) (omega arith) ∙ rw (nine_not (w.pending ++ bs) (omega (arith, length-append w.pending bs)))
