-- The runs of any set of registers: each register of the set is in one of them, no other in any, no list of runs of at most seven that says the same is
-- shorter, and how many they can be.
-- Assumes nothing.
use Prim.Native.Nat.{ℕ, zero, suc, ◌+◌, ◌-◌, ◌*◌, ◌≤◌, ◌<◌}
use mathlib.Core.Path.{◌≡◌, refl, sym, ap, ◌∙◌}
use mathlib.Core.Bool.{Bool, true, false, cond, true≢false, false≢true}
use mathlib.Core.List.{List, [], ◌∷◌}
use native.Mathlib.Omega.{arith}
use borrow.Author.Tests.{leb-true, leb-false, ltb-true, ltb-false, le-leb, lt-leb, lt-ltb, le-ltb}
use lib.Dec.{leb, ltb}
use lib.ListN.{length}
use Rattle.restore.specs.Restore.{Exactly, Run, Short, any_run, in_run, run_of, run_len, runs, runs_with}

in_run_lem : (r : ℕ) (w : Run) → w.first ≤ r → r < w.first + w.size → in_run r w ≡ true
in_run_lem r w h k = rw (le-leb w.first r h, lt-ltb r (w.first + w.size) k)

under_run : (r : ℕ) (w : Run) → r < w.first → in_run r w ≡ false
under_run r w h = rw (lt-leb w.first r h)

after_run : (r : ℕ) (w : Run) → w.first + w.size ≤ r → in_run r w ≡ false
after_run r w h = rw (le-leb w.first r (omega arith), le-ltb r (w.first + w.size) h)

pub of_run : (r : ℕ) (w : Run) → in_run r w ≡ true → (w.first ≤ r) × (r < w.first + w.size)
of_run r w h = go (leb w.first r) refl
  where
    go : (b : Bool) → leb w.first r ≡ b → (w.first ≤ r) × (r < w.first + w.size)
    go true t = (leb-true w.first r t, ltb-true r (w.first + w.size) (rw t at h))
    go false t = absurd (false≢true (rw t at h))

module _ (sure : ℕ → Bool) where
  pub run_most : (k i : ℕ) → run_len sure k i ≤ k
  unfolding run_len
  run_most zero i = omega arith
  run_most (suc k) i = go (sure i) refl (run_most k (suc i))
    where
      go : (b : Bool) → sure i ≡ b → run_len sure k (suc i) ≤ k → run_len sure (suc k) i ≤ suc k
      go true t h = rw t (omega arith)
      go false t h = rw t (omega arith)

  run_in : (k i r : ℕ) → i ≤ r → r < i + run_len sure k i → sure r ≡ true
  unfolding run_len
  run_in zero i r h l = absurd (omega arith)
  run_in (suc k) i r h l = go (sure i) refl (run_in k (suc i) r)
    where
      same : r ≡ i → sure i ≡ true → sure r ≡ true
      same e t = ap sure e ∙ t

      go : (b : Bool) → sure i ≡ b → (suc i ≤ r → r < suc i + run_len sure k (suc i) → sure r ≡ true) → sure r ≡ true
      go true t rest = split (leb (suc i) r) refl
        where
          split : (b : Bool) → leb (suc i) r ≡ b → sure r ≡ true
          split true u = rest (leb-true (suc i) r u) (omega (arith, rw t at l))
          split false u =
              let e : r ≡ i = omega (arith, leb-false (suc i) r u) in
              same e t
      go false t rest = absurd (omega (arith, rw t at l))

  run_stop : (k i : ℕ) → run_len sure k i < k → sure (i + run_len sure k i) ≡ false
  unfolding run_len
  run_stop zero i h = absurd (omega arith)
  run_stop (suc k) i h = go (sure i) refl (run_stop k (suc i))
    where
      go : (b : Bool) → sure i ≡ b → (run_len sure k (suc i) < k → sure (suc i + run_len sure k (suc i)) ≡ false) → sure (i + run_len sure (suc k) i) ≡ false
      go true t rest =
          let e : i + suc (run_len sure k (suc i)) ≡ suc i + run_len sure k (suc i) = omega arith in
          rw (t, e) (rest (omega (arith, rw t at h)))
      go false t rest =
          let e : i + 0 ≡ i = omega arith in
          rw (t, e) t

  pub run_some : (k i : ℕ) → sure i ≡ true → 0 < run_len sure (suc k) i
  unfolding run_len
  run_some k i t = rw t (omega arith)

  -- registers of the set that follow one another from i to e lie in the run at i
  reach : (k i e : ℕ) → ((r : ℕ) → i ≤ r → r < e → sure r ≡ true) → e ≤ i + k → e ≤ i + run_len sure k i
  unfolding run_len
  reach zero i e h l = omega arith
  reach (suc k) i e h l = go (ltb i e) refl (reach k (suc i) e (λ r a b. h r (omega arith) b) (omega arith))
    where
      go : (b : Bool) → ltb i e ≡ b → e ≤ suc i + run_len sure k (suc i) → e ≤ i + run_len sure (suc k) i
      go true t rest = rw (h i (omega arith) (ltb-true i e t)) (omega arith)
      go false t rest = omega (arith, ltb-false i e t)

  -- ---- one step of the list

  pub at_sure : (n i : ℕ) → sure i ≡ true → runs sure (suc n) i ≡ run_of i (run_len sure 7 i) ∷ runs sure n (i + run_len sure 7 i)
  unfolding runs
  at_sure n i t = rw t

  pub at_doubt : (n i : ℕ) → sure i ≡ false → runs sure (suc n) i ≡ runs sure n (suc i)
  unfolding runs
  at_doubt n i t = rw t

  -- ---- exactly these

  -- nothing below where it starts
  none_below : (n i r : ℕ) → r < i → runs_with r (runs sure n i) ≡ []
  unfolding runs
  none_below zero i r h = refl
  none_below (suc n) i r h = go (sure i) refl (none_below n (i + run_len sure 7 i) r (omega arith)) (none_below n (suc i) r (omega arith))
    where
      go : (b : Bool) → sure i ≡ b → runs_with r (runs sure n (i + run_len sure 7 i)) ≡ [] → runs_with r (runs sure n (suc i)) ≡ []
          → runs_with r (runs sure (suc n) i) ≡ []
      go true t first second = rw (t, under_run r (run_of i (run_len sure 7 i)) h) first
      go false t first second = rw t second

  -- a register that is not in the set is in no run
  pub doubt_none : (n i r : ℕ) → sure r ≡ false → runs_with r (runs sure n i) ≡ []
  unfolding runs
  doubt_none zero i r d = refl
  doubt_none (suc n) i r d = go (sure i) refl (doubt_none n (i + run_len sure 7 i) r d) (doubt_none n (suc i) r d)
    where
      out : (b : Bool) → in_run r (run_of i (run_len sure 7 i)) ≡ b → in_run r (run_of i (run_len sure 7 i)) ≡ false
      out true t =
          let at = of_run r (run_of i (run_len sure 7 i)) t in
          absurd (false≢true (sym d ∙ run_in 7 i r at.0 at.1))
      out false t = t

      go : (b : Bool) → sure i ≡ b → runs_with r (runs sure n (i + run_len sure 7 i)) ≡ [] → runs_with r (runs sure n (suc i)) ≡ []
          → runs_with r (runs sure (suc n) i) ≡ []
      go true t first second = rw (t, out (in_run r (run_of i (run_len sure 7 i))) refl) first
      go false t first second = rw t second

  -- and one of the set is in one, of at most seven
  abbrev pub One : ℕ → List Run → Type 0
  One r ws = (w : Run) × (runs_with r ws ≡ w ∷ []) × (in_run r w ≡ true) × (w.size ≤ 7)

  pub sure_one : (n i r : ℕ) → i ≤ r → r < i + n → sure r ≡ true → One r (runs sure n i)
  unfolding runs
  sure_one zero i r h l t = absurd (omega arith)
  sure_one (suc n) i r h l t =
      go (sure i) refl (sure_one n (i + run_len sure 7 i) r) (sure_one n (suc i) r)
    where
      w : Run
      w = run_of i (run_len sure 7 i)

      later : (b : Bool) → ltb r (i + run_len sure 7 i) ≡ b → sure i ≡ true
          → (i + run_len sure 7 i ≤ r → r < i + run_len sure 7 i + n → sure r ≡ true → One r (runs sure n (i + run_len sure 7 i)))
          → One r (w ∷ runs sure n (i + run_len sure 7 i))
      later true u s rest =
          let here : in_run r w ≡ true = in_run_lem r w h (ltb-true r (i + run_len sure 7 i) u) in
          let none = none_below n (i + run_len sure 7 i) r (ltb-true r (i + run_len sure 7 i) u) in
          (w, rw (here, none), here, run_most 7 i)
      later false u s rest =
          let past = ltb-false r (i + run_len sure 7 i) u in
          let out : in_run r w ≡ false = after_run r w past in
          let one = rest past (omega (arith, run_some 6 i s)) t in
          (one.0, rw out one.1, one.2, one.3)

      go : (b : Bool) → sure i ≡ b
          → (i + run_len sure 7 i ≤ r → r < i + run_len sure 7 i + n → sure r ≡ true → One r (runs sure n (i + run_len sure 7 i)))
          → (suc i ≤ r → r < suc i + n → sure r ≡ true → One r (runs sure n (suc i)))
          → One r (runs sure (suc n) i)
      go true s first second = rw s (later (ltb r (i + run_len sure 7 i)) refl s first)
      go false s first second = rw s (second (after s (leb (suc i) r) refl) (omega arith) t)
        where
          after : sure i ≡ false → (b : Bool) → leb (suc i) r ≡ b → suc i ≤ r
          after s true u = leb-true (suc i) r u
          after s false u =
              let e : i ≡ r = omega (arith, leb-false (suc i) r u) in
              absurd (true≢false (sym t ∙ sym (ap sure e) ∙ s))

  -- ---- none is shorter

  -- how many runs of a list end after i
  abbrev past : ℕ → List Run → ℕ
  past i [] = 0
  past i (w ∷ ws) = cond (ltb i (w.first + w.size)) (suc (past i ws)) (past i ws)

  past_all : (i : ℕ) (ws : List Run) → past i ws ≤ length ws
  past_all i [] = omega arith
  past_all i (w ∷ ws) = go (ltb i (w.first + w.size)) refl (past_all i ws)
    where
      go : (b : Bool) → ltb i (w.first + w.size) ≡ b → past i ws ≤ length ws → past i (w ∷ ws) ≤ suc (length ws)
      go true t h = rw t (omega arith)
      go false t h = rw t (omega arith)

  past_less : (i e : ℕ) (ws : List Run) → i ≤ e → past e ws ≤ past i ws
  past_less i e [] h = omega arith
  past_less i e (w ∷ ws) h = go (ltb e (w.first + w.size)) (ltb i (w.first + w.size)) refl refl (past_less i e ws h)
    where
      go : (a b : Bool) → ltb e (w.first + w.size) ≡ a → ltb i (w.first + w.size) ≡ b → past e ws ≤ past i ws → past e (w ∷ ws) ≤ past i (w ∷ ws)
      go true true s t k = rw (s, t) (omega arith)
      go true false s t k = absurd (omega (arith, ltb-true e (w.first + w.size) s, ltb-false i (w.first + w.size) t))
      go false true s t k = rw (s, t) (omega arith)
      go false false s t k = rw (s, t) k

  abbrev Inside : List Run → Type 0
  Inside [] = Unit {0}
  Inside (w ∷ ws) = ((r : ℕ) → in_run r w ≡ true → sure r ≡ true) × Inside ws

  inside : (ws : List Run) → ((r : ℕ) → any_run r ws ≡ true → sure r ≡ true) → Inside ws
  inside [] h = tt
  inside (w ∷ ws) h = ((λ r t. h r (rw t)), inside ws (λ r t. h r (either r t (in_run r w) refl)))
    where
      either : (r : ℕ) → any_run r ws ≡ true → (b : Bool) → in_run r w ≡ b → any_run r (w ∷ ws) ≡ true
      either r t true u = rw u
      either r t false u = rw u t

  -- a run that names i ends by the end of the run at i
  ends : (i : ℕ) (w : Run) → w.size ≤ 7 → ((r : ℕ) → in_run r w ≡ true → sure r ≡ true) → in_run i w ≡ true
      → w.first + w.size ≤ i + run_len sure 7 i
  ends i w short h t =
      let at = of_run i w t in
      reach 7 i (w.first + w.size) (λ r a b. h r (in_run_lem r w (omega arith) b)) (omega arith)

  fewer : (i : ℕ) (ws : List Run) → Short ws → Inside ws → any_run i ws ≡ true → suc (past (i + run_len sure 7 i) ws) ≤ past i ws
  fewer i [] s h t = absurd (false≢true t)
  fewer i (w ∷ ws) s h t = go (in_run i w) refl (fewer i ws s.1 h.1)
    where
      e : ℕ
      e = i + run_len sure 7 i

      go : (b : Bool) → in_run i w ≡ b → (any_run i ws ≡ true → suc (past e ws) ≤ past i ws) → suc (past e (w ∷ ws)) ≤ past i (w ∷ ws)
      go true u rest =
          let at = of_run i w u in
          let less = past_less i e ws (omega arith) in
          rw (lt-ltb i (w.first + w.size) at.1, le-ltb e (w.first + w.size) (ends i w s.0 h.0 u)) (omega arith)
      go false u rest =
          let more = rest (rw u at t) in
          both (ltb e (w.first + w.size)) (ltb i (w.first + w.size)) refl refl more
        where
          both : (a b : Bool) → ltb e (w.first + w.size) ≡ a → ltb i (w.first + w.size) ≡ b → suc (past e ws) ≤ past i ws
              → suc (past e (w ∷ ws)) ≤ past i (w ∷ ws)
          both true true s t k = rw (s, t) (omega arith)
          both true false s t k = absurd (omega (arith, ltb-true e (w.first + w.size) s, ltb-false i (w.first + w.size) t))
          both false true s t k = rw (s, t) (omega arith)
          both false false s t k = rw (s, t) k

  least : (n i : ℕ) (ws : List Run) → Exactly sure ws → Inside ws → length (runs sure n i) ≤ past i ws
  unfolding runs
  least zero i ws x h = omega arith
  least (suc n) i ws x h = go (sure i) refl (least n (i + run_len sure 7 i) ws x h) (least n (suc i) ws x h)
    where
      go : (b : Bool) → sure i ≡ b → length (runs sure n (i + run_len sure 7 i)) ≤ past (i + run_len sure 7 i) ws
          → length (runs sure n (suc i)) ≤ past (suc i) ws → length (runs sure (suc n) i) ≤ past i ws
      go true t first second =
          let one = fewer i ws x.short h (x.named i ∙ t) in
          rw t (omega arith)
      go false t first second =
          let less = past_less i (suc i) ws (omega arith) in
          rw t (omega arith)

  -- "No list of writes of at most seven consecutive registers that names exactly these registers has fewer writes": the other list may name one twice
  pub minimal : (n i : ℕ) (ws : List Run) → Exactly sure ws → length (runs sure n i) ≤ length ws
  minimal n i ws x =
      let a = least n i ws x (inside ws (λ r t. sym (x.named r) ∙ t)) in
      let b = past_all i ws in
      omega arith

  -- ---- how many

  module _ (end : ℕ) (bound : (r : ℕ) → sure r ≡ true → r < end) where
    counted : (n : ℕ) → ((i : ℕ) → 2 * length (runs sure n i) ≤ end + 1 - i) × ((i : ℕ) → sure i ≡ false → 2 * length (runs sure n i) ≤ end - i)
    unfolding runs
    counted zero = ((λ i. omega arith), (λ i d. omega arith))
    counted (suc n) = (any (counted n), doubtful (counted n).0)
      where
        doubtful : ((i : ℕ) → 2 * length (runs sure n i) ≤ end + 1 - i) → (i : ℕ) → sure i ≡ false → 2 * length (runs sure (suc n) i) ≤ end - i
        doubtful p i d =
            let h = p (suc i) in
            rw d (omega arith)

        any : ((i : ℕ) → 2 * length (runs sure n i) ≤ end + 1 - i) × ((i : ℕ) → sure i ≡ false → 2 * length (runs sure n i) ≤ end - i)
            → (i : ℕ) → 2 * length (runs sure (suc n) i) ≤ end + 1 - i
        any p i = go (sure i) refl
          where
            m : ℕ
            m = run_len sure 7 i

            go : (b : Bool) → sure i ≡ b → 2 * length (runs sure (suc n) i) ≤ end + 1 - i
            go true t = long (ltb (run_len sure 7 i) 7) refl
              where
                long : (b : Bool) → ltb (run_len sure 7 i) 7 ≡ b → 2 * length (runs sure (suc n) i) ≤ end + 1 - i
                long true u =
                    let h = p.1 (i + run_len sure 7 i) (run_stop 7 i (ltb-true (run_len sure 7 i) 7 u)) in
                    let some = run_some 6 i t in
                    let low = bound i t in
                    rw t (omega arith)
                long false u =
                    let h = p.0 (i + run_len sure 7 i) in
                    let full = ltb-false (run_len sure 7 i) 7 u in
                    let low = bound i t in
                    rw t (omega arith)
            go false t =
                let h = p.0 (suc i) in
                rw t (omega arith)

    pub few : (n i : ℕ) → 2 * length (runs sure n i) ≤ end + 1 - i
    few n i = (counted n).0 i
