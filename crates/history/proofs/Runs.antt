-- Runs of any program with the list as log: what each step that is taken keeps, a run keeps; its entries are counted and only grow; and once a
-- step has failed, at most a closing is made. Assumes nothing.
use Prim.Native.Nat.{ℕ, ◌+◌, ◌≤◌}
use mathlib.Core.Path.{◌≡◌, refl, sym, ap, subst, ◌∙◌}
use mathlib.Core.Bool.{Bool, true, false, true≢false}
use mathlib.Core.List.{List, [], ◌∷◌, ◌++◌, append-nil, append_assoc}
use native.Mathlib.Omega.{arith}
use lib.ListN.{length, length-append}
use Rattle.transcript.specs.declared.Entry.{Entry}
use Rattle.chip.specs.declared.Progress.{Progress}
use Rattle.chip.specs.declared.Progress.TheVariants.{Going, Refused11}
use Rattle.chip.specs.Entries.{repeater}
use Rattle.chip.specs.Steps.{Step, Trace, acts, emit, every, goes, in_list, ok_for, progress_of, run, step, taken}
use Rattle.chip.specs.Steps.Step.{Open, Close, Send, Mask, Plain}
use Rattle.chip.proofs.Laws.{active, and_left, and_right, idle}
use Rattle.history.specs.Histories.{Closing}
use Rattle.history.specs.Histories.Closing.{nothing, closed}

-- a step after which it goes was done
pub done_by : (ok : Bool) (k : ℕ) → progress_of ok k ≡ Going → ok ≡ true
done_by true k h = refl
done_by false k h = absurd (true≢false (sym (ap goes h)))

module _ (os : List ℕ) where
  -- one induction for all that a step keeps
  pub run_keeps : (P : Trace → Type 0) (good : Step → Bool)
      → ((s : Step) (t : Trace) → good s ≡ true → acts s t.progress t.opened ≡ true → P t → P (taken in_list os (ok_for os t.count s) s t))
      → (ss : List Step) (t : Trace) → every good ss ≡ true → P t → P (run in_list os ss t)
  unfolding run every
  run_keeps P good h [] t g p = p
  run_keeps P good h (s ∷ ss) t g p =
      run_keeps P good h ss (step in_list os s t) (and_right (good s) (every good ss) g) (go (acts s t.progress t.opened) refl)
    where
      go : (a : Bool) → acts s t.progress t.opened ≡ a → P (step in_list os s t)
      go false e = subst P (idle in_list os s t e) p
      go true e = subst P (active in_list os s t e) (h s t (and_left (good s) (every good ss) g) e p)

  -- every step
  abbrev any : Step → Bool
  any s = true

  every_any : (ss : List Step) → every any ss ≡ true
  unfolding every
  every_any [] = refl
  every_any (s ∷ ss) = every_any ss

  pub run_always : (P : Trace → Type 0)
      → ((s : Step) (t : Trace) → acts s t.progress t.opened ≡ true → P t → P (taken in_list os (ok_for os t.count s) s t))
      → (ss : List Step) (t : Trace) → P t → P (run in_list os ss t)
  run_always P h ss t p = run_keeps P any (λ s u g a q. h s u a q) ss t (every_any ss) p

  -- ---- counts

  pub counted_taken : (s : Step) (t : Trace) (ok : Bool) → t.count ≡ length t.log → t.count + 1 ≡ length (t.log ++ (emit s t.chip ok ∷ []))
  counted_taken s t ok k = ap (λ (n : ℕ). n + 1) k ∙ sym (length-append t.log (emit s t.chip ok ∷ []))

  pub run_counted : (ss : List Step) (t : Trace) → t.count ≡ length t.log → (run in_list os ss t).count ≡ length (run in_list os ss t).log
  run_counted ss t k =
      run_always (λ (u : Trace). u.count ≡ length u.log) (λ s u a q. counted_taken s u (ok_for os u.count s) q) ss t k

  step_most : (s : Step) (t : Trace) → (step in_list os s t).count ≤ t.count + 1
  step_most s t = go (acts s t.progress t.opened) refl
    where
      go : (a : Bool) → acts s t.progress t.opened ≡ a → (step in_list os s t).count ≤ t.count + 1
      go false e = subst (λ (u : Trace). u.count ≤ t.count + 1) (idle in_list os s t e) (omega arith)
      go true e = subst (λ (u : Trace). u.count ≤ t.count + 1) (active in_list os s t e) (omega arith)

  -- at most one entry for each step
  pub run_most : (ss : List Step) (t : Trace) → (run in_list os ss t).count ≤ t.count + length ss
  unfolding run
  run_most [] t = omega arith
  run_most (s ∷ ss) t = omega (arith, run_most ss (step in_list os s t), step_most s t)

  -- ---- the entries before

  pub run_log : (ss : List Step) (t : Trace) → (later : List Entry) × ((run in_list os ss t).log ≡ t.log ++ later)
  run_log ss t = run_always (λ (u : Trace). (later : List Entry) × (u.log ≡ t.log ++ later)) grow ss t ([], sym (append-nil t.log))
    where
      grow : (s : Step) (u : Trace) → acts s u.progress u.opened ≡ true → (later : List Entry) × (u.log ≡ t.log ++ later)
          → (later : List Entry) × ((taken in_list os (ok_for os u.count s) s u).log ≡ t.log ++ later)
      grow s u a q =
          let e : Entry = emit s u.chip (ok_for os u.count s) in
          (q.0 ++ (e ∷ []), ap (λ (l : List Entry). l ++ (e ∷ [])) q.1 ∙ append_assoc t.log q.0 (e ∷ []))

  -- ---- a step has failed

  acts_shut : (s : Step) (progress : Progress) (opened : Bool) → goes progress ≡ false → opened ≡ false → acts s progress opened ≡ false
  acts_shut Open progress opened g h = g
  acts_shut Close progress opened g h = h
  acts_shut (Send n bytes) progress opened g h = g
  acts_shut (Mask r v m) progress opened g h = g
  acts_shut (Plain e) progress opened g h = g

  -- with the repeater shut nothing more is done
  pub shut_run : (ss : List Step) (t : Trace) → goes t.progress ≡ false → t.opened ≡ false → t ≡ run in_list os ss t
  unfolding run
  shut_run [] t g h = refl
  shut_run (s ∷ ss) t g h = shut_run ss t g h ∙ ap (run in_list os ss) (idle in_list os s t (acts_shut s t.progress t.opened g h))

  -- what is left of a program after its failing step
  pub record Rest (t u : Trace) : Type 0 where
    pub closing : List Entry
    pub progress : u.progress ≡ t.progress
    pub log : u.log ≡ t.log ++ closing
    pub closes : Closing closing
    pub shut : t.opened ≡ false → closing ≡ []

  rest_none : (t : Trace) → Rest t t
  rest_none t = record { closing = []; progress = refl; log = sym (append-nil t.log); closes = nothing; shut = λ h. refl }

  rest_idle : (s : Step) (ss : List Step) (t : Trace) → acts s t.progress t.opened ≡ false → Rest t (run in_list os ss t) → Rest t (run in_list os (s ∷ ss) t)
  unfolding run
  rest_idle s ss t a r = subst (λ (u : Trace). Rest t (run in_list os ss u)) (idle in_list os s t a) r

  rest_close : (ss : List Step) (t : Trace) → goes t.progress ≡ false → t.opened ≡ true → Rest t (run in_list os (Close ∷ ss) t)
  unfolding run
  rest_close ss t g h =
      let ok : Bool = ok_for os t.count Close in
      let u : Trace = taken in_list os ok Close t in
      let one : Rest t u = record { closing = repeater 0 ok ∷ []; progress = refl; log = refl; closes = closed ok; shut = λ f. absurd (true≢false (sym h ∙ f)) } in
      subst (λ (v : Trace). Rest t (run in_list os ss v)) (active in_list os Close t h) (subst (Rest t) (shut_run ss u g refl) one)

  rest_opened : (ss : List Step) (t : Trace) → goes t.progress ≡ false → t.opened ≡ true → Rest t (run in_list os ss t)
  unfolding run
  rest_opened [] t g h = rest_none t
  rest_opened (Open ∷ ss) t g h = rest_idle Open ss t g (rest_opened ss t g h)
  rest_opened (Close ∷ ss) t g h = rest_close ss t g h
  rest_opened (Send n bytes ∷ ss) t g h = rest_idle (Send n bytes) ss t g (rest_opened ss t g h)
  rest_opened (Mask r v m ∷ ss) t g h = rest_idle (Mask r v m) ss t g (rest_opened ss t g h)
  rest_opened (Plain e ∷ ss) t g h = rest_idle (Plain e) ss t g (rest_opened ss t g h)

  pub stopped_run : (ss : List Step) (t : Trace) → goes t.progress ≡ false → Rest t (run in_list os ss t)
  stopped_run ss t g = go t.opened refl
    where
      go : (b : Bool) → t.opened ≡ b → Rest t (run in_list os ss t)
      go true h = rest_opened ss t g h
      go false h = subst (Rest t) (shut_run ss t g h) (rest_none t)

  -- a run that goes was going before
  pub going_before : (ss : List Step) (t : Trace) → (run in_list os ss t).progress ≡ Going → t.progress ≡ Going
  going_before ss t h = go t.progress refl
    where
      go : (w : Progress) → t.progress ≡ w → t.progress ≡ Going
      go Going e = e
      go (Refused11 k) e = absurd (true≢false (ap goes (sym h ∙ (stopped_run ss t (ap goes e)).progress ∙ e)))
