-- Replies are taken in the order of reading: each read of a run has the next ones. Document 01: "reply bytes in order of reading". Assumes nothing.
use Prim.Native.Nat.{ℕ, ◌+◌, ◌≤◌}
use mathlib.Core.Path.{◌≡◌, refl, sym, ap, subst, ◌∙◌}
use mathlib.Core.Bool.{Bool, true, false, cond, ◌&&◌, false≢true}
use mathlib.Core.List.{List, [], ◌∷◌, ◌++◌, append-nil}
use native.Mathlib.Omega.{arith}
use borrow.Author.Tests.{not-true}
use Rattle.transcript.specs.declared.Entry.{Entry}
use Rattle.transcript.specs.Table.{is_read}
use Rattle.chip.specs.declared.Chip.{Chip}
use Rattle.chip.specs.declared.Progress.{Progress}
use Rattle.chip.specs.declared.Progress.TheVariants.{Going}
use Rattle.chip.specs.Entries.{repeater, with_outcome}
use Rattle.chip.specs.Steps.{Step, Trace, acts, emit, goes, in_list, line, ok_for, run, step, taken, trace, progress_for}
use Rattle.chip.specs.Steps.Step.{Open, Close, Send, Mask, Plain}
use Rattle.chip.proofs.Laws.{active, idle}
use Rattle.history.proofs.Runs.{run_log}
use Rattle.rounds.specs.Scripts.{Fills, InOrder, takes, took}
use Rattle.rounds.proofs.Alike.{Alike, mute, shuts, shutting, stopped_log, took_append, took_read}
use Rattle.rounds.proofs.Alike.Alike.{none, same, read}

-- a step that reads nothing makes no read
mute_emit : (s : Step) (c : Chip) (ok : Bool) → mute s ≡ true → is_read (emit s c ok).kind ≡ false
mute_emit Open c ok m = refl
mute_emit Close c ok m = refl
mute_emit (Send n bytes) c ok m = refl
mute_emit (Mask r v x) c ok m = refl
mute_emit (Plain e) c ok m = not-true (is_read e.kind) m

was_going : (s : Step) (ok : Bool) (k : ℕ) (progress : Progress) (opened : Bool) → acts s progress opened ≡ true → goes (progress_for s ok k progress) ≡ true → goes progress ≡ true
was_going Open ok k progress opened a h = a
was_going Close ok k progress opened a h = h
was_going (Send n bytes) ok k progress opened a h = a
was_going (Mask r v m) ok k progress opened a h = a
was_going (Plain e) ok k progress opened a h = a

took_past : (es : List Entry) (e : Entry) → is_read e.kind ≡ false → took (es ++ (e ∷ [])) ≡ took es
unfolding took
took_past es e h = took_append es (e ∷ []) ∙ rw h (omega arith)

module _ (qs : List ℕ) where
  -- one entry more
  order_next : (at : ℕ) (es : List Entry) (e : Entry) → InOrder qs at es → (is_read e.kind ≡ true → Fills qs (at + took es) (takes e) e.bytes)
      → InOrder qs at (es ++ (e ∷ []))
  unfolding took
  order_next at [] e o h =
      let here : at + 0 ≡ at = omega arith in
      (subst (λ (j : ℕ). is_read e.kind ≡ true → Fills qs j (takes e) e.bytes) here h, tt)
  order_next at (x ∷ es) e o h =
      let here : at + (takes x + took es) ≡ at + takes x + took es = omega arith in
      (o.0, order_next (at + takes x) es e o.1 (subst (λ (j : ℕ). is_read e.kind ≡ true → Fills qs j (takes e) e.bytes) here h))

  order_past : (es : List Entry) (e : Entry) → InOrder qs 0 es → is_read e.kind ≡ false → InOrder qs 0 (es ++ (e ∷ []))
  order_past es e o h = order_next 0 es e o (λ r. absurd (false≢true (sym h ∙ r)))

  -- a failed read has zeros, and a done one its replies
  failed_fills : (at : ℕ) (d : Entry) → is_read d.kind ≡ true → Fills qs at (takes (with_outcome d false)) (with_outcome d false).bytes
  failed_fills at d r = rw r (λ h. refl)

  done_fills : (at : ℕ) (d : Entry) → is_read d.kind ≡ true → Fills qs at d.n d.bytes → Fills qs at (takes (with_outcome d true)) (with_outcome d true).bytes
  done_fills at d r f = rw r f

  module _ (os : List ℕ) (k : ℕ) where
    -- after a failed step
    order_stopped : (ss : List Step) (t : Trace) → goes t.progress ≡ false → InOrder qs 0 t.log → InOrder qs 0 (run in_list os ss t).log
    order_stopped ss t g o = subst (InOrder qs 0) (sym (stopped_log os ss t g)) (go (t.opened && shuts ss))
      where
        go : (b : Bool) → InOrder qs 0 (t.log ++ cond b (shutting os t) [])
        go true = order_past t.log (repeater 0 (ok_for os t.count Close)) o refl
        go false = subst (InOrder qs 0) (sym (append-nil t.log)) o

    -- `at` replies were taken, as long as no step failed
    abbrev Counts : ℕ → Trace → Type 0
    Counts at t = goes t.progress ≡ true → at ≡ took t.log

    -- what is left of a program, from where `at` replies were taken
    abbrev Rest : ℕ → List Step → Type 0
    Rest at ss = (t : Trace) → Counts at t → took (run in_list os ss t).log ≤ k → InOrder qs 0 t.log → InOrder qs 0 (run in_list os ss t).log

    order_same : (at : ℕ) (s : Step) (ss : List Step) → mute s ≡ true → Rest at ss
        → (t : Trace) → Counts at t → took (run in_list os ss (step in_list os s t)).log ≤ k → InOrder qs 0 t.log → InOrder qs 0 (run in_list os ss (step in_list os s t)).log
    order_same at s ss m rest t c h o = go (acts s t.progress t.opened) refl
      where
        ok : Bool
        ok = ok_for os t.count s

        quiet : is_read (emit s t.chip ok).kind ≡ false
        quiet = mute_emit s t.chip ok m

        go : (b : Bool) → acts s t.progress t.opened ≡ b → InOrder qs 0 (run in_list os ss (step in_list os s t)).log
        go false a =
            subst (λ (u : Trace). InOrder qs 0 (run in_list os ss u).log) (idle in_list os s t a)
            (rest t c (subst (λ (u : Trace). took (run in_list os ss u).log ≤ k) (sym (idle in_list os s t a)) h) o)
        go true a =
            subst (λ (u : Trace). InOrder qs 0 (run in_list os ss u).log) (active in_list os s t a)
            (rest (taken in_list os ok s t) (λ g. c (was_going s ok t.count t.progress t.opened a g) ∙ sym (took_past t.log (emit s t.chip ok) quiet))
            (subst (λ (u : Trace). took (run in_list os ss u).log ≤ k) (sym (active in_list os s t a)) h)
            (order_past t.log (emit s t.chip ok) o quiet))

    order_read : (at : ℕ) (d : Entry) (ss : List Step) → is_read d.kind ≡ true → Fills qs at d.n d.bytes → (at + d.n ≤ k → Rest (at + d.n) ss)
        → (t : Trace) → Counts at t → took (run in_list os ss (step in_list os (Plain d) t)).log ≤ k → InOrder qs 0 t.log
        → InOrder qs 0 (run in_list os ss (step in_list os (Plain d) t)).log
    order_read at d ss r f rest t c h o = go (goes t.progress) refl (ok_for os t.count (Plain d)) refl
      where
        here : goes t.progress ≡ true → (ok : Bool) → ok_for os t.count (Plain d) ≡ ok → taken in_list os ok (Plain d) t ≡ step in_list os (Plain d) t
        here a ok e = ap (λ (b : Bool). taken in_list os b (Plain d) t) (sym e) ∙ active in_list os (Plain d) t a

        go : (b : Bool) → goes t.progress ≡ b → (ok : Bool) → ok_for os t.count (Plain d) ≡ ok → InOrder qs 0 (run in_list os ss (step in_list os (Plain d) t)).log
        go false a ok e = subst (λ (u : Trace). InOrder qs 0 (run in_list os ss u).log) (idle in_list os (Plain d) t a) (order_stopped ss t a o)
        go true a false e =
            subst (λ (u : Trace). InOrder qs 0 (run in_list os ss u).log) (here a false e)
            (order_stopped ss (taken in_list os false (Plain d) t) refl (order_next 0 t.log (with_outcome d false) o (λ x. failed_fills (0 + took t.log) d r)))
        go true a true e =
            let v : Trace = taken in_list os true (Plain d) t in
            let more : took v.log ≡ took t.log + d.n = took_read t.log d r in
            let so_far : at ≡ took t.log = c a in
            let all : took (run in_list os ss v).log ≤ k = subst (λ (u : Trace). took (run in_list os ss u).log ≤ k) (sym (here a true e)) h in
            let later = run_log os ss v in
            let known : at + d.n ≤ k = omega (arith, ap took later.1, took_append v.log later.0) in
            let place : at ≡ 0 + took t.log = omega arith in
            subst (λ (u : Trace). InOrder qs 0 (run in_list os ss u).log) (here a true e)
            (rest known v (λ g. omega arith) all
            (order_next 0 t.log (with_outcome d true) o (λ x. done_fills (0 + took t.log) d r (subst (λ (j : ℕ). Fills qs j d.n d.bytes) place f))))

    order_run : {at : ℕ} {ss ts : List Step} → Alike k qs at ss ts → Rest at ss
    unfolding run
    order_run none t c h o = o
    order_run {at} (same {ss = ss} s m a) t c h o = order_same at s ss m (λ u. order_run a u) t c h o
    order_run {at} (read {ss = ss} d e r b f q x a) t c h o = order_read at d ss r f (λ l u. order_run (a l) u) t c h o

    pub order_trace : {ss ts : List Step} → Alike k qs 0 ss ts → (c : Chip) → took (trace os ss c).log ≤ k → InOrder qs 0 (trace os ss c).log
    unfolding trace took
    order_trace a c h = order_run a (line c [] 0 Going false) (λ g. refl) h tt
