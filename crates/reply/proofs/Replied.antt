-- What a host is told of any call with steps, for every program, outcomes and record. Document 01, "Refusal numbers": "A refused call's value is 0; 11
-- also gives the failing entry's index"; "Language forms by place": "a definition that gives this paper's number and values for each case of the enum".
-- Assumes nothing.
use Prim.Native.Nat.{ℕ, zero, suc, ◌+◌, ◌%◌}
use mathlib.Core.Path.{◌≡◌, refl, sym, ap, subst, ◌∙◌}
use mathlib.Core.Bool.{Bool, true, false, true≢false}
use mathlib.Core.List.{List, [], ◌∷◌, ◌++◌}
use native.Mathlib.Omega.{arith}
use lib.ListN.{length, length-append}
use Rattle.transcript.specs.declared.Entry.{Entry}
use Rattle.refusals.specs.declared.Answer.{Answer}
use Rattle.chip.specs.declared.Chip.{Chip}
use Rattle.chip.specs.declared.Progress.{Progress}
use Rattle.chip.specs.declared.Progress.TheVariants.{Going, Refused11}
use Rattle.chip.specs.Calls.{Called, answer_of, call_of}
use Rattle.chip.specs.Steps.{Step, Trace, acts, emit, goes, in_list, line, ok_for, run, step, progress_of, trace, progress_for}
use Rattle.chip.specs.Steps.Step.{Open, Close, Send, Mask, Plain}
use Rattle.chip.proofs.Laws.{active, idle}
use Rattle.chip.proofs.Taken.{performs, refuses}
use Rattle.reply.specs.Replies.{call_reply, numbers_told, outcome_at, reply_of}

-- ---- entries by their index

snoc_new : (es : List Entry) (e : Entry) → outcome_at (es ++ (e ∷ [])) (length es) ≡ e.outcome
unfolding outcome_at
snoc_new [] e = refl
snoc_new (x ∷ es) e = snoc_new es e

snoc_old : (es : List Entry) (e : Entry) (i : ℕ) → outcome_at es i ≡ 1 → outcome_at (es ++ (e ∷ [])) i ≡ 1
unfolding outcome_at
snoc_old [] e i h = absurd (omega (arith, h))
snoc_old (x ∷ es) e zero h = h
snoc_old (x ∷ es) e (suc i) h = snoc_old es e i h

-- ---- a step that failed has left an entry that says so

emit_failed : (s : Step) (c : Chip) → (emit s c false).outcome ≡ 1
emit_failed Open c = refl
emit_failed Close c = refl
emit_failed (Send n bytes) c = refl
emit_failed (Mask r v m) c = refl
emit_failed (Plain e) c = refl

index_in : Progress → ℕ
index_in Going = 0
index_in (Refused11 k) = k

record Marked (t : Trace) : Type 0 where
  counted : t.count ≡ length t.log
  failed : (i : ℕ) → t.progress ≡ Refused11 i → outcome_at t.log i ≡ 1

-- a step other than a closing tells how it went; a closing leaves that as it was
told_new : (s : Step) (t : Trace) (ok : Bool) → t.count ≡ length t.log → (i : ℕ) → progress_of ok t.count ≡ Refused11 i
    → outcome_at (t.log ++ (emit s t.chip ok ∷ [])) i ≡ 1
unfolding index_in
told_new s t true k i h = absurd (true≢false (ap goes h))
told_new s t false k i h =
    subst (λ (j : ℕ). outcome_at (t.log ++ (emit s t.chip false ∷ [])) j ≡ 1) (sym k ∙ ap index_in h) (snoc_new t.log (emit s t.chip false) ∙ emit_failed s t.chip)

told_step : (s : Step) (t : Trace) (ok : Bool) → Marked t → (i : ℕ) → progress_for s ok t.count t.progress ≡ Refused11 i
    → outcome_at (t.log ++ (emit s t.chip ok ∷ [])) i ≡ 1
told_step Open t ok m i h = told_new Open t ok m.counted i h
told_step Close t ok m i h = snoc_old t.log (emit Close t.chip ok) i (m.failed i h)
told_step (Send n bytes) t ok m i h = told_new (Send n bytes) t ok m.counted i h
told_step (Mask r v k) t ok m i h = told_new (Mask r v k) t ok m.counted i h
told_step (Plain e) t ok m i h = told_new (Plain e) t ok m.counted i h

module _ (os : List ℕ) where
  marked_step : (s : Step) (t : Trace) → Marked t → Marked (step in_list os s t)
  marked_step s t m = go (acts s t.progress t.opened) refl
    where
      go : (a : Bool) → acts s t.progress t.opened ≡ a → Marked (step in_list os s t)
      go false e = subst Marked (idle in_list os s t e) m
      go true e =
          subst Marked (active in_list os s t e)
          (record {
            counted = ap (λ (n : ℕ). n + 1) m.counted ∙ sym (length-append t.log (emit s t.chip (ok_for os t.count s) ∷ []));
            failed = told_step s t (ok_for os t.count s) m;
          })

  marked_run : (ss : List Step) (t : Trace) → Marked t → Marked (run in_list os ss t)
  unfolding run
  marked_run [] t m = m
  marked_run (s ∷ ss) t m = marked_run ss (step in_list os s t) (marked_step s t m)

failed_entry : (os : List ℕ) (ss : List Step) (c : Chip) (i : ℕ) → (trace os ss c).progress ≡ Refused11 i → outcome_at (trace os ss c).log i ≡ 1
unfolding trace
failed_entry os ss c i h =
    (marked_run os ss (line c [] 0 Going false) (record { counted = refl; failed = λ j k. absurd (true≢false (ap goes k)) })).failed i h

-- ---- what is told

module _ {R : Type 0} (number : ℕ) (whole : Answer) (os : List ℕ) (ss : List Step) (c : Chip) (keep : Trace → R) (old : R) (room : List ℕ) where
  abbrev call : Called R
  call = call_of number whole os ss c keep old room

  -- refused before any step: its number, and zeros
  pub refused_told : (number ≡ 0 → ⊥) → call_reply call ≡ numbers_told number 0 0 0
  refused_told h = sym (ap call_reply (refuses number whole os ss c keep old room h))

  -- no step failed: the numbers of the answer that the call has for it
  pub whole_told : number ≡ 0 → (trace os ss c).progress ≡ Going → call_reply call ≡ reply_of whole (length (trace os ss c).log)
  whole_told z h =
      sym (ap call_reply (performs number whole os ss c keep old room z))
      ∙ ap (λ (w : Progress). reply_of (answer_of whole w) (length (trace os ss c).log)) h

  -- a step failed: 11, value 0 and the index of an entry that says so
  pub stopped_told : (i : ℕ) → number ≡ 0 → (trace os ss c).progress ≡ Refused11 i
      → (call_reply call ≡ numbers_told 11 0 i (length (trace os ss c).log % 4294967296)) × (outcome_at (trace os ss c).log i ≡ 1)
  stopped_told i z h = (
    sym (ap call_reply (performs number whole os ss c keep old room z))
        ∙ ap (λ (w : Progress). reply_of (answer_of whole w) (length (trace os ss c).log)) h,
    failed_entry os ss c i h,
  )
