-- How a program went is read off its entries: the first one that failed and is no closing, by its place among them. Assumes nothing.
use Prim.Native.Nat.{ℕ, suc, ◌+◌}
use mathlib.Core.Path.{◌≡◌, refl, sym, ap, ◌∙◌}
use mathlib.Core.Bool.{Bool, true, false, cond, ◌||◌, or-true, or-false, false≢true}
use mathlib.Core.List.{List, [], ◌∷◌, ◌++◌}
use native.Mathlib.Omega.{arith}
use lib.ListN.{length}
use Rattle.transcript.specs.declared.Entry.{Entry}
use Rattle.attempts.specs.Attempts.{done}
use Rattle.chip.specs.declared.Chip.{Chip}
use Rattle.chip.specs.declared.Progress.{Progress}
use Rattle.chip.specs.declared.Progress.TheVariants.{Going, Refused11}
use Rattle.chip.specs.Steps.{Step, Trace, acts, emit, every, goes, in_list, inner, line, ok_for, taken, progress_of, trace}
use Rattle.chip.specs.Steps.Step.{Open, Close, Send, Mask, Plain}
use Rattle.history.specs.Programs.{fine}
use Rattle.history.specs.Histories.{is_closing, passable, progress_from, progress_in}
use Rattle.history.proofs.Runs.{counted_taken, run_keeps}
use Rattle.history.proofs.Tracked.{aside_of}
use Rattle.history.proofs.Cuts.{emit_done, inner_progress}

-- one entry more: it counts only where none has failed before
abbrev next : Progress → Bool → ℕ → Progress
next Going b k = cond b Going (Refused11 k)
next (Refused11 j) b k = Refused11 j

progress_snoc : (k : ℕ) (es : List Entry) (e : Entry) → progress_from k (es ++ (e ∷ [])) ≡ next (progress_from k es) (passable e) (k + length es)
unfolding progress_from
progress_snoc k [] e =
    let here : k ≡ k + 0 = omega arith in
    ap (λ (j : ℕ). cond (passable e) Going (Refused11 j)) here
progress_snoc k (x ∷ es) e = go (passable x) refl (progress_snoc (k + 1) es e)
  where
    go : (b : Bool) → passable x ≡ b → progress_from (k + 1) (es ++ (e ∷ [])) ≡ next (progress_from (k + 1) es) (passable e) (k + 1 + length es)
        → cond (passable x) (progress_from (k + 1) (es ++ (e ∷ []))) (Refused11 k)
        ≡ next (cond (passable x) (progress_from (k + 1) es) (Refused11 k)) (passable e) (k + suc (length es))
    go true h r =
        let place : k + 1 + length es ≡ k + suc (length es) = omega arith in
        rw h (r ∙ ap (next (progress_from (k + 1) es) (passable e)) place)
    go false h r = rw h

-- a closing says nothing; any other entry that failed does
next_closing : (progress : Progress) (k : ℕ) → next progress true k ≡ progress
next_closing Going k = refl
next_closing (Refused11 j) k = refl

next_told : (ok : Bool) (k : ℕ) → next Going ok k ≡ progress_of ok k
next_told true k = refl
next_told false k = refl

no_closing : (s : Step) (c : Chip) (ok : Bool) → fine s ≡ true → inner s ≡ true → is_closing (emit s c ok) ≡ false
no_closing Open c ok f n = refl
no_closing Close c ok f n = absurd (false≢true n)
no_closing (Send m bytes) c ok f n = refl
no_closing (Mask r v m) c ok f n = refl
no_closing (Plain e) c ok f n = rw (aside_of e f).kind

goes_going : (progress : Progress) → goes progress ≡ true → progress ≡ Going
goes_going Going h = refl
goes_going (Refused11 k) h = absurd (false≢true h)

-- how it went, and that the entries are counted
record Read (t : Trace) : Type 0 where
  counted : t.count ≡ length t.log
  told : t.progress ≡ progress_in t.log

module _ (os : List ℕ) where
  read_inner : (s : Step) (t : Trace) (ok : Bool) → fine s ≡ true → inner s ≡ true → goes t.progress ≡ true → Read t → Read (taken in_list os ok s t)
  read_inner s t ok f n g r =
      let e : Entry = emit s t.chip ok in
      let test : passable e ≡ ok = ap (λ (b : Bool). done e || b) (no_closing s t.chip ok f n) ∙ or-false (done e) ∙ emit_done s t.chip ok in
      let before : progress_in t.log ≡ Going = sym r.told ∙ goes_going t.progress g in
      let place : 0 + length t.log ≡ t.count = omega (arith, r.counted) in
      record {
        counted = counted_taken os s t ok r.counted;
        told =
            inner_progress s ok t.count t.progress n ∙ sym (next_told ok t.count) ∙ sym (progress_snoc 0 t.log e ∙ (λ i. next (before i) (test i) (place i)));
      }

  read_close : (t : Trace) (ok : Bool) → Read t → Read (taken in_list os ok Close t)
  read_close t ok r =
      let e : Entry = emit Close t.chip ok in
      record {
        counted = counted_taken os Close t ok r.counted;
        told =
            r.told
            ∙ sym (next_closing (progress_in t.log) (0 + length t.log))
            ∙ sym (progress_snoc 0 t.log e ∙ ap (λ (b : Bool). next (progress_in t.log) b (0 + length t.log)) (or-true (done e)));
      }

  read_step : (s : Step) (t : Trace) → fine s ≡ true → acts s t.progress t.opened ≡ true → Read t → Read (taken in_list os (ok_for os t.count s) s t)
  read_step Open t f a r = read_inner Open t (ok_for os t.count Open) f refl a r
  read_step Close t f a r = read_close t (ok_for os t.count Close) r
  read_step (Send n bytes) t f a r = read_inner (Send n bytes) t (ok_for os t.count (Send n bytes)) f refl a r
  read_step (Mask g v m) t f a r = read_inner (Mask g v m) t (ok_for os t.count (Mask g v m)) f refl a r
  read_step (Plain e) t f a r = read_inner (Plain e) t (ok_for os t.count (Plain e)) f refl a r

-- the answer's index is that of the first entry that failed and is no closing
pub told_trace : (os : List ℕ) (ss : List Step) (c : Chip) → every fine ss ≡ true → (trace os ss c).progress ≡ progress_in (trace os ss c).log
unfolding trace progress_from
told_trace os ss c f =
    (run_keeps os Read fine (read_step os) ss (line c [] 0 Going false) f (record { counted = refl; told = refl })).told
