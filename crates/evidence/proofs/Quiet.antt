-- Programs that leave the IF's three registers alone: no step of theirs names one, resets the demodulator or switches it off. Assumes nothing.
use Prim.Native.Nat.{ℕ}
use mathlib.Core.Path.{◌≡◌, refl, ◌∙◌}
use mathlib.Core.Bool.{Bool, true, false, not, ◌&&◌}
use mathlib.Core.List.{List, [], ◌∷◌, ◌++◌, map}
use borrow.Author.Tests.{not-true}
use Rattle.transcript.specs.declared.Entry.{Entry}
use Rattle.attempts.specs.Namings.{Last, last_from}
use Rattle.attempts.proofs.Lasts.{last_append}
use Rattle.chip.specs.declared.Chip.{Chip}
use Rattle.chip.specs.declared.Progress.TheVariants.{Going}
use Rattle.chip.specs.declared.Update.{Update}
use Rattle.chip.specs.Steps.{Step, Trace, acts, emit, every, in_list, line, ok_for, taken, trace, update_step, updates, while_open}
use Rattle.chip.specs.Steps.Step.{Open, Close, Send, Mask, Plain}
use Rattle.chip.proofs.Laws.{and_left, and_right}
use Rattle.history.proofs.Fine.{every_append}
use Rattle.history.proofs.Runs.{run_keeps}
use Rattle.evidence.specs.Demodulator.{Place, covers, demod_names, demodulator, place, shakes}

abbrev pub spares : Entry → Bool
spares e = not (demod_names e (place 1 0x19)) && (not (demod_names e (place 1 0x1a)) && not (demod_names e (place 1 0x1b)))

abbrev pub still : Step → Bool
still Open = true
still Close = true
still (Send n bytes) = true
still (Mask register value mask) = true
still (Plain e) = spares e

still_emit : (s : Step) (c : Chip) (ok : Bool) → still s ≡ true → spares (emit s c ok) ≡ true
unfolding demod_names covers shakes
still_emit Open c ok h = refl
still_emit Close c ok h = refl
still_emit (Send n bytes) c ok h = refl
still_emit (Mask register value mask) c ok h = refl
still_emit (Plain e) c ok h = h

-- after such entries what was known is known
abbrev Kept : Place → List Entry → Type 0
Kept q es = (l : Last) → last_from demodulator l es q ≡ l

pub record Silent (es : List Entry) : Type 0 where
  pub high : Kept (place 1 0x19) es
  pub mid : Kept (place 1 0x1a) es
  pub low : Kept (place 1 0x1b) es

kept_snoc : (q : Place) (es : List Entry) (e : Entry) → demod_names e q ≡ false → Kept q es → Kept q (es ++ (e ∷ []))
unfolding last_from
kept_snoc q es e none p l = last_append demodulator l es (e ∷ []) q ∙ rw none (p l)

pub silent_none : Silent []
unfolding last_from
silent_none = record { high = λ l. refl; mid = λ l. refl; low = λ l. refl }

kept_append : (q : Place) (xs ys : List Entry) → Kept q xs → Kept q ys → Kept q (xs ++ ys)
kept_append q xs ys p r l = last_append demodulator l xs ys q ∙ r (last_from demodulator l xs q) ∙ p l

pub silent_append : (xs ys : List Entry) → Silent xs → Silent ys → Silent (xs ++ ys)
silent_append xs ys p r =
    record {
      high = kept_append (place 1 0x19) xs ys p.high r.high;
      mid = kept_append (place 1 0x1a) xs ys p.mid r.mid;
      low = kept_append (place 1 0x1b) xs ys p.low r.low;
    }

pub silent_trace : (os : List ℕ) (ss : List Step) (c : Chip) → every still ss ≡ true → Silent (trace os ss c).log
unfolding trace
silent_trace os ss c h = run_keeps os (λ (u : Trace). Silent u.log) still keeps ss (line c [] 0 Going false) h silent_none
  where
    keeps : (s : Step) (u : Trace) → still s ≡ true → acts s u.progress u.opened ≡ true → Silent u.log → Silent (taken in_list os (ok_for os u.count s) s u).log
    keeps s u q active p =
        let e : Entry = emit s u.chip (ok_for os u.count s) in
        let a : Bool = not (demod_names e (place 1 0x19)) in
        let b : Bool = not (demod_names e (place 1 0x1a)) in
        let c : Bool = not (demod_names e (place 1 0x1b)) in
        let h : (a && (b && c)) ≡ true = still_emit s u.chip (ok_for os u.count s) q in
        let rest : (b && c) ≡ true = and_right a (b && c) h in
        record {
          high = kept_snoc (place 1 0x19) u.log e (not-true (demod_names e (place 1 0x19)) (and_left a (b && c) h)) p.high;
          mid = kept_snoc (place 1 0x1a) u.log e (not-true (demod_names e (place 1 0x1a)) (and_left b c rest)) p.mid;
          low = kept_snoc (place 1 0x1b) u.log e (not-true (demod_names e (place 1 0x1b)) (and_right b c rest)) p.low;
        }

-- ---- programs put together

pub still_map : {A : Type 0} (f : A → Step) → ((a : A) → still (f a) ≡ true) → (l : List A) → every still (map f l) ≡ true
unfolding every
still_map f h [] = refl
still_map f h (a ∷ l) = rw (h a) (still_map f h l)

pub still_updates : (us : List Update) → every still (updates us) ≡ true
still_updates us = still_map update_step (λ u. refl) us

pub still_behind : (ss : List Step) → every still ss ≡ true → every still (while_open ss) ≡ true
unfolding every
still_behind ss h = every_append still ss (Close ∷ []) h refl

pub still_bracket : (us : List Update) → every still (while_open (updates us)) ≡ true
still_bracket us = still_behind (updates us) (still_updates us)
