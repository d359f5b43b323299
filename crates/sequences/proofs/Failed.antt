-- "11 step | a step other than a closing failed | steps taken stand": given exactly then, by any call, whatever the outcomes. Assumes nothing.
use Prim.Native.Nat.{ℕ, ◌+◌}
use mathlib.Core.Path.{◌≡◌, refl, sym, ap, ◌∙◌}
use mathlib.Core.Bool.{Bool, true, false, not, ◌&&◌, cond}
use mathlib.Core.List.{List, [], ◌∷◌}
use lib.Dec.{eqb}
use Rattle.transcript.specs.declared.Entry.{Entry}
use Rattle.refusals.specs.declared.Answer.{Answer}
use Rattle.chip.specs.declared.Chip.{Chip}
use Rattle.chip.specs.declared.Progress.{Progress}
use Rattle.chip.specs.declared.Progress.TheVariants.{Going, Refused11}
use Rattle.chip.specs.Calls.{Called, answer_of, call_entries}
use Rattle.chip.specs.Courses.{Asked}
use Rattle.chip.specs.Steps.{every, goes, trace}
use Rattle.device.specs.Calls.{no_chip}
use Rattle.r82xx.specs.declared.Tuner.{Tuner}
use Rattle.history.specs.Histories.{passable, stops, progress_from}
use Rattle.history.proofs.Calls.{call_performed, call_refused}
use Rattle.history.proofs.Progressed.{told_trace}
use Rattle.sequences.specs.Asides.{Aside, aside_asked, aside_entries, aside_given, aside_result}
use Rattle.sequences.specs.Calls.{Call, asked, entries, given, result}
use Rattle.sequences.specs.Sequences.{Sequence}
use Rattle.sequences.proofs.Views.{Stepping, View, view}
use Rattle.sequences.proofs.Views.View.{moving, silent}
use Rattle.sequences.proofs.Ties.{no_entries}
use Rattle.sequences.proofs.Asides.{aside_stepping}
use Rattle.sequences.proofs.Demand.{small}

-- a call goes on as long as each entry was done or is a closing
progress_every : (k : ℕ) (es : List Entry) → goes (progress_from k es) ≡ every passable es
unfolding progress_from every
progress_every k [] = refl
progress_every k (e ∷ es) = go (passable e) (progress_every (k + 1) es)
  where
    go : (b : Bool) → goes (progress_from (k + 1) es) ≡ every passable es
        → goes (cond b (progress_from (k + 1) es) (Refused11 k)) ≡ (b && every passable es)
    go true h = h
    go false h = refl

stops_progress : (whole : Answer) (w : Progress) → stops whole ≡ false → stops (answer_of whole w) ≡ not (goes w)
stops_progress whole Going h = h
stops_progress whole (Refused11 k) h = refl

pub nothing_failed : every passable [] ≡ true
unfolding every
nothing_failed = refl

-- of a call with steps, of whatever record
step_eleven : (R : Type 0) (c : Chip) (old : R) (x : Called R) (a : Asked) (os room : List ℕ) → Stepping R c old x a os room
    → stops x.answer ≡ not (every passable (call_entries a.number os a.steps c))
step_eleven R c old x a os room s = go (eqb a.number 0) refl
  where
    go : (b : Bool) → eqb a.number 0 ≡ b → stops x.answer ≡ not (every passable (call_entries a.number os a.steps c))
    go true e =
        rw (s.same, call_performed a.number s.whole os a.steps c s.keep old room e, e)
        (stops_progress s.whole (trace os a.steps c).progress s.named
        ∙ ap not (ap goes (told_trace os a.steps c s.good) ∙ progress_every 0 (trace os a.steps c).log))
    go false e = rw (s.same, call_refused a.number s.whole os a.steps c s.keep old room e, e, nothing_failed)

-- every call on a record that a sequence ends with: both directions at once
pub eleven_exactly : (t : Tuner) (es : List Entry) → Sequence t es → (k : Call) → given k.order t ≡ true
    → stops (result k t).answer ≡ not (every passable (entries k t))
eleven_exactly t es s k g = go (view t k.outcomes k.room k.order g (small t es s))
  where
    go : View t (result k t) (asked k t) k.outcomes k.room → stops (result k t).answer ≡ not (every passable (entries k t))
    go (moving m) = step_eleven Tuner t.chip t (result k t) (asked k t) k.outcomes k.room m.steps
    go (silent n) =
        n.named ∙ sym (ap (λ (l : List Entry). not (every passable l)) (no_entries t (result k t) (asked k t) k.outcomes k.room n) ∙ ap not nothing_failed)

-- and of those that take no record
pub aside_eleven : (a : Aside) → aside_given a.other ≡ true → stops (aside_result a).answer ≡ not (every passable (aside_entries a))
aside_eleven a g = step_eleven (Unit {0}) no_chip tt (aside_result a) (aside_asked a) a.outcomes a.room (aside_stepping a g)
