-- What a call's contract says of its entries: the room that it hands back holds their section, its count is theirs, the index that it answers is read
-- off them, a cut call is held against the uncut one, and it is one more call of a history. Each goes by the two cases of proofs/Views.antt.
-- Assumes nothing.
use Prim.Native.Nat.{ℕ, ◌+◌, ◌*◌, ◌≤◌, ◌<◌}
use mathlib.Core.Path.{◌≡◌, refl, sym, ap, subst, ◌∙◌}
use mathlib.Core.Bool.{Bool, true, false, false≢true}
use mathlib.Core.List.{List, [], ◌++◌, append-nil}
use native.Mathlib.Omega.{arith}
use borrow.Author.Tests.{eqb-true}
use lib.Dec.{eqb}
use lib.ListN.{length, set, take, length-set}
use Rattle.transcript.specs.declared.Entry.{Entry}
use Rattle.transcript.specs.Sections.{Parted}
use Rattle.refusals.specs.declared.Answer.TheVariants.{Stopped}
use Rattle.chip.specs.declared.Chip.{Chip}
use Rattle.chip.specs.declared.Progress.TheVariants.{Refused11}
use Rattle.chip.specs.Calls.{Called, call_entries}
use Rattle.chip.specs.Courses.{Asked, asked_by}
use Rattle.chip.specs.Steps.{run, trace}
use Rattle.r82xx.specs.declared.Tuner.{Tuner}
use Rattle.history.specs.Histories.{Cut, History, stops, progress_in}
use Rattle.history.proofs.Fitted.{most_trace}
use Rattle.history.proofs.Calls.{call_count, call_cut, call_history, call_index, call_read, call_refused}
use Rattle.sequences.specs.Calls.{Call, asked, entries, row_of, sound_for, uncut}
use Rattle.sequences.proofs.Views.{Silent, Stepping, View}
use Rattle.sequences.proofs.Views.View.{moving, silent}

-- a call without steps has no entries
pub none_entries : (os : List ℕ) (c : Chip) → call_entries 0 os [] c ≡ []
unfolding trace run
none_entries os c = refl

-- ---- calls with steps, of whatever record

module _ (R : Type 0) (c : Chip) (old : R) (x : Called R) (a : Asked) (os room : List ℕ) (s : Stepping R c old x a os room) where
  abbrev made : List Entry
  made = call_entries a.number os a.steps c

  pub step_count : x.count ≡ length made
  step_count = ap (λ (d : Called R). d.count) s.same ∙ call_count a.number s.whole os a.steps c s.keep old room

  pub step_read : c.address ≤ 255 → 0 < x.count → Parted (take (16 * x.count + 8) x.room) [] made
  step_read small some = go (eqb a.number 0) refl
    where
      go : (b : Bool) → eqb a.number 0 ≡ b → Parted (take (16 * x.count + 8) x.room) [] made
      go true e =
          rw (s.same, e)
          (call_read a.number s.whole os a.steps c s.keep old room e s.good small s.few (s.roomy (eqb-true a.number 0 e)))
      go false e =
          let zero : x.count ≡ 0 =
          ap (λ (d : Called R). d.count) (s.same ∙ call_refused a.number s.whole os a.steps c s.keep old room e) in
          absurd (omega (arith, zero))

  pub step_index : (i : ℕ) → x.answer ≡ Stopped i → progress_in made ≡ Refused11 i
  step_index i h =
      call_index a.number s.whole os a.steps c s.keep old room i s.named s.good
      (sym (ap (λ (d : Called R). d.answer) s.same) ∙ h)

  pub step_cut : (i : ℕ) → x.answer ≡ Stopped i → Cut i made (call_entries a.number (set os i 0) a.steps c)
  step_cut i h =
      call_cut a.number s.whole os a.steps c s.keep old room i s.named s.good
      (sym (ap (λ (d : Called R). d.answer) s.same) ∙ h)

-- ---- calls of the tuner

module _ (t : Tuner) (x : Called Tuner) (a : Asked) (os room : List ℕ) where
  abbrev es : List Entry
  es = call_entries a.number os a.steps t.chip

  pub no_entries : Silent t x a → es ≡ []
  no_entries s = ap (λ (b : Asked). call_entries b.number os b.steps t.chip) s.nothing ∙ none_entries os t.chip

  -- (e) "an invented entry count" is shut out
  pub view_count : View t x a os room → x.count ≡ length es
  view_count (moving m) = step_count Tuner t.chip t x a os room m.steps
  view_count (silent s) = s.count ∙ sym (ap length (no_entries s))

  -- "Each call with steps writes its section at the start of the lent room": the reader finds these entries there
  pub view_read : View t x a os room → t.chip.address ≤ 255 → 0 < x.count → Parted (take (16 * x.count + 8) x.room) [] es
  view_read (moving m) small some = step_read Tuner t.chip t x a os room m.steps small some
  view_read (silent s) small some = absurd (omega (arith, s.count))

  -- (e) "an invented .. step index" is shut out
  pub view_index : View t x a os room → (i : ℕ) → x.answer ≡ Stopped i → progress_in es ≡ Refused11 i
  view_index (moving m) i h = step_index Tuner t.chip t x a os room m.steps i h
  view_index (silent s) i h = absurd (false≢true (sym s.named ∙ ap stops h))

  -- (c)
  pub view_cut : View t x a os room → (i : ℕ) → x.answer ≡ Stopped i → Cut i es (call_entries a.number (set os i 0) a.steps t.chip)
  view_cut (moving m) i h = step_cut Tuner t.chip t x a os room m.steps i h
  view_cut (silent s) i h = absurd (false≢true (sym s.named ∙ ap stops h))

  -- one more call of a history
  pub view_history : View t x a os room → (init : List ℕ) (before : List Entry) → History init t.chip before → History init x.next.chip (before ++ es)
  view_history (moving m) init before h =
      subst (λ (d : Called Tuner). History init d.next.chip (before ++ es)) (sym m.steps.same)
      (call_history (λ (u : Tuner). u.chip) init before a.number m.steps.whole os a.steps m.steps.keep t room m.steps.good (m.kept (trace os a.steps t.chip)) h)
  view_history (silent s) init before h =
      subst (History init x.next.chip) (sym (ap (λ (l : List Entry). before ++ l) (no_entries s) ∙ append-nil before))
      (subst (λ (c : Chip). History init c before) (sym s.kept) h)

-- no more entries than steps
pub entries_most : (n : ℕ) (os : List ℕ) (a : Asked) (c : Chip) → length a.steps ≤ n → length (call_entries a.number os a.steps c) ≤ n
entries_most n os a c h = go (eqb a.number 0) refl
  where
    go : (b : Bool) → eqb a.number 0 ≡ b → length (call_entries a.number os a.steps c) ≤ n
    go true e = rw e (omega (arith, most_trace os a.steps c))
    go false e = rw e (omega arith)

-- what is asked hangs on how many outcomes there are, not on what they are: the uncut call asks the same
pub uncut_entries : (i : ℕ) (k : Call) (t : Tuner) → call_entries (asked k t).number (set k.outcomes i 0) (asked k t).steps t.chip ≡ entries (uncut i k) t
uncut_entries i k t =
    ap
    (λ (n : ℕ). call_entries (asked_by (sound_for k.order t) (row_of k.order t) n (length k.room)).number (set k.outcomes i 0)
    (asked_by (sound_for k.order t) (row_of k.order t) n (length k.room)).steps t.chip) (sym (length-set k.outcomes i 0))
