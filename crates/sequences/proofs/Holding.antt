-- One call more, on any record that holds of a chip: the record that the call leaves holds of every chip that its entries were played on, whatever its outcomes. Demand 3
-- has this at the end of a sequence from a fresh record; here the record may come from anywhere, as it does for a spare chip after a restore list. Assumes nothing.
use Prim.Native.Nat.{ℕ, ◌+◌, ◌≤◌}
use mathlib.Core.Path.{◌≡◌, refl, sym, ap, subst, ◌∙◌}
use mathlib.Core.Bool.{Bool, true, false, cond}
use mathlib.Core.List.{List, []}
use lib.Dec.{eqb}
use lib.ListN.{length}
use Rattle.transcript.specs.declared.Entry.{Entry}
use Rattle.attempts.specs.Attempts.{Played, Regs}
use Rattle.chip.specs.declared.Chip.{Chip}
use Rattle.chip.specs.Calls.{Called, call_entries}
use Rattle.chip.specs.Courses.{Asked}
use Rattle.chip.specs.Steps.{Step, every, trace}
use Rattle.device.specs.Calls.{no_chip}
use Rattle.r82xx.specs.declared.Tuner.{Tuner}
use Rattle.history.specs.Holding.{Holds}
use Rattle.history.specs.Programs.{beside}
use Rattle.history.proofs.Calls.{call_performed, call_refused}
use Rattle.history.proofs.Holding.{beside_holds, trace_address, trace_holds}
use Rattle.sequences.specs.Asides.{Aside, aside_asked, aside_entries, aside_given, aside_row}
use Rattle.sequences.specs.Calls.{Call, asked, entries, given, result, tuner_after}
use Rattle.sequences.proofs.Asides.{aside_beside}
use Rattle.sequences.proofs.Ties.{no_entries}
use Rattle.sequences.proofs.Views.{Moving, View, asked_steps, view}
use Rattle.sequences.proofs.Views.View.{moving, silent}

-- the chip's record that a call with steps leaves: its program's, or the given one where a number refuses it
module _ (t : Tuner) (x : Called Tuner) (a : Asked) (os room : List ℕ) (m : Moving t x a os room) where
  chip_performed : eqb a.number 0 ≡ true → x.next.chip ≡ (trace os a.steps t.chip).chip
  chip_performed e =
      ap (λ (d : Called Tuner). d.next.chip) (m.steps.same ∙ call_performed a.number m.steps.whole os a.steps t.chip m.steps.keep t room e)
      ∙ m.kept (trace os a.steps t.chip)

  chip_refused : eqb a.number 0 ≡ false → x.next.chip ≡ t.chip
  chip_refused e =
      ap (λ (d : Called Tuner). d.next.chip) (m.steps.same ∙ call_refused a.number m.steps.whole os a.steps t.chip m.steps.keep t room e)

view_address : (t : Tuner) (x : Called Tuner) (a : Asked) (os room : List ℕ) → View t x a os room → x.next.chip.address ≡ t.chip.address
view_address t x a os room (silent s) = ap (λ (c : Chip). c.address) s.kept
view_address t x a os room (moving m) = go (eqb a.number 0) refl
  where
    go : (b : Bool) → eqb a.number 0 ≡ b → x.next.chip.address ≡ t.chip.address
    go true e = ap (λ (c : Chip). c.address) (chip_performed t x a os room m e) ∙ trace_address os a.steps t.chip
    go false e = ap (λ (c : Chip). c.address) (chip_refused t x a os room m e)

module _ (t : Tuner) (small : t.chip.address ≤ 255) where
  -- every call leaves the chip's address
  pub address_stays : (k : Call) → given k.order t ≡ true → (tuner_after k t).chip.address ≡ t.chip.address
  address_stays k g = view_address t (result k t) (asked k t) k.outcomes k.room (view t k.outcomes k.room k.order g small)

  module _ (marks : length t.chip.doubtful ≡ 27) (bytes : length t.chip.shadow ≡ 27) (chip after : Regs) (holds : Holds t.chip chip) where
    -- nothing was played
    unplayed : (es : List Entry) → es ≡ [] → Played t.chip.address es chip after → Holds t.chip after
    unplayed es e p =
        let same : (r : ℕ) → after r ≡ chip r = subst (λ (l : List Entry). Played t.chip.address l chip after) e p in
        λ i h d. same (5 + i) ∙ holds i h d

    view_holds : (x : Called Tuner) (a : Asked) (os room : List ℕ) → View t x a os room → Played t.chip.address (call_entries a.number os a.steps t.chip) chip after
        → Holds x.next.chip after
    view_holds x a os room (silent s) p =
        subst (λ (c : Chip). Holds c after) (sym s.kept) (unplayed (call_entries a.number os a.steps t.chip) (no_entries t x a os room s) p)
    view_holds x a os room (moving m) p = go (eqb a.number 0) refl
      where
        log : (b : Bool) → eqb a.number 0 ≡ b → call_entries a.number os a.steps t.chip ≡ cond b (trace os a.steps t.chip).log []
        log b e = ap (λ (z : Bool). cond z (trace os a.steps t.chip).log []) e

        go : (b : Bool) → eqb a.number 0 ≡ b → Holds x.next.chip after
        go true e =
            subst (λ (c : Chip). Holds c after) (sym (chip_performed t x a os room m e))
            (trace_holds t.chip small marks bytes chip after holds os a.steps m.steps.good
            (subst (λ (l : List Entry). Played t.chip.address l chip after) (log true e) p))
        go false e =
            subst (λ (c : Chip). Holds c after) (sym (chip_refused t x a os room m e))
            (unplayed (call_entries a.number os a.steps t.chip) (log false e) p)

    -- one law for every call that takes or hands back a tuner's record
    pub one_more : (k : Call) → given k.order t ≡ true → Played t.chip.address (entries k t) chip after → Holds (tuner_after k t).chip after
    one_more k g p = view_holds (result k t) (asked k t) k.outcomes k.room (view t k.outcomes k.room k.order g small) p

    beside_by : (os : List ℕ) (ss : List Step) → every beside ss ≡ true → (b : Bool)
        → Played t.chip.address (cond b (trace os ss no_chip).log []) chip after → Holds t.chip after
    beside_by os ss k true p = beside_holds t.chip small marks bytes chip after holds no_chip os ss k p
    beside_by os ss k false p = unplayed [] refl p

    -- and for those that take none, which leave it
    pub aside_more : (a : Aside) → aside_given a.other ≡ true → Played t.chip.address (aside_entries a) chip after → Holds t.chip after
    aside_more a g p =
        beside_by a.outcomes (aside_asked a).steps
        (subst (λ (ss : List Step). every beside ss ≡ true) (sym (asked_steps true (aside_row a.other) (length a.outcomes) (length a.room))) (aside_beside a.other g))
        (eqb (aside_asked a).number 0) p
