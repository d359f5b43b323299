-- "A PLL refusal comes after the mux: all done, it leaves 13 entries (open, 11 writes, close) and the mux's shadow": which entries they are, and what the
-- record says of the chip, for every tuner and hz, also where the closing failed. Assumes nothing.
use Prim.Native.Nat.{ℕ}
use mathlib.Core.Path.{◌≡◌, refl, ap, ◌∙◌}
use mathlib.Core.Bool.{Bool, true}
use mathlib.Core.List.{List, [], ◌∷◌, ◌++◌}
use borrow.Author.Tests.{eq-eqb}
use lib.Dec.{eqb}
use lib.ListN.{length, replicate}
use Rattle.transcript.specs.declared.Entry.{Entry}
use Rattle.refusals.specs.declared.Answer.TheVariants.{Refused}
use Rattle.refusals.specs.Table.{FREQUENCY}
use Rattle.chip.specs.declared.Chip.{Chip}
use Rattle.chip.specs.declared.Progress.TheVariants.{Going}
use Rattle.chip.specs.Calls.{Called, answer_of, too_short, locked_in, performed, lock_tries_in, tries_in}
use Rattle.chip.specs.Entries.{repeater}
use Rattle.chip.specs.Steps.{Trace, run, step, trace}
use Rattle.pll.specs.declared.Kind.{Kind}
use Rattle.pll.specs.declared.Kind.TheVariants.{R828D}
use Rattle.pll.specs.Divide.{first_mixer, in_vco}
use Rattle.pll.specs.Plan.{plan_of, plan_with}
use Rattle.std.specs.Prelude.{None}
use Rattle.tuning.specs.Mux.{mux_updates, range_of}
use Rattle.tuning.specs.Program.{inner_steps, tune_steps}
use Rattle.tuning.specs.Tries.{lock_by}
use Rattle.r82xx.specs.declared.Tuner.{Tuner}
use Rattle.r82xx.specs.Calls.{hz_refusal, plan_for, refusal_of}
use Rattle.r82xx.specs.Record.{fresh_tuner, with_chip, with_lock}
use Rattle.r82xx.specs.Orders.{lock_kept, tune_of}
use Rattle.r82xx.specs.Orders.Order.{Tune}
use Rattle.sequences.specs.Calls.{tuner_after, call, entries, result}
use Rattle.sequences.specs.Calls.Order.{Tuned}
use Rattle.sequences.specs.Written.{chip_behind, entries_for}
use Rattle.sequences.proofs.Most.{by_plan, tune_by_plan, progress_on}

-- the opening, the mux's eleven writes, and a closing that may have failed
abbrev pub mux_entries : Tuner → ℕ → Bool → List Entry
mux_entries t hz ok = repeater 1 true ∷ (entries_for (mux_updates t.notch (range_of hz)) t.chip ++ (repeater 0 ok ∷ []))

module _ (address hz z : ℕ) (kind : Kind) (notch : Bool) (rs os : List ℕ) (c : Chip) where
  abbrev tr : Trace
  tr = trace (replicate 12 0 ++ (z ∷ os)) (tune_steps address kind notch None hz rs) c

  left_log : tr.log ≡ repeater 1 true ∷ (entries_for (mux_updates notch (range_of hz)) c ++ (repeater 0 (eqb z 0) ∷ []))
  unfolding trace run step inner_steps entries_for
  left_log = refl

  left_chip : tr.chip ≡ chip_behind (mux_updates notch (range_of hz)) c
  unfolding trace run step inner_steps chip_behind
  left_chip = refl

  left_progress : tr.progress ≡ Going
  unfolding trace run step inner_steps
  left_progress = refl

-- none of them is a try, so the lock stays
no_tries_lem : (t : Tuner) (hz : ℕ) (ok : Bool) → lock_by (lock_tries_in (mux_entries t hz ok)) t.lock ≡ t.lock
unfolding tries_in locked_in entries_for
no_tries_lem t hz ok = refl

module _ (t : Tuner) (hz z : ℕ) (rs os room : List ℕ) where
  -- the mux's twelve steps are done; the thirteenth outcome, the closing's, is any
  abbrev outcomes : List ℕ
  outcomes = replicate 12 0 ++ (z ∷ os)

  -- a tuning that is not refused before its steps, and whose plan is
  module _ (e : refusal_of t (hz_refusal hz t.ifreq) 53 35 (length room) (length outcomes) (length rs) ≡ 0) (p : plan_for t hz ≡ None) where
    abbrev run_of : Trace
    run_of = trace outcomes (tune_of t None hz rs) t.chip

    left : result (call (Tuned (Tune hz rs)) outcomes room) t ≡ performed (Refused FREQUENCY) (lock_kept t) room run_of
    left = tune_by_plan t hz outcomes rs room ∙ ap (by_plan t hz outcomes rs room) p ∙ progress_on _ _ _ _ _ _ _ _ e

    pub late_answer : (result (call (Tuned (Tune hz rs)) outcomes room) t).answer ≡ Refused FREQUENCY
    late_answer =
        ap (λ (c : Called Tuner). c.answer) left ∙ ap (answer_of (Refused FREQUENCY)) (left_progress t.chip.address hz z t.kind t.notch rs os t.chip)

    -- open, 11 writes, close
    pub late_entries : entries (call (Tuned (Tune hz rs)) outcomes room) t ≡ mux_entries t hz (eqb z 0)
    late_entries =
        let go : eqb (refusal_of t (hz_refusal hz t.ifreq) 53 35 (length room) (length outcomes) (length rs)) 0 ≡ true = eq-eqb _ 0 e in
        rw (go, p) (left_log t.chip.address hz z t.kind t.notch rs os t.chip)

    -- "and the mux's shadow": the record is the given one, with the chip's part as the mux's writes leave it
    pub late_record : tuner_after (call (Tuned (Tune hz rs)) outcomes room) t ≡ with_chip t (chip_behind (mux_updates t.notch (range_of hz)) t.chip)
    late_record =
        ap (λ (c : Called Tuner). c.next) left
        ∙ ap (λ (l : List Entry). with_lock (with_chip t run_of.chip) (lock_by (lock_tries_in l) t.lock)) (left_log t.chip.address hz z t.kind t.notch rs os t.chip)
        ∙ ap (with_lock (with_chip t run_of.chip)) (no_tries_lem t hz (eqb z 0))
        ∙ ap (with_chip t) (left_chip t.chip.address hz z t.kind t.notch rs os t.chip)

-- there is one: 2 GHz on a fresh R828D, with a closing that fails
abbrev high : Tuner
high = fresh_tuner R828D 0x74 28_800_000

pub late_there : (plan_for high 2_000_000_000 ≡ None)
    × (refusal_of high (hz_refusal 2_000_000_000 high.ifreq) 53 35 856 (length (outcomes high 2_000_000_000 1 [] (replicate 40 0) [])) 35 ≡ 0)
unfolding plan_of plan_with first_mixer in_vco too_short
late_there = (refl, refl)
