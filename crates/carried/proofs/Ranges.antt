-- Every call keeps a tuner's record in its ranges, by its order alone: of any record, whether it ends a sequence or not. What runs orders on records by value, as
-- a stream of commands does, takes it from here. Assumes nothing.
use Prim.Native.Nat.{ℕ, ◌-◌, ◌≤◌}
use mathlib.Core.Path.{◌≡◌, refl, sym, subst, ◌∙◌}
use mathlib.Core.Bool.{Bool, true, false, not}
use mathlib.Core.List.{List, []}
use native.Mathlib.Omega.{arith}
use lib.Dec.{eqb}
use lib.ListN.{get_or, drop, length, replicate, take}
use lib.Seq.{length-sets}
use Rattle.chip.specs.declared.Chip.{Chip}
use Rattle.chip.specs.declared.Progress.TheVariants.{Going}
use Rattle.chip.specs.Calls.{Called}
use Rattle.chip.specs.Chips.{attempted_by}
use Rattle.chip.specs.Steps.{Step, Trace, chip_after, line, ok_for, trace}
use Rattle.chip.specs.Steps.Step.{Open, Close, Send, Mask, Plain}
use Rattle.r82xx.specs.declared.Tuner.{Tuner}
use Rattle.records.proofs.Exact.{Ranged}
use Rattle.history.proofs.Calls.{call_performed, call_refused}
use Rattle.history.proofs.Runs.{run_always}
use Rattle.sequences.specs.Calls.{Order, asked, call, result_of}
use Rattle.sequences.proofs.Views.{View, view}
use Rattle.sequences.proofs.Views.View.{moving, silent}
use Rattle.carried.specs.Exported.{typed_order}
use Rattle.carried.proofs.Steady.{Fielded, fielded, settled, typed_given}

-- the chip's part of a record in its ranges
record Formed (c : Chip) : Type 0 where
  address : c.address ≤ 255
  shadow : length c.shadow ≡ 27
  doubtful : length c.doubtful ≡ 27

formed_by : (c : Chip) (n : ℕ) (bytes : List ℕ) (ok : Bool) → Formed c → Formed (attempted_by c n bytes ok)
unfolding attempted_by
formed_by c n bytes ok f =
    record {
      address = f.address;
      shadow = length-sets c.shadow (get_or bytes 0 0 - 5) (take (n - 1) (drop 1 bytes)) ∙ f.shadow;
      doubtful = length-sets c.doubtful (get_or bytes 0 0 - 5) (replicate (n - 1) (not ok)) ∙ f.doubtful;
    }

formed_step : (s : Step) (c : Chip) (ok : Bool) → Formed c → Formed (chip_after s c ok)
formed_step Open c ok f = f
formed_step Close c ok f = f
formed_step (Send n bytes) c ok f = formed_by c n bytes ok f
formed_step (Mask r v m) c ok f = formed_by c 2 _ ok f
formed_step (Plain e) c ok f = f

formed_trace : (os : List ℕ) (ss : List Step) (c : Chip) → Formed c → Formed (trace os ss c).chip
unfolding trace
formed_trace os ss c f =
    run_always os (λ (u : Trace). Formed u.chip) (λ s u a g. formed_step s u.chip (ok_for os u.count s) g) ss (line c [] 0 Going false) f

module _ (t : Tuner) (r : Ranged t) (o : Order) (os room : List ℕ) (h : typed_order o ≡ true) where
  formed : Formed t.chip
  formed = record { address = omega (arith, r.address); shadow = r.lists.shadow; doubtful = r.lists.doubtful }

  formed_next : View t (result_of o os room t) (asked (call o os room) t) os room → Formed (result_of o os room t).next.chip
  formed_next (silent n) = subst Formed (sym n.kept) formed
  formed_next (moving m) = go (eqb (asked (call o os room) t).number 0) refl
    where
      go : (b : Bool) → eqb (asked (call o os room) t).number 0 ≡ b → Formed (result_of o os room t).next.chip
      go true e =
          subst (λ (x : Called Tuner). Formed x.next.chip) (sym (m.steps.same ∙ call_performed _ _ os _ t.chip _ t room e))
          (subst Formed (sym (m.kept (trace os (asked (call o os room) t).steps t.chip))) (formed_trace os (asked (call o os room) t).steps t.chip formed))
      go false e = subst (λ (x : Called Tuner). Formed x.next.chip) (sym (m.steps.same ∙ call_refused _ _ os _ t.chip _ t room e)) formed

  pub order_ranged : Ranged (result_of o os room t).next
  order_ranged =
      let f : Fielded (result_of o os room t).next = (settled o os room t (fielded t r) h).ranges in
      let c : Formed (result_of o os room t).next.chip = formed_next (view t os room o (typed_given o t h) formed.address) in
      record {
        lists = record { shadow = c.shadow; doubtful = c.doubtful };
        address = omega (arith, c.address);
        nominal = f.nominal;
        known = f.known;
        corrected = f.corrected;
        right = f.right;
        gain = f.gain;
        ifreq = f.ifreq;
      }
