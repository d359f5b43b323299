-- A reload that is answered done leaves the oscillator at the bytes last attempted: where none of the five registers was in doubt, that is where it stood;
-- where one was, it may be no station that was ever asked for (a tuning cut between 0x14 and 0x16 leaves N of the new one and S of the old). Assumes nothing.
use Prim.Native.Nat.{ℕ, ◌+◌, ◌<◌}
use mathlib.Core.Path.{◌≡◌, refl, sym, ap, subst, ◌∙◌}
use mathlib.Core.Bool.{true, false}
use mathlib.Core.List.{List, ◌++◌}
use native.Mathlib.Omega.{arith}
use lib.ListN.{get_or, length}
use Rattle.transcript.specs.declared.Entry.{Entry}
use Rattle.attempts.specs.Attempts.{Played, Regs, byte_in, last_in, tuner_at}
use Rattle.attempts.proofs.Played.{played_append}
use Rattle.refusals.specs.declared.Answer.TheVariants.{Done}
use Rattle.chip.specs.Courses.{left_by}
use Rattle.chip.specs.Steps.{every}
use Rattle.history.specs.Histories.{Restored}
use Rattle.oscillator.specs.Registers.{Within, hz_in, stands_by, vco_in}
use Rattle.oscillator.proofs.Oscillator.{each_five, same_hz, same_vco, same_within}
use Rattle.r82xx.specs.declared.Tuner.{Tuner}
use Rattle.r82xx.specs.Orders as tuner
use Rattle.r82xx.specs.Orders.Order.{Reload}
use Rattle.r82xx.specs.Record.{sound, sound_by}
use Rattle.writes.specs.Lists.{init_array}
use Rattle.station.specs.Station.{attempted_at, oscillator_of, unsure}
use Rattle.station.proofs.Told.{told}
use Rattle.sequences.specs.Calls.{Call, call, entries, result, tuner_after}
use Rattle.sequences.specs.Calls.Order.{Tuned}
use Rattle.sequences.specs.Sequences.{Sequence}
use Rattle.sequences.specs.Sequences.Sequence.{next}
use Rattle.sequences.proofs.Demand.{reload_done, shadow_last, some_chip}
use Rattle.sequences.proofs.Station.{holds_five}
use Rattle.sequences.proofs.Tunings.{accepted, is_done, went}
use Rattle.stations.proofs.Keeps.{Same, reload_same}

module _ (t : Tuner) (es : List Entry) (s : Sequence t es) (os room : List ℕ) where
  abbrev reload : Call
  reload = call (Tuned Reload) os room

  module _ (done : (result reload t).answer ≡ Done 0) where
    -- on every chip, whatever was in doubt
    pub reload_stands : (before after : Regs) → Played t.chip.address (es ++ entries reload t) before after
        → (r : ℕ) → stands_by r ≡ true → after r ≡ attempted_at t.chip r
    reload_stands before after played =
        let at : (i : ℕ) → i < 27 → after (5 + i) ≡ get_or t.chip.shadow i 0 = (λ i l.
        (reload_done t es s os room done before after played i l).holds ∙ sym (shadow_last t es s i l)) in
        each_five (λ r. after r ≡ attempted_at t.chip r) (at 11 (omega arith)) (at 13 (omega arith)) (at 15 (omega arith)) (at 16 (omega arith))
        (at 17 (omega arith))

    kept_where_sure : unsure t.chip ≡ false → (before now after : Regs) → Played t.chip.address es before now → Played t.chip.address (entries reload t) now after
        → (r : ℕ) → stands_by r ≡ true → after r ≡ now r
    kept_where_sure sure before now after played again r five =
        reload_stands before after (played_append (tuner_at t.chip.address) es (entries reload t) before now after played again) r five
        ∙ sym (holds_five t es s before now played sure r five)

    -- where none of the five was in doubt it stays, on every chip
    module _ (sure : unsure t.chip ≡ false) (before now after : Regs) (played : Played t.chip.address es before now)
        (again : Played t.chip.address (entries reload t) now after) where
      pub reload_keeps_lem : (r : ℕ) → stands_by r ≡ true → after r ≡ now r
      reload_keeps_lem = kept_where_sure sure before now after played again

      pub reload_keeps_vco_lem : (reference : ℕ) → vco_in reference after ≡ vco_in reference now
      reload_keeps_vco_lem reference = same_vco reference after now (kept_where_sure sure before now after played again)

      pub reload_keeps_hz_lem : (reference : ℕ) → hz_in reference after ≡ hz_in reference now
      reload_keeps_hz_lem reference = same_hz reference after now (kept_where_sure sure before now after played again)

      pub reload_keeps_within : (lo reference : ℕ) → Within lo reference now → Within lo reference after
      reload_keeps_within lo reference = same_within reference now after (λ r five. sym (kept_where_sure sure before now after played again r five)) lo

    -- ---- and by the record

    was_sound : sound t ≡ true
    unfolding tuner.result_of left_by
    was_sound = accepted (sound t) 0 9 0 (length room) (length os) 0 (went _ (Done 0) os _ t.chip _ t room (ap is_done done)).1.taken_up

    -- whatever was in doubt before, it tells the oscillator by the bytes last attempted
    pub reload_told : oscillator_of (tuner_after reload t) ≡ Done (hz_in t.corrected (attempted_at t.chip))
    unfolding every
    reload_told =
        let u : Tuner = tuner_after reload t in
        let same : Same t u = reload_same t os room in
        let chip = some_chip u (es ++ entries reload t) (next t es s reload refl) (λ r. 0) in
        let played : Played t.chip.address (es ++ entries reload t) (λ r. 0) chip.0 =
        subst (λ (a : ℕ). Played a (es ++ entries reload t) (λ r. 0) chip.0) same.address chip.1 in
        let at : (i : ℕ) → i < 27 → Restored (byte_in (get_or init_array i 0) (last_in t.chip.address es (5 + i))) i u.chip chip.0 =
        reload_done t es s os room done (λ r. 0) chip.0 played in
        let no : (i : ℕ) → i < 27 → get_or u.chip.doubtful i true ≡ false = (λ i l. (at i l).doubtful) in
        let byte : (i : ℕ) → i < 27 → get_or t.chip.shadow i 0 ≡ get_or u.chip.shadow i 0 = (λ i l. shadow_last t es s i l ∙ sym (at i l).shadow) in
        let none : unsure u.chip ≡ false = rw (no 11 (omega arith), no 13 (omega arith), no 15 (omega arith), no 16 (omega arith), no 17 (omega arith)) in
        let five : (r : ℕ) → stands_by r ≡ true → attempted_at t.chip r ≡ attempted_at u.chip r =
        each_five (λ r. attempted_at t.chip r ≡ attempted_at u.chip r) (byte 11 (omega arith)) (byte 13 (omega arith)) (byte 15 (omega arith))
        (byte 16 (omega arith)) (byte 17 (omega arith)) in
        sym
        (told u (hz_in t.corrected (attempted_at t.chip)) ((λ i. sound_by (same.nominal i) (same.corrected i)) ∙ was_sound) none
        (ap (λ (r : ℕ). hz_in r (attempted_at t.chip)) (sym same.corrected) ∙ same_hz u.corrected (attempted_at t.chip) (attempted_at u.chip) five))

    -- so of a record in which none of the five is in doubt it tells what was told before
    pub reload_keeps_told : unsure t.chip ≡ false → oscillator_of (tuner_after reload t) ≡ oscillator_of t
    reload_keeps_told sure = reload_told ∙ told t (hz_in t.corrected (attempted_at t.chip)) was_sound sure refl
