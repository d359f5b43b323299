-- Which station a receiver stands on, of the bytes that a host holds: crate `stations`, over exported calls. IF, reference and kind are those that the
-- tuner's bytes say.
-- Assumes nothing.
use Prim.Native.Nat.{ℕ, ◌+◌, ◌<◌}
use mathlib.Core.Path.{◌≡◌, refl, sym, ap, subst, ◌∙◌}
use mathlib.Core.Bool.{true}
use mathlib.Core.List.{List, ◌++◌}
use native.Mathlib.Omega.{arith}
use lib.ListN.{drop, get_or}
use Rattle.transcript.specs.declared.Entry.{Entry}
use Rattle.attempts.specs.Attempts.{Played, Regs, tuner_at}
use Rattle.attempts.proofs.Played.{played_append}
use Rattle.bands.specs.Tables.{plan_by}
use Rattle.boards.specs.Hops.{path_replies}
use Rattle.chip.specs.Steps.{every}
use Rattle.oscillator.specs.Bounds.{ByStatus}
use Rattle.oscillator.specs.Registers.{Within, hz_in, stands_by, vco_in}
use Rattle.oscillator.proofs.Oscillator.{each_five, same_hz, same_vco}
use Rattle.pll.specs.declared.Kind.{Kind}
use Rattle.r82xx.specs.declared.Tuner.{Tuner}
use Rattle.r82xx.specs.Orders.Order.{Reload, Tune}
use Rattle.records.specs.Drivers.{driver_of}
use Rattle.records.specs.Tuners.{tuner_of}
use Rattle.records.specs.Tuners.{TunerRead}
use Rattle.records.proofs.Exact.{Ranged, read_written}
use Rattle.tuning.specs.Tries.{fine_of, power_of}
use Rattle.sequences.specs.Calls.{is_byte, tuner_after}
use Rattle.sequences.specs.Calls.Order.{BoardTune, Tuned}
use Rattle.sequences.proofs.Tunings.{hop_done, tune_done}
use Rattle.stations.proofs.Keeps.{Same, hop_same, itself, reload_same, same_then, tune_same}
use Rattle.stations.proofs.Repaired as repaired
use Rattle.carried.specs.Exported.{Lent, amiss, entries_of, leaves, lent, typed}
use Rattle.carried.specs.Exported.Exported.{Hop, Own}
use Rattle.carried.specs.Carried.{Carried}
use Rattle.carried.specs.Carried.Carried.{next}
use Rattle.carried.proofs.Steady.{typed_given}
use Rattle.carried.proofs.Passed.{Passed, next_ranged}
use Rattle.carried.proofs.Passed.Passed.{away, made}
use Rattle.carried.proofs.Demand.{address, answered, calls, inner, number, pass, ranges, same_tuner, t}
use Rattle.carried.proofs.Demand.{on_station, on_station_hop, reload_done, shadow_byte, sure_holds}

module _ (b : List ℕ) (es : List Entry) (c : Carried b es) where
  -- a tuning that is answered 0, whatever its status said of the divider: at what was asked, at twice it, or at half of it
  pub tuned_at : (hz : ℕ) (rs os room out : List ℕ) → every is_byte rs ≡ true → (leaves (lent (Own (Tune hz rs)) os room out) b).reply.refusal ≡ 0
      → (before now : Regs) → Played (get_or b 1 0) (es ++ entries_of (lent (Own (Tune hz rs)) os room out) b) before now
      → ByStatus (power_of (tuner_of b).tuner.kind) (fine_of (get_or rs 4 0)) (hz + (tuner_of b).tuner.ifreq) (tuner_of b).tuner.corrected now
  tuned_at hz rs os room out small e before now played =
      let p = answered b es c (lent (Own (Tune hz rs)) os room out) small e before now played in
      let v : Tuner = t b es c in
      subst (λ (x : Tuner). ByStatus (power_of x.kind) (fine_of (get_or rs 4 0)) (hz + x.ifreq) x.corrected now) (same_tuner b es c)
      (repaired.tuned_at v es (calls b es c) hz rs os room (typed_given (Tuned (Tune hz rs)) v small) (tune_done v hz rs os room p.0) before now p.1)

  pub hopped_at : (hz : ℕ) (table rs driver slot os room out : List ℕ) → every is_byte rs ≡ true
      → (leaves (lent (Hop hz table rs driver slot) os room out) b).reply.refusal ≡ 0
      → (before now : Regs) → Played (get_or b 1 0) (es ++ entries_of (lent (Hop hz table rs driver slot) os room out) b) before now
      → ByStatus (power_of (tuner_of b).tuner.kind) (fine_of (get_or (drop (path_replies (tuner_of b).tuner.kind (plan_by table hz).plan.path) rs) 4 0))
      ((plan_by table hz).plan.hz + (tuner_of b).tuner.ifreq) (tuner_of b).tuner.corrected now
  hopped_at hz table rs driver slot os room out small e before now played =
      let p = answered b es c (lent (Hop hz table rs driver slot) os room out) small e before now played in
      let v : Tuner = t b es c in
      let d = (driver_of driver).driver in
      subst
      (λ (x : Tuner). ByStatus (power_of x.kind) (fine_of (get_or (drop (path_replies x.kind (plan_by table hz).plan.path) rs) 4 0))
      ((plan_by table hz).plan.hz + x.ifreq) x.corrected now) (same_tuner b es c)
      (repaired.hopped_at v es (calls b es c) hz table rs d os room (typed_given (BoardTune hz table rs d) v small)
      (hop_done v hz table rs d os room p.0) before now p.1)

  kept_where_sure : (os room out : List ℕ) → (leaves (lent (Own Reload) os room out) b).reply.refusal ≡ 0 → ((i : ℕ) → i < 27 → get_or b (51 + i) 1 ≡ 0)
      → (before now after : Regs) → Played (get_or b 1 0) es before now → Played (get_or b 1 0) (entries_of (lent (Own Reload) os room out) b) now after
      → (i : ℕ) → i < 27 → after (5 + i) ≡ now (5 + i)
  kept_where_sure os room out done sure before now after played again i l =
      let reload : List Entry = entries_of (lent (Own Reload) os room out) b in
      let both = played_append (tuner_at (get_or b 1 0)) es reload before now after played again in
      (reload_done b es c os room out done before after both i l).0 ∙ sym (shadow_byte b es c i l) ∙ sym (sure_holds b es c before now played i l (sure i l))

  five_kept : (before after : Regs) → ((i : ℕ) → i < 27 → after (5 + i) ≡ before (5 + i)) → (r : ℕ) → stands_by r ≡ true → after r ≡ before r
  five_kept before after kept =
      each_five (λ r. after r ≡ before r) (kept 11 (omega arith)) (kept 13 (omega arith)) (kept 15 (omega arith)) (kept 16 (omega arith)) (kept 17 (omega arith))

  -- a reload that is answered 0, of bytes in which no register is doubtful: on every chip the oscillator is where it was
  module _ (os room out : List ℕ) (done : (leaves (lent (Own Reload) os room out) b).reply.refusal ≡ 0) (sure : (i : ℕ) → i < 27 → get_or b (51 + i) 1 ≡ 0)
      (before now after : Regs) (played : Played (get_or b 1 0) es before now)
      (again : Played (get_or b 1 0) (entries_of (lent (Own Reload) os room out) b) now after) where
    pub reload_keeps : (i : ℕ) → i < 27 → after (5 + i) ≡ now (5 + i)
    reload_keeps = kept_where_sure os room out done sure before now after played again

    pub reload_keeps_vco : (reference : ℕ) → vco_in reference after ≡ vco_in reference now
    reload_keeps_vco reference = same_vco reference after now (five_kept now after (kept_where_sure os room out done sure before now after played again))

    pub reload_keeps_hz : (reference : ℕ) → hz_in reference after ≡ hz_in reference now
    reload_keeps_hz reference = same_hz reference after now (five_kept now after (kept_where_sure os room out done sure before now after played again))

  -- what a call leaves of the record that the bytes are
  left_same : (k : Lent) (h : typed k.exported ≡ true) → ((x : Tuner) → Same x (tuner_after (inner b es c k h) x))
      → Same (tuner_of b).tuner (tuner_of (leaves k b).bytes).tuner
  left_same k h same = go (pass b es c k h)
    where
      go : Passed (t b es c) (inner b es c k h) (number b es c k h) (amiss k.exported) (leaves k b)
          → Same (tuner_of b).tuner (tuner_of (leaves k b).bytes).tuner
      go (away z told reply bytes) =
          let read : (tuner_of (leaves k b).bytes).tuner ≡ t b es c =
          ap (λ (l : List ℕ). (tuner_of l).tuner) bytes ∙ ap (λ (r : TunerRead). r.tuner) (read_written (t b es c) (ranges b es c)) in
          subst (λ (x : Tuner). Same x (tuner_of (leaves k b).bytes).tuner) (same_tuner b es c) (subst (Same (t b es c)) (sym read) (itself (t b es c)))
      go (made z told reply room bytes) =
          let u : Tuner = tuner_after (inner b es c k h) (t b es c) in
          let range : Ranged u = next_ranged (t b es c) es (calls b es c) (ranges b es c) (inner b es c k h) h in
          let read : (tuner_of (leaves k b).bytes).tuner ≡ u =
          ap (λ (l : List ℕ). (tuner_of l).tuner) bytes ∙ ap (λ (r : TunerRead). r.tuner) (read_written u range) in
          subst (λ (x : Tuner). Same x (tuner_of (leaves k b).bytes).tuner) (same_tuner b es c) (subst (Same (t b es c)) (sym read) (same (t b es c)))

  address_of : get_or b 1 0 ≡ (tuner_of b).tuner.chip.address
  address_of = address b es c ∙ ap (λ (x : Tuner). x.chip.address) (same_tuner b es c)

-- "Reload, then the same call again": whatever the first tuning and the reload are answered, the same tuning, answered 0 without a repair, has the
-- oscillator at hz + IF
module _ (b : List ℕ) (es : List Entry) (c : Carried b es) (hz : ℕ) where
  abbrev reloading : List ℕ → List ℕ → List ℕ → Lent
  reloading os room out = lent (Own Reload) os room out

  -- two calls that leave kind, IF, reference and address
  module _ (k : Lent) (h : typed k.exported ≡ true) (kept : (x : Tuner) → Same x (tuner_after (inner b es c k h) x)) (os room out : List ℕ) where
    abbrev middle : List ℕ
    middle = (leaves k b).bytes

    abbrev last : List ℕ
    last = (leaves (reloading os room out) middle).bytes

    abbrev all : List Entry
    all = (es ++ entries_of k b) ++ entries_of (reloading os room out) middle

    carried_on : Carried last all
    carried_on = next middle (es ++ entries_of k b) (next b es c k h) (reloading os room out) refl

    still_same : Same (tuner_of b).tuner (tuner_of last).tuner
    still_same =
        same_then (tuner_of b).tuner (tuner_of middle).tuner (tuner_of last).tuner (left_same b es c k h kept)
        (left_same middle (es ++ entries_of k b) (next b es c k h) (reloading os room out) refl (λ x. reload_same x os room))

    still_address : get_or last 1 0 ≡ get_or b 1 0
    still_address = address_of last all carried_on ∙ still_same.address ∙ sym (address_of b es c)

    at_first : (f : ℕ) (now : Regs) → Within (f + (tuner_of last).tuner.ifreq) (tuner_of last).tuner.corrected now
        → Within (f + (tuner_of b).tuner.ifreq) (tuner_of b).tuner.corrected now
    at_first f now on =
        subst (λ (r : ℕ). Within (f + (tuner_of b).tuner.ifreq) r now) still_same.corrected
        (subst (λ (i : ℕ). Within (f + i) (tuner_of last).tuner.corrected now) still_same.ifreq on)

  pub again_on_station : (rs os room out : List ℕ) → (small : every is_byte rs ≡ true) → (os' room' out' rs'' os'' room'' out'' : List ℕ) → every is_byte rs'' ≡ true
      → let first = lent (Own (Tune hz rs)) os room out in
      let again = lent (Own (Tune hz rs'')) os'' room'' out'' in
      let mid = (leaves first b).bytes in
      let end = (leaves (reloading os' room' out') mid).bytes in
      (leaves again end).reply.refusal ≡ 0
      → fine_of (get_or rs'' 4 0) ≡ power_of (tuner_of b).tuner.kind
      → (before now : Regs) → Played (get_or b 1 0) (((es ++ entries_of first b) ++ entries_of (reloading os' room' out') mid) ++ entries_of again end) before now
      → Within (hz + (tuner_of b).tuner.ifreq) (tuner_of b).tuner.corrected now
  again_on_station rs os room out small os' room' out' rs'' os'' room'' out'' small'' e fine before now played =
      let first : Lent = lent (Own (Tune hz rs)) os room out in
      let kept : (x : Tuner) → Same x (tuner_after (inner b es c first small) x) = (λ x. tune_same x os room hz rs) in
      let end : List ℕ = last first small kept os' room' out' in
      let so_far : List Entry = all first small kept os' room' out' in
      let same = still_same first small kept os' room' out' in
      let again : Lent = lent (Own (Tune hz rs'')) os'' room'' out'' in
      let there : Played (get_or end 1 0) (so_far ++ entries_of again end) before now =
      subst (λ (a : ℕ). Played a (so_far ++ entries_of again end) before now) (sym (still_address first small kept os' room' out')) played in
      at_first first small kept os' room' out' hz now
      (on_station end so_far (carried_on first small kept os' room' out') hz rs'' os'' room'' out'' small'' e (fine ∙ ap power_of (sym same.kind)) before now there)

  -- and of the board-level tune, at the frequency that its table planned
  pub again_on_station_hop : (table rs driver slot os room out : List ℕ) → (small : every is_byte rs ≡ true)
      → (os' room' out' rs'' driver'' slot'' os'' room'' out'' : List ℕ) → every is_byte rs'' ≡ true
      → let first = lent (Hop hz table rs driver slot) os room out in
      let again = lent (Hop hz table rs'' driver'' slot'') os'' room'' out'' in
      let mid = (leaves first b).bytes in
      let end = (leaves (reloading os' room' out') mid).bytes in
      (leaves again end).reply.refusal ≡ 0
      → fine_of (get_or (drop (path_replies (tuner_of b).tuner.kind (plan_by table hz).plan.path) rs'') 4 0) ≡ power_of (tuner_of b).tuner.kind
      → (before now : Regs) → Played (get_or b 1 0) (((es ++ entries_of first b) ++ entries_of (reloading os' room' out') mid) ++ entries_of again end) before now
      → Within ((plan_by table hz).plan.hz + (tuner_of b).tuner.ifreq) (tuner_of b).tuner.corrected now
  again_on_station_hop table rs driver slot os room out small os' room' out' rs'' driver'' slot'' os'' room'' out'' small'' e fine before now played =
      let first : Lent = lent (Hop hz table rs driver slot) os room out in
      let kept : (x : Tuner) → Same x (tuner_after (inner b es c first small) x) = (λ x. hop_same x os room hz table rs (driver_of driver).driver) in
      let end : List ℕ = last first small kept os' room' out' in
      let so_far : List Entry = all first small kept os' room' out' in
      let same = still_same first small kept os' room' out' in
      let again : Lent = lent (Hop hz table rs'' driver'' slot'') os'' room'' out'' in
      let there : Played (get_or end 1 0) (so_far ++ entries_of again end) before now =
      subst (λ (a : ℕ). Played a (so_far ++ entries_of again end) before now) (sym (still_address first small kept os' room' out')) played in
      let status : fine_of (get_or (drop (path_replies (tuner_of end).tuner.kind (plan_by table hz).plan.path) rs'') 4 0) ≡ power_of (tuner_of end).tuner.kind =
      subst (λ (x : Kind). fine_of (get_or (drop (path_replies x (plan_by table hz).plan.path) rs'') 4 0) ≡ power_of x) (sym same.kind) fine in
      at_first first small kept os' room' out' (plan_by table hz).plan.hz now
      (on_station_hop end so_far (carried_on first small kept os' room' out') hz table rs'' driver'' slot'' os'' room'' out'' small'' e status before now there)
