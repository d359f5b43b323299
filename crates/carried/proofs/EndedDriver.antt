-- The driver's bytes too: when every step of a sample rate or of a board-level tune has been taken, the next ones do not hang on the unknown rest of the memory. Assumes nothing.
use Prim.Native.Nat.{ℕ, ◌%◌, ◌≤◌, ◌<◌}
use mathlib.Core.Path.{◌≡◌, refl, sym, ap, subst, ◌∙◌}
use mathlib.Core.Bool.{Bool, true, false, cond, ◌&&◌, ◌||◌, true≢false}
use mathlib.Core.List.{List, []}
use native.Mathlib.Omega.{arith}
use lib.Dec.{eqb, ltb}
use lib.ListN.{length}
use Rattle.transcript.specs.declared.Entry.{Entry}
use Rattle.bands.specs.Tables.{plan_by}
use Rattle.boards.specs.Hops.{hop_result, hop_row}
use Rattle.chip.specs.Calls.{Called}
use Rattle.driver.specs.declared.Driver.{Driver}
use Rattle.driver.specs.Calls.{Both, both, rate_result, rate_row}
use Rattle.driver.specs.Record.{sound_driver}
use Rattle.drivers.specs.Drivers.{both_ready, hop_argument, hop_over, over_both, rate_over, rates_made, rates_refused}
use Rattle.r82xx.specs.declared.Tuner.{Tuner}
use Rattle.r82xx.specs.Record.{sound}
use Rattle.records.specs.Drivers.{DriverRead}
use Rattle.records.specs.Drivers.{driver_bytes, driver_of}
use Rattle.records.specs.Tuners.{tuner_bytes}
use Rattle.records.proofs.Driven.{RangedDriver, driver_read_lem}
use Rattle.records.proofs.Exact.{Ranged, read_written}
use Rattle.rounds.specs.Driven.{Ends}
use Rattle.rounds.specs.Scripts.{step_at}
use Rattle.rounds.proofs.Ended.{ended_hop, ended_rate}
use Rattle.sequences.specs.Calls.Order.{BoardTune, SampleRate}
use Rattle.sequences.proofs.Views.{row_long}
use Rattle.tuners.specs.Over.{next_of, unless_refused}
use Rattle.carried.specs.Crashed.{Knows, Memory, Rounds, heard}
use Rattle.carried.specs.Driven.{taking29}
use Rattle.carried.specs.Exported.{plainly, stands}
use Rattle.carried.specs.Exported.Exported.{Hop, Rate}
use Rattle.carried.proofs.Crashed.{known_met, known_so, rounds_so, script_of}
use Rattle.carried.proofs.Driven.{Heard, driver_long, hop_steady, left_count, rate_steady, slot_long}
use Rattle.carried.proofs.Passed.{taken_over}
use Rattle.carried.proofs.Steady.{Settled, row_settled}

module _ (t : Tuner) (rt : Ranged t) (d : Driver) (r : RangedDriver d) where
  -- what a call on both that stands leaves of the driver's bytes
  next_bytes : (argument : Tuner → Driver → ℕ) (res : Tuner → Driver → Called Both) (room slot next : List ℕ) → Settled Heard (both t d) (res t d) → (res t d).count ≤ 64
      → stands (over_both argument res (driver_bytes d) (tuner_bytes t) room slot next).answer ≡ true
      → taking29 (over_both argument res (driver_bytes d) (tuner_bytes t) room slot next).answer (over_both argument res (driver_bytes d) (tuner_bytes t) room slot next).driver (driver_bytes d)
      ≡ driver_bytes (res t d).next.driver
  unfolding over_both unless_refused next_of
  next_bytes argument res room slot next s few = rw (driver_read_lem d r, read_written t rt) (λ q. go (eqb number 0) refl q)
    where
      number : ℕ
      number = both_ready true (argument t d) (length slot) (length next)

      go : (b : Bool) → eqb number 0 ≡ b → stands (cond b (rates_made (res t d) slot next) (rates_refused number room slot next)).answer ≡ true
          → taking29 (cond b (rates_made (res t d) slot next) (rates_refused number room slot next)).answer (cond b (rates_made (res t d) slot next) (rates_refused number room slot next)).driver (driver_bytes d)
          ≡ driver_bytes (res t d).next.driver
      go false z q = absurd (true≢false (sym q ∙ ap (λ (x : Bool). x || ltb 0 (0 % 4_294_967_296)) z))
      go true z q =
          taken_over Heard (λ x. driver_bytes x.driver) 29 (both t d) (res t d) s (driver_long (res t d).next.driver s.ranges) slot
          (slot_long true (argument t d) (length slot) (length next) z) (omega arith)

  same_driver : (driver_of (driver_bytes d)).driver ≡ d
  same_driver = ap (λ (x : DriverRead). x.driver) (driver_read_lem d r)

  module _ (rate : ℕ) (small : rate < 4_294_967_296) (table own : List ℕ) where
    abbrev rated : Memory → List ℕ
    rated m =
        taking29 (rate_over m.outcomes rate table (driver_bytes d) (tuner_bytes t) m.room m.slot m.next).answer
        (rate_over m.outcomes rate table (driver_bytes d) (tuner_bytes t) m.room m.slot m.next).driver (driver_bytes d)

    rated_bytes : (m : Memory) → stands (rate_over m.outcomes rate table (driver_bytes d) (tuner_bytes t) m.room m.slot m.next).answer ≡ true
        → rated m ≡ driver_bytes (rate_result rate (plan_by table d.frequency) m.outcomes t d m.room).next.driver
    unfolding rate_result
    rated_bytes m q =
        let row = rate_row rate (plan_by table d.frequency) t d in
        next_bytes _ (λ u v. rate_result rate (plan_by table v.frequency) m.outcomes u v m.room) m.room m.slot m.next
        (row_settled Heard (both t d) r t.chip (sound t && sound_driver d) m.outcomes m.room row (rate_steady t d r rate (plan_by table d.frequency) small))
        (left_count (sound t && sound_driver d) row m.outcomes t.chip (both t d) m.room (omega (arith, row_long (SampleRate rate table d) t))) q

    pub rate_ended : (os rs : List ℕ) (ds : List Entry) → Rounds (Rate rate table (driver_bytes d) own) (tuner_bytes t) os rs ds → (m n : Memory)
        → Knows (Rate rate table (driver_bytes d) own) (tuner_bytes t) os rs m → Knows (Rate rate table (driver_bytes d) own) (tuner_bytes t) os rs n
        → step_at (length os) (heard (Rate rate table (driver_bytes d) own) (tuner_bytes t) m) ≡ [] → rated m ≡ rated n
    rate_ended os rs ds rounds m n k l h =
        let e = Rate rate table (driver_bytes d) own in
        let ends : Ends _ _ =
        ended_rate os rs ds (script_of t rt e m) (script_of t rt e n) rate table (driver_of (driver_bytes d)).driver t (rounds_so t rt e os rs ds rounds) (known_so t rt e os rs m k)
        (known_so t rt e os rs n l) (sym (ap (step_at (length os)) (known_met t rt e os rs m k).entries) ∙ h) in
        let by : Driver → Memory → List ℕ = (λ v z. driver_bytes (rate_result rate (plan_by table v.frequency) z.outcomes t v z.room).next.driver) in
        rated_bytes m k.taken
        ∙ subst (λ (v : Driver). by v m ≡ by v n) same_driver (ap (λ (x : Both). driver_bytes x.driver) ends.next)
        ∙ sym (rated_bytes n l.taken)

  module _ (hz : ℕ) (small : hz < 18_446_744_073_709_551_616) (table own other : List ℕ) where
    abbrev hopped : Memory → List ℕ
    hopped m =
        taking29 (plainly (hop_over table hz m.replies m.outcomes (driver_bytes d) (tuner_bytes t) m.room m.slot m.next).answer)
        (hop_over table hz m.replies m.outcomes (driver_bytes d) (tuner_bytes t) m.room m.slot m.next).driver (driver_bytes d)

    hopped_bytes : (m : Memory) → stands (plainly (hop_over table hz m.replies m.outcomes (driver_bytes d) (tuner_bytes t) m.room m.slot m.next).answer) ≡ true
        → hopped m ≡ driver_bytes (hop_result (plan_by table hz) hz m.replies m.outcomes t d m.room).next.driver
    unfolding hop_result
    hopped_bytes m q =
        let row = hop_row (plan_by table hz) hz m.replies t d in
        next_bytes (hop_argument table hz) (λ u v. hop_result (plan_by table hz) hz m.replies m.outcomes u v m.room) m.room m.slot m.next
        (row_settled Heard (both t d) r t.chip (sound t && sound_driver d) m.outcomes m.room row (hop_steady t d r hz (plan_by table hz) m.replies small))
        (left_count (sound t && sound_driver d) row m.outcomes t.chip (both t d) m.room (omega (arith, row_long (BoardTune hz table m.replies d) t))) q

    pub hop_ended : (os rs : List ℕ) (ds : List Entry) → Rounds (Hop hz table own (driver_bytes d) other) (tuner_bytes t) os rs ds → (m n : Memory)
        → Knows (Hop hz table own (driver_bytes d) other) (tuner_bytes t) os rs m → Knows (Hop hz table own (driver_bytes d) other) (tuner_bytes t) os rs n
        → step_at (length os) (heard (Hop hz table own (driver_bytes d) other) (tuner_bytes t) m) ≡ [] → hopped m ≡ hopped n
    hop_ended os rs ds rounds m n k l h =
        let e = Hop hz table own (driver_bytes d) other in
        let ends : Ends _ _ =
        ended_hop os rs ds (script_of t rt e m) (script_of t rt e n) hz table own (driver_of (driver_bytes d)).driver t (rounds_so t rt e os rs ds rounds) (known_so t rt e os rs m k)
        (known_so t rt e os rs n l) (sym (ap (step_at (length os)) (known_met t rt e os rs m k).entries) ∙ h) in
        let by : Driver → Memory → List ℕ = (λ v z. driver_bytes (hop_result (plan_by table hz) hz z.replies z.outcomes t v z.room).next.driver) in
        hopped_bytes m k.taken
        ∙ subst (λ (v : Driver). by v m ≡ by v n) same_driver (ap (λ (x : Both). driver_bytes x.driver) ends.next)
        ∙ sym (hopped_bytes n l.taken)
