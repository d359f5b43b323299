-- "A recording filed under the wrong transmitter": a tuning that is answered done, and whose divider was not repaired, has the chip's oscillator at the
-- frequency asked, plus the IF, but for what the PLL's whole numbers leave: 25 kHz divided by m. On a board it is the frequency that the table planned.
-- Said of the registers alone, on every chip on which the entries were played, after any sequence of calls. Assumes nothing.
use Prim.Native.Nat.{ℕ, ◌+◌, ◌-◌, ◌<◌}
use mathlib.Core.Path.{◌≡◌, refl, sym, ap, subst, ◌∙◌}
use mathlib.Core.Bool.{Bool, true, false, cond}
use mathlib.Core.List.{List, ◌++◌}
use native.Mathlib.Omega.{arith}
use lib.Dec.{ltb}
use lib.ListN.{drop, get_or}
use Rattle.transcript.specs.declared.Entry.{Entry}
use Rattle.attempts.specs.Attempts.{Played, Regs}
use Rattle.bands.specs.Tables.{plan_by}
use Rattle.boards.specs.Hops.{path_replies}
use Rattle.driver.specs.declared.Driver.{Driver}
use Rattle.refusals.specs.declared.Answer.TheVariants.{Done}
use Rattle.oscillator.specs.Registers.{Within, hz_in, stands_by}
use Rattle.oscillator.proofs.Oscillator.{Says, each_five, same_hz, within}
use Rattle.pll.specs.declared.Kind.{Kind}
use Rattle.pll.specs.declared.Kind.TheVariants.{R820T, R828D}
use Rattle.pll.specs.declared.Plan.{Plan}
use Rattle.r82xx.specs.declared.Tuner.{Tuner}
use Rattle.r82xx.specs.Orders.Order.{Tune}
use Rattle.station.specs.Station.{attempted_at, doubtful_at, oscillator_of, unsure}
use Rattle.station.proofs.Told.{sure, told, told_back}
use Rattle.tuning.specs.Tries.{fine_of, power_of}
use Rattle.sequences.specs.Calls.{Call, call, entries, given, result, tuner_after}
use Rattle.sequences.specs.Calls.Order.{BoardTune, Tuned}
use Rattle.sequences.specs.Sequences.{Sequence}
use Rattle.sequences.specs.Sequences.Sequence.{next}
use Rattle.sequences.proofs.Demand.{sure_holds}
use Rattle.sequences.proofs.Stands.{repaired}
use Rattle.sequences.proofs.Tunings.{Kept, hopped_stands, is_done, tuned_stands}

-- no repair: the status says the VCO's band as it should be
pub same_number : (address : ℕ) (kind : Kind) (notch : Bool) (p : Plan) (hz : ℕ) (rs : List ℕ) → fine_of (get_or rs 4 0) ≡ power_of kind
    → repaired address kind notch p hz rs ≡ p.number
unfolding repaired
same_number address kind notch p hz rs e =
    ap (λ (f : ℕ). cond (ltb (power_of kind) f) (p.number - 1) (cond (ltb f (power_of kind)) (p.number + 1) p.number)) e ∙ go kind
  where
    go : (k : Kind) → cond (ltb (power_of k) (power_of k)) (p.number - 1) (cond (ltb (power_of k) (power_of k)) (p.number + 1) p.number) ≡ p.number
    go R820T = refl
    go R828D = refl

module _ (t : Tuner) (es : List Entry) (s : Sequence t es) where
  pub on_station : (hz : ℕ) (rs os room : List ℕ) → given (Tuned (Tune hz rs)) t ≡ true → is_done (result (call (Tuned (Tune hz rs)) os room) t).answer ≡ true
      → fine_of (get_or rs 4 0) ≡ power_of t.kind
      → (before now : Regs) → Played t.chip.address (es ++ entries (call (Tuned (Tune hz rs)) os room) t) before now
      → Within (hz + t.ifreq) t.corrected now
  on_station hz rs os room g h fine before now played =
      let w = tuned_stands t es s hz rs os room g h before now played in
      within t.kind (hz + t.ifreq) t.corrected w.0 w.1 now
      (subst (λ (n : ℕ). Says w.0 n now) (same_number t.chip.address t.kind t.notch w.0 hz rs fine) w.2)

  -- the status stands behind the replies of the board's path, where that is taken
  pub on_station_hop : (hz : ℕ) (table rs : List ℕ) (d : Driver) (os room : List ℕ) → given (BoardTune hz table rs d) t ≡ true
      → is_done (result (call (BoardTune hz table rs d) os room) t).answer ≡ true
      → fine_of (get_or (drop (path_replies t.kind (plan_by table hz).plan.path) rs) 4 0) ≡ power_of t.kind
      → (before now : Regs) → Played t.chip.address (es ++ entries (call (BoardTune hz table rs d) os room) t) before now
      → Within ((plan_by table hz).plan.hz + t.ifreq) t.corrected now
  on_station_hop hz table rs d os room g h fine before now played =
      let at = (plan_by table hz).plan in
      let w = hopped_stands t es s hz table rs d os room g h before now played in
      within t.kind (at.hz + t.ifreq) t.corrected w.0 w.1 now
      (subst (λ (n : ℕ). Says w.0 n now) (same_number t.chip.address t.kind at.notch w.0 at.hz (drop (path_replies t.kind at.path) rs) fine) w.2)

-- ---- what `station::oscillator` tells of the record

-- a register that is in no doubt holds the byte last attempted: so a frequency that is told is where the chip's oscillator stands
module _ (t : Tuner) (es : List Entry) (s : Sequence t es) (before now : Regs) (played : Played t.chip.address es before now) where
  pub holds_five : unsure t.chip ≡ false → (r : ℕ) → stands_by r ≡ true → now r ≡ attempted_at t.chip r
  holds_five h =
      let at : (i : ℕ) → i < 27 → get_or t.chip.doubtful i true ≡ false → now (5 + i) ≡ get_or t.chip.shadow i 0 = sure_holds t es s before now played in
      let no : (r : ℕ) → stands_by r ≡ true → doubtful_at t.chip r ≡ false = sure t.chip h in
      each_five (λ r. now r ≡ attempted_at t.chip r) (at 11 (omega arith) (no 0x10 refl)) (at 13 (omega arith) (no 0x12 refl)) (at 15 (omega arith) (no 0x14 refl))
      (at 16 (omega arith) (no 0x15 refl)) (at 17 (omega arith) (no 0x16 refl))

  pub told_holds : (hz : ℕ) → oscillator_of t ≡ Done hz → hz_in t.corrected now ≡ hz
  told_holds hz e =
      let p = told_back t hz e in
      same_hz t.corrected now (attempted_at t.chip) (holds_five p.0) ∙ p.1

-- and after a tuning that is answered done it is told, repaired or not
module _ (t : Tuner) (es : List Entry) (s : Sequence t es) where
  told_after : (k : Call) → given k.order t ≡ true → Kept t (tuner_after k t) → (before now : Regs) → Played t.chip.address (es ++ entries k t) before now
      → oscillator_of (tuner_after k t) ≡ Done (hz_in t.corrected now)
  told_after k g w before now played =
      let u : Tuner = tuner_after k t in
      let mine : Played u.chip.address (es ++ entries k t) before now =
      subst (λ (a : ℕ). Played a (es ++ entries k t) before now) (sym w.address) played in
      sym
      (told u (hz_in t.corrected now) w.ranges w.sure
      (ap (λ (r : ℕ). hz_in r now) (sym w.corrected)
      ∙ same_hz u.corrected now (attempted_at u.chip) (holds_five u (es ++ entries k t) (next t es s k g) before now mine w.sure)))

  pub tune_told : (hz : ℕ) (rs os room : List ℕ) → given (Tuned (Tune hz rs)) t ≡ true → is_done (result (call (Tuned (Tune hz rs)) os room) t).answer ≡ true
      → (before now : Regs) → Played t.chip.address (es ++ entries (call (Tuned (Tune hz rs)) os room) t) before now
      → oscillator_of (tuner_after (call (Tuned (Tune hz rs)) os room) t) ≡ Done (hz_in t.corrected now)
  tune_told hz rs os room g h before now played =
      told_after (call (Tuned (Tune hz rs)) os room) g (tuned_stands t es s hz rs os room g h before now played).3 before now played

  pub hop_told : (hz : ℕ) (table rs : List ℕ) (d : Driver) (os room : List ℕ) → given (BoardTune hz table rs d) t ≡ true
      → is_done (result (call (BoardTune hz table rs d) os room) t).answer ≡ true
      → (before now : Regs) → Played t.chip.address (es ++ entries (call (BoardTune hz table rs d) os room) t) before now
      → oscillator_of (tuner_after (call (BoardTune hz table rs d) os room) t) ≡ Done (hz_in t.corrected now)
  hop_told hz table rs d os room g h before now played =
      told_after (call (BoardTune hz table rs d) os room) g (hopped_stands t es s hz table rs d os room g h before now played).3 before now played
