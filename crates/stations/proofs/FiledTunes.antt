-- The centre that the entries of a rate, calls between and a tune tell is sure and within its bound. Assumes nothing.
use Prim.Native.Nat.{ℕ, ◌+◌, ◌≤◌, ◌<◌}
use mathlib.Core.Path.{◌≡◌, refl, sym, ap, ◌∙◌}
use mathlib.Core.Bool.{true, false}
use mathlib.Core.List.{List, ◌++◌}
use native.Mathlib.Omega.{arith}
use lib.ListN.{drop, get_or}
use Rattle.transcript.specs.declared.Entry.{Entry}
use Rattle.attempts.specs.Attempts as chip
use Rattle.attempts.specs.Attempts.{Regs, tuner_at}
use Rattle.attempts.specs.Namings.{doubt_in}
use Rattle.attempts.proofs.Played.{some_played}
use Rattle.bands.specs.Tables.{plan_by}
use Rattle.boards.specs.Hops.{path_replies}
use Rattle.driver.specs.declared.Driver.{Driver}
use Rattle.driver.specs.Programs.{if_for}
use Rattle.driver.specs.Record.{xtal_of}
use Rattle.evidence.specs.Evidence.{code_in, lasts, lo_mark, oscillator}
use Rattle.evidence.proofs.Marks.{Sure, known_sure, sure_exactly}
use Rattle.oscillator.specs.Registers.{stands_by}
use Rattle.oscillator.proofs.Oscillator.{Says}
use Rattle.pll.specs.declared.Plan.{Plan}
use Rattle.std.specs.Prelude.{Some}
use Rattle.pll.proofs.Plans.{known}
use Rattle.r82xx.specs.declared.Tuner.{Tuner}
use Rattle.r82xx.specs.Calls.{plan_for}
use Rattle.r82xx.specs.Orders.Order.{Tune}
use Rattle.station.specs.Station.{doubtful_at}
use Rattle.station.proofs.Told.{sure}
use Rattle.tuning.specs.Tries.{fine_of, power_of}
use Rattle.sequences.specs.Calls.{Call, call, entries, given, result, tuner_after}
use Rattle.sequences.specs.Calls.Order.{BoardTune, SampleRate, Tuned}
use Rattle.sequences.specs.Sequences.{Sequence}
use Rattle.sequences.specs.Sequences.Sequence.{next}
use Rattle.sequences.proofs.Demand.{doubtful_exactly}
use Rattle.sequences.proofs.Station.{same_number}
use Rattle.sequences.proofs.Tunings.{Kept, hopped_stands, is_done, tuned_stands}
use Rattle.stations.specs.Between.{Between}
use Rattle.stations.specs.Centre.{Filed}
use Rattle.stations.proofs.Centre.{if_sure_by, on_centre, on_centre_board, so_far, whole}
use Rattle.stations.proofs.Filed.{filed_by}

-- ---- the oscillator's mark

-- a call that leaves the record sure of the five leaves their mark sure
lo_sure : (u : Tuner) (es : List Entry) → Sequence u es → (k : Call) → given k.order u ≡ true → Kept u (tuner_after k u)
    → lo_mark u.chip.address (es ++ entries k u) ≡ 2
lo_sure u es s k g w =
    let v : Tuner = tuner_after k u in
    let all : List Entry = es ++ entries k u in
    let no : (r : ℕ) → stands_by r ≡ true → doubtful_at v.chip r ≡ false = sure v.chip w.sure in
    let at : (i : ℕ) → i < 27 → get_or v.chip.doubtful i true ≡ false → Sure (chip.last_in u.chip.address all (5 + i)) = (λ i l q.
    known_sure (chip.last_in u.chip.address all (5 + i))
    (ap (λ (a : ℕ). doubt_in (chip.last_in a all (5 + i))) (sym w.address) ∙ sym (doubtful_exactly v all (next u es s k g) i l) ∙ q)) in
    (sure_exactly (lasts (chip.last_in u.chip.address all) oscillator)).1
    (at 11 (omega arith) (no 0x10 refl), (at 13 (omega arith) (no 0x12 refl), (at 15 (omega arith) (no 0x14 refl), (at 16 (omega arith) (no 0x15 refl), (at 17 (omega arith) (no 0x16 refl), tt)))))

-- ---- a rate, calls between, a tune

module _ (t : Tuner) (rate : ℕ) (table : List ℕ) (d : Driver) (os room : List ℕ) (es : List Entry) (s : Sequence t es)
    (h : is_done (result (call (SampleRate rate table d) os room) t).answer ≡ true) (small : if_for t.ifreq rate < xtal_of d) (u : Tuner) (gs : List Entry)
    (between : Between (tuner_after (call (SampleRate rate table d) os room) t) u gs) where
  abbrev before_it : List Entry
  before_it = so_far t rate table d os room es s h small u gs between

  -- a divider's number is at most 5
  few_by : (hz : ℕ) (p : Plan) → plan_for u hz ≡ Some p → (number : ℕ) → number ≡ p.number → (now : Regs) → Says p number now → code_in now ≤ 7
  few_by hz p e number same now says = omega (arith, (known u.kind (hz + u.ifreq) u.corrected p e).number, same, says.divided)

  pub filed : (hz : ℕ) (rs os' room' : List ℕ) → given (Tuned (Tune hz rs)) u ≡ true
      → is_done (result (call (Tuned (Tune hz rs)) os' room') u).answer ≡ true
      → fine_of (get_or rs 4 0) ≡ power_of u.kind
      → 12_500 ≤ hz
      → Filed hz u.chip.address u.corrected (xtal_of d) (before_it ++ entries (call (Tuned (Tune hz rs)) os' room') u)
  filed hz rs os' room' g done fine far =
      let k : Call = call (Tuned (Tune hz rs)) os' room' in
      let start : Sequence u before_it = whole t rate table d os room es s h small u gs between in
      let all : List Entry = before_it ++ entries k u in
      let stands = tuned_stands u before_it start hz rs os' room' g done in
      let some = some_played (tuner_at u.chip.address) all (λ q. 0) in
      filed_by u.chip.address u.corrected (xtal_of d) hz all
      (lo_sure u before_it start k g (stands (λ q. 0) some.0 some.1).3)
      (if_sure_by t rate table d os room es s h small u gs between k refl) far
      (λ before now played was is demod. (
        on_centre t rate table d os room es s h small u gs between hz rs os' room' g done fine before now played was is demod,
        (let w = stands before now played in
            few_by hz w.0 w.1 _ (same_number u.chip.address u.kind u.notch w.0 hz rs fine) now w.2),
      ))

  pub filed_board : (hz : ℕ) (lines rs : List ℕ) (e : Driver) (os' room' : List ℕ) → given (BoardTune hz lines rs e) u ≡ true
      → is_done (result (call (BoardTune hz lines rs e) os' room') u).answer ≡ true
      → fine_of (get_or (drop (path_replies u.kind (plan_by lines hz).plan.path) rs) 4 0) ≡ power_of u.kind
      → 12_500 ≤ (plan_by lines hz).plan.hz
      → Filed (plan_by lines hz).plan.hz u.chip.address u.corrected (xtal_of d) (before_it ++ entries (call (BoardTune hz lines rs e) os' room') u)
  filed_board hz lines rs e os' room' g done fine far =
      let k : Call = call (BoardTune hz lines rs e) os' room' in
      let at = (plan_by lines hz).plan in
      let start : Sequence u before_it = whole t rate table d os room es s h small u gs between in
      let all : List Entry = before_it ++ entries k u in
      let stands = hopped_stands u before_it start hz lines rs e os' room' g done in
      let some = some_played (tuner_at u.chip.address) all (λ q. 0) in
      filed_by u.chip.address u.corrected (xtal_of d) at.hz all
      (lo_sure u before_it start k g (stands (λ q. 0) some.0 some.1).3)
      (if_sure_by t rate table d os room es s h small u gs between k refl) far
      (λ before now played was is demod. (
        on_centre_board t rate table d os room es s h small u gs between hz lines rs e os' room' g done fine before now played was is demod,
        (let w = stands before now played in
            few_by at.hz w.0 w.1 _ (same_number u.chip.address u.kind at.notch w.0 at.hz (drop (path_replies u.kind at.path) rs) fine) now w.2),
      ))
