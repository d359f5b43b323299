-- A tuning that is answered done, whatever its status said of the divider: on every chip the oscillator stands at what was asked, at twice it, or at half of
-- it, and the status says which. Assumes nothing.
use Prim.Native.Nat.{ℕ, ◌+◌}
use mathlib.Core.Path.{◌≡◌}
use mathlib.Core.Bool.{Bool, true}
use mathlib.Core.List.{List, ◌++◌}
use native.Mathlib.Omega.{arith}
use borrow.Author.Tests.{le-ltb, lt-ltb}
use lib.ListN.{drop, get_or}
use Rattle.transcript.specs.declared.Entry.{Entry}
use Rattle.attempts.specs.Attempts.{Played, Regs}
use Rattle.bands.specs.Tables.{plan_by}
use Rattle.boards.specs.Hops.{path_replies}
use Rattle.driver.specs.declared.Driver.{Driver}
use Rattle.oscillator.specs.Bounds.{ByStatus}
use Rattle.oscillator.specs.Registers.{Bytes}
use Rattle.oscillator.proofs.Oscillator.{Says}
use Rattle.oscillator.proofs.Repaired.{by_status}
use Rattle.pll.specs.declared.Kind.{Kind}
use Rattle.pll.specs.declared.Plan.{Plan}
use Rattle.std.specs.Prelude.{Some}
use Rattle.pll.specs.Plan.{plan_of}
use Rattle.r82xx.specs.declared.Tuner.{Tuner}
use Rattle.r82xx.specs.Orders.Order.{Tune}
use Rattle.tuning.specs.Tries.{fine_of, power_of}
use Rattle.sequences.specs.Calls.{call, entries, given, result}
use Rattle.sequences.specs.Calls.Order.{BoardTune, Tuned}
use Rattle.sequences.specs.Sequences.{Sequence}
use Rattle.sequences.proofs.Stands.{repaired}
use Rattle.sequences.proofs.Tunings.{hopped_stands, is_done, tuned_stands}

at_status : (address : ℕ) (kind : Kind) (notch : Bool) (hz : ℕ) (rs : List ℕ) (lo r : ℕ) (p : Plan) → plan_of kind lo r ≡ Some p → (reg : Bytes)
    → Says p (repaired address kind notch p hz rs) reg → ByStatus (power_of kind) (fine_of (get_or rs 4 0)) lo r reg
unfolding repaired
at_status address kind notch hz rs lo r p is reg says =
    let power : ℕ = power_of kind in
    let fine : ℕ = fine_of (get_or rs 4 0) in
    by_status kind lo r p is (repaired address kind notch p hz rs) reg says power fine
    (λ e. rw (le-ltb power fine (omega (arith, e)), le-ltb fine power (omega (arith, e))))
    (λ h. rw (lt-ltb power fine h))
    (λ h. rw (le-ltb power fine (omega (arith, h)), lt-ltb fine power h))

module _ (t : Tuner) (es : List Entry) (s : Sequence t es) where
  pub tuned_at : (hz : ℕ) (rs os room : List ℕ) → given (Tuned (Tune hz rs)) t ≡ true → is_done (result (call (Tuned (Tune hz rs)) os room) t).answer ≡ true
      → (before now : Regs) → Played t.chip.address (es ++ entries (call (Tuned (Tune hz rs)) os room) t) before now
      → ByStatus (power_of t.kind) (fine_of (get_or rs 4 0)) (hz + t.ifreq) t.corrected now
  tuned_at hz rs os room g h before now played =
      let w = tuned_stands t es s hz rs os room g h before now played in
      at_status t.chip.address t.kind t.notch hz rs (hz + t.ifreq) t.corrected w.0 w.1 now w.2

  -- on a board: of the frequency that its table planned, and the status stands behind the replies of the board's path
  pub hopped_at : (hz : ℕ) (table rs : List ℕ) (d : Driver) (os room : List ℕ) → given (BoardTune hz table rs d) t ≡ true
      → is_done (result (call (BoardTune hz table rs d) os room) t).answer ≡ true
      → (before now : Regs) → Played t.chip.address (es ++ entries (call (BoardTune hz table rs d) os room) t) before now
      → ByStatus (power_of t.kind) (fine_of (get_or (drop (path_replies t.kind (plan_by table hz).plan.path) rs) 4 0)) ((plan_by table hz).plan.hz + t.ifreq)
      t.corrected now
  hopped_at hz table rs d os room g h before now played =
      let at = (plan_by table hz).plan in
      let w = hopped_stands t es s hz table rs d os room g h before now played in
      at_status t.chip.address t.kind at.notch at.hz (drop (path_replies t.kind at.path) rs) (at.hz + t.ifreq) t.corrected w.0 w.1
      now w.2
