-- References at which a tuning that is answered done without a repair stands nearer than 25 kHz / m. At exactly 28,800,000 Hz (the usual crystal, at 0 ppm) the
-- VCO is at most 2,757 Hz below and 1,243 above what was asked, so that where m is 32 the oscillator is at most 87 Hz off, not 782; at any other multiple of
-- 1,000 Hz below 32,768,000 it is at most 17,999 below and 16,000 above. Assumes nothing.
use Prim.Native.Nat.{ℕ, ◌+◌, ◌%◌, ◌<◌}
use mathlib.Core.Path.{◌≡◌, sym, subst}
use mathlib.Core.Bool.{true}
use mathlib.Core.List.{List, ◌++◌}
use lib.ListN.{drop, get_or}
use Rattle.transcript.specs.declared.Entry.{Entry}
use Rattle.attempts.specs.Attempts.{Played, Regs}
use Rattle.bands.specs.Tables.{plan_by}
use Rattle.boards.specs.Hops.{path_replies}
use Rattle.driver.specs.declared.Driver.{Driver}
use Rattle.oscillator.specs.Bounds.{Around}
use Rattle.oscillator.proofs.Oscillator.{Says}
use Rattle.oscillator.specs.Registers.{Bytes}
use Rattle.oscillator.proofs.Sharp as exactly
use Rattle.oscillator.proofs.Thousands as thousands
use Rattle.pll.specs.declared.Plan.{Plan}
use Rattle.std.specs.Prelude.{Some}
use Rattle.pll.specs.Plan.{plan_of}
use Rattle.r82xx.specs.declared.Tuner.{Tuner}
use Rattle.r82xx.specs.Orders.Order.{Tune}
use Rattle.tuning.specs.Tries.{fine_of, power_of}
use Rattle.sequences.specs.Calls.{call, entries, given, result}
use Rattle.sequences.specs.Calls.Order.{BoardTune, Tuned}
use Rattle.sequences.specs.Sequences.{Sequence}
use Rattle.sequences.proofs.Station.{same_number}
use Rattle.sequences.proofs.Tunings.{hopped_stands, is_done, tuned_stands}

module _ (t : Tuner) (es : List Entry) (s : Sequence t es) where
  -- by a law of bytes that say a plan
  abbrev Law : ℕ → ℕ → Type 0
  Law under over = (lo : ℕ) (p : Plan) → plan_of t.kind lo t.corrected ≡ Some p → (reg : Bytes) → Says p p.number reg → Around under over lo t.corrected reg

  tune_by : (under over : ℕ) → Law under over → (hz : ℕ) (rs os room : List ℕ) → given (Tuned (Tune hz rs)) t ≡ true
      → is_done (result (call (Tuned (Tune hz rs)) os room) t).answer ≡ true
      → fine_of (get_or rs 4 0) ≡ power_of t.kind
      → (before now : Regs) → Played t.chip.address (es ++ entries (call (Tuned (Tune hz rs)) os room) t) before now
      → Around under over (hz + t.ifreq) t.corrected now
  tune_by under over law hz rs os room g h fine before now played =
      let w = tuned_stands t es s hz rs os room g h before now played in
      law (hz + t.ifreq) w.0 w.1 now
      (subst (λ (n : ℕ). Says w.0 n now) (same_number t.chip.address t.kind t.notch w.0 hz rs fine) w.2)

  hop_by : (under over : ℕ) → Law under over → (hz : ℕ) (table rs : List ℕ) (d : Driver) (os room : List ℕ) → given (BoardTune hz table rs d) t ≡ true
      → is_done (result (call (BoardTune hz table rs d) os room) t).answer ≡ true
      → fine_of (get_or (drop (path_replies t.kind (plan_by table hz).plan.path) rs) 4 0) ≡ power_of t.kind
      → (before now : Regs) → Played t.chip.address (es ++ entries (call (BoardTune hz table rs d) os room) t) before now
      → Around under over ((plan_by table hz).plan.hz + t.ifreq) t.corrected now
  hop_by under over law hz table rs d os room g h fine before now played =
      let at = (plan_by table hz).plan in
      let w = hopped_stands t es s hz table rs d os room g h before now played in
      law (at.hz + t.ifreq) w.0 w.1 now
      (subst (λ (n : ℕ). Says w.0 n now)
      (same_number t.chip.address t.kind at.notch w.0 at.hz (drop (path_replies t.kind at.path) rs) fine) w.2)

  law_exact : t.corrected ≡ 28_800_000 → Law 2_757 1_243
  law_exact exact lo p is reg says =
      subst (λ (r : ℕ). Around 2_757 1_243 lo r reg) (sym exact)
      (exactly.around t.kind lo p (subst (λ (r : ℕ). plan_of t.kind lo r ≡ Some p) exact is) reg says)

  module _ (exact : t.corrected ≡ 28_800_000) where
    pub nearer : (hz : ℕ) (rs os room : List ℕ) → given (Tuned (Tune hz rs)) t ≡ true
        → is_done (result (call (Tuned (Tune hz rs)) os room) t).answer ≡ true
        → fine_of (get_or rs 4 0) ≡ power_of t.kind
        → (before now : Regs) → Played t.chip.address (es ++ entries (call (Tuned (Tune hz rs)) os room) t) before now
        → Around 2_757 1_243 (hz + t.ifreq) t.corrected now
    nearer = tune_by 2_757 1_243 (law_exact exact)

    pub nearer_hop : (hz : ℕ) (table rs : List ℕ) (d : Driver) (os room : List ℕ) → given (BoardTune hz table rs d) t ≡ true
        → is_done (result (call (BoardTune hz table rs d) os room) t).answer ≡ true
        → fine_of (get_or (drop (path_replies t.kind (plan_by table hz).plan.path) rs) 4 0) ≡ power_of t.kind
        → (before now : Regs) → Played t.chip.address (es ++ entries (call (BoardTune hz table rs d) os room) t) before now
        → Around 2_757 1_243 ((plan_by table hz).plan.hz + t.ifreq) t.corrected now
    nearer_hop = hop_by 2_757 1_243 (law_exact exact)

  module _ (thousand : t.corrected % 1000 ≡ 0) (small : t.corrected < 32_768_000) where
    law_thousand : Law 17_999 16_000
    law_thousand lo p is reg says = thousands.around t.kind lo t.corrected thousand small p is reg says

    pub near_thousand : (hz : ℕ) (rs os room : List ℕ) → given (Tuned (Tune hz rs)) t ≡ true
        → is_done (result (call (Tuned (Tune hz rs)) os room) t).answer ≡ true
        → fine_of (get_or rs 4 0) ≡ power_of t.kind
        → (before now : Regs) → Played t.chip.address (es ++ entries (call (Tuned (Tune hz rs)) os room) t) before now
        → Around 17_999 16_000 (hz + t.ifreq) t.corrected now
    near_thousand = tune_by 17_999 16_000 law_thousand

    pub near_thousand_hop : (hz : ℕ) (table rs : List ℕ) (d : Driver) (os room : List ℕ) → given (BoardTune hz table rs d) t ≡ true
        → is_done (result (call (BoardTune hz table rs d) os room) t).answer ≡ true
        → fine_of (get_or (drop (path_replies t.kind (plan_by table hz).plan.path) rs) 4 0) ≡ power_of t.kind
        → (before now : Regs) → Played t.chip.address (es ++ entries (call (BoardTune hz table rs d) os room) t) before now
        → Around 17_999 16_000 ((plan_by table hz).plan.hz + t.ifreq) t.corrected now
    near_thousand_hop = hop_by 17_999 16_000 law_thousand
