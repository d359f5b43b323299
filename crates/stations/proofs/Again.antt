-- "Reload, then the same call again": a tuning that was cut anywhere (or not), a reload whatever it is answered, and the same tuning, answered done without a
-- repair, have the chip's oscillator on station. Only the last call must be done; kind, IF and reference are those of the record before the first, which
-- neither of the two changes. Assumes nothing.
use Prim.Native.Nat.{ℕ, ◌+◌}
use mathlib.Core.Path.{◌≡◌, refl, sym, ap, subst, ◌∙◌}
use mathlib.Core.Bool.{true}
use mathlib.Core.List.{List, ◌++◌}
use lib.ListN.{drop, get_or}
use Rattle.transcript.specs.declared.Entry.{Entry}
use Rattle.attempts.specs.Attempts.{Played, Regs}
use Rattle.bands.specs.Tables.{plan_by}
use Rattle.boards.specs.Hops.{path_replies}
use Rattle.chip.specs.Steps.{every}
use Rattle.driver.specs.declared.Driver.{Driver}
use Rattle.oscillator.specs.Registers.{Within}
use Rattle.pll.specs.declared.Kind.{Kind}
use Rattle.r82xx.specs.declared.Tuner.{Tuner}
use Rattle.r82xx.specs.Orders.Order.{Reload, Tune}
use Rattle.tuning.specs.Tries.{fine_of, power_of}
use Rattle.sequences.specs.Calls.{Call, call, entries, given, result, tuner_after}
use Rattle.sequences.specs.Calls.Order.{BoardTune, Tuned}
use Rattle.sequences.specs.Sequences.{Sequence}
use Rattle.sequences.specs.Sequences.Sequence.{next}
use Rattle.sequences.proofs.Station.{on_station, on_station_hop}
use Rattle.sequences.proofs.Tunings.{is_done}
use Rattle.stations.proofs.Keeps.{Same, hop_same, reload_same, same_then, tune_same}

-- at the first record's IF and reference
at_first : (t u : Tuner) (hz : ℕ) → Same t u → (now : Regs) → Within (hz + u.ifreq) u.corrected now → Within (hz + t.ifreq) t.corrected now
at_first t u hz same now on =
    subst (λ (r : ℕ). Within (hz + t.ifreq) r now) same.corrected (subst (λ (i : ℕ). Within (hz + i) u.corrected now) same.ifreq on)

-- the reload
abbrev pub reloading : List ℕ → List ℕ → Call
reloading os room = call (Tuned Reload) os room

module _ (t : Tuner) (es : List Entry) (s : Sequence t es) (hz : ℕ) where
  module _ (rs os room : List ℕ) (g : given (Tuned (Tune hz rs)) t ≡ true) (os' room' : List ℕ) where
    -- the first tuning, the record after it, and the one after the reload
    abbrev first : Call
    first = call (Tuned (Tune hz rs)) os room

    abbrev u : Tuner
    u = tuner_after first t

    abbrev v : Tuner
    v = tuner_after (reloading os' room') u

    -- the entries up to there
    abbrev so_far : List Entry
    so_far = (es ++ entries first t) ++ entries (reloading os' room') u

    pub again_on_station : (rs'' os'' room'' : List ℕ) → given (Tuned (Tune hz rs'')) v ≡ true
        → is_done (result (call (Tuned (Tune hz rs'')) os'' room'') v).answer ≡ true
        → fine_of (get_or rs'' 4 0) ≡ power_of t.kind
        → (before now : Regs)
        → Played t.chip.address (so_far ++ entries (call (Tuned (Tune hz rs'')) os'' room'') v) before now
        → Within (hz + t.ifreq) t.corrected now
    unfolding every
    again_on_station rs'' os'' room'' h done fine before now played =
        let same : Same t v = same_then t u v (tune_same t os room hz rs) (reload_same u os' room') in
        let before_it : Sequence v so_far =
        next u (es ++ entries first t) (next t es s first g) (reloading os' room') refl in
        let there = subst (λ (a : ℕ). Played a (so_far ++ entries (call (Tuned (Tune hz rs'')) os'' room'') v) before now)
        (sym same.address) played in
        let on = on_station v so_far before_it hz rs'' os'' room'' h done (fine ∙ ap power_of (sym same.kind)) before now there in
        at_first t v hz same now on

  -- the same on a board: of the frequency that its table planned
  module _ (table rs : List ℕ) (d : Driver) (os room : List ℕ) (g : given (BoardTune hz table rs d) t ≡ true) (os' room' : List ℕ) where
    abbrev hop : Call
    hop = call (BoardTune hz table rs d) os room

    abbrev w : Tuner
    w = tuner_after hop t

    abbrev x : Tuner
    x = tuner_after (reloading os' room') w

    abbrev up_to_here : List Entry
    up_to_here = (es ++ entries hop t) ++ entries (reloading os' room') w

    pub again_on_station_hop : (rs'' : List ℕ) (d'' : Driver) (os'' room'' : List ℕ) → given (BoardTune hz table rs'' d'') x ≡ true
        → is_done (result (call (BoardTune hz table rs'' d'') os'' room'') x).answer ≡ true
        → fine_of (get_or (drop (path_replies t.kind (plan_by table hz).plan.path) rs'') 4 0) ≡ power_of t.kind
        → (before now : Regs)
        → Played t.chip.address (up_to_here ++ entries (call (BoardTune hz table rs'' d'') os'' room'') x) before now
        → Within ((plan_by table hz).plan.hz + t.ifreq) t.corrected now
    unfolding every
    again_on_station_hop rs'' d'' os'' room'' h done fine before now played =
        let same : Same t x = same_then t w x (hop_same t os room hz table rs d) (reload_same w os' room') in
        let before_it : Sequence x up_to_here =
        next w (es ++ entries hop t) (next t es s hop g) (reloading os' room') refl in
        let there = subst (λ (a : ℕ). Played a (up_to_here ++ entries (call (BoardTune hz table rs'' d'') os'' room'') x) before now)
        (sym same.address) played in
        let status : fine_of (get_or (drop (path_replies x.kind (plan_by table hz).plan.path) rs'') 4 0) ≡ power_of x.kind =
        subst (λ (k : Kind). fine_of (get_or (drop (path_replies k (plan_by table hz).plan.path) rs'') 4 0) ≡ power_of k) (sym same.kind) fine in
        let on = on_station_hop x up_to_here before_it hz table rs'' d'' os'' room'' h done status before now there in
        at_first t x (plan_by table hz).plan.hz same now on
