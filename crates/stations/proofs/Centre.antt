-- A rate answered done, then a tune answered done whose divider was not repaired, with nothing between that moved the IF: on every chip and every
-- demodulator the centre of what is recorded is the frequency asked, within 25 kHz / m and a step of the 22 bits. Read off registers that the entries were
-- played on. Assumes nothing.
use Prim.Native.Nat.{ℕ, ◌+◌, ◌/◌, ◌%◌, ◌^◌, ◌<◌}
use mathlib.Core.Path.{◌≡◌, refl, sym, ap, subst, ◌∙◌}
use mathlib.Core.Bool.{Bool, true, false, false≢true}
use mathlib.Core.List.{List, ◌++◌, append_assoc, append-nil}
use native.Mathlib.Omega.{arith}
use lib.Dec.{eqb}
use lib.ListN.{drop, get_or}
use Rattle.transcript.specs.declared.Entry.{Entry}
use Rattle.attempts.specs.Attempts as chip
use Rattle.attempts.specs.Attempts.{Regs}
use Rattle.attempts.specs.Namings.{Last, Played, last_from}
use Rattle.attempts.specs.Namings.Last.{Never, Tried}
use Rattle.attempts.proofs.Lasts.{last_append}
use Rattle.attempts.proofs.Played.{last_done}
use Rattle.bands.specs.Tables.{plan_by}
use Rattle.boards.specs.Hops.{path_replies}
use Rattle.refusals.specs.declared.Answer.TheVariants.{Done}
use Rattle.chip.specs.declared.Progress.TheVariants.{Going}
use Rattle.chip.specs.Calls.{Called}
use Rattle.chip.specs.Courses.{left_by}
use Rattle.chip.specs.Steps.{Step, every, trace}
use Rattle.driver.specs.declared.Driver.{Driver}
use Rattle.driver.specs.Calls.{Both, rate_result}
use Rattle.driver.specs.Programs.{if_for, sample_rate_steps}
use Rattle.driver.specs.Record.{xtal_of}
use Rattle.history.proofs.Calls.{call_performed}
use Rattle.oscillator.specs.Registers.{Bytes, Within}
use Rattle.registers.specs.Rates.{if_ratio_of, if_value_of, negated_of}
use Rattle.r82xx.specs.declared.Tuner.{Tuner}
use Rattle.r82xx.specs.Orders.Order.{Tune}
use Rattle.station.proofs.Told.{neither}
use Rattle.tuning.specs.Tries.{fine_of, power_of}
use Rattle.sequences.specs.Calls.{Call, asked, call, entries, given, result, tuner_after}
use Rattle.sequences.specs.Calls.Order.{BoardTune, SampleRate, Tuned}
use Rattle.sequences.specs.Asides.{aside_entries}
use Rattle.sequences.specs.Sequences.{Sequence}
use Rattle.sequences.specs.Sequences.Sequence.{next, between as aside}
use Rattle.sequences.specs.Since.{rates, sets_if}
use Rattle.sequences.proofs.Since.{if_kept}
use Rattle.sequences.proofs.Station.{on_station, on_station_hop}
use Rattle.sequences.proofs.Tunings.{is_done, went}
use Rattle.evidence.specs.Demodulator.{Place, demodulator, last_at, place}
use Rattle.evidence.specs.Evidence.{if_mark, if_places, if_word, lasts}
use Rattle.evidence.proofs.Marks.{sure_exactly}
use Rattle.evidence.proofs.Quiet.{Silent, silent_append, silent_none}
use Rattle.evidence.proofs.Rates.{if_high, if_low, if_mid}
use Rattle.stations.specs.Between.{Between, moves_if}
use Rattle.stations.specs.Between.Between.{start, later, beside}
use Rattle.stations.specs.Centre.{Centred}
use Rattle.stations.proofs.Stills.{silent_aside, silent_call}
use Rattle.stations.proofs.Steps.{centred, step_few, step_high, step_low}
use Rattle.stations.proofs.Words.{stands_for}

-- ---- calls that move no IF

between_silent : (t u : Tuner) (fs : List Entry) → Between t u fs → Silent fs
between_silent t u fs start = silent_none
between_silent t u fs (later v gs b k h g) = silent_append gs (entries k v) (between_silent t v gs b) (silent_call k v h)
between_silent t u fs (beside v gs b a h g) = silent_append gs (aside_entries a) (between_silent t v gs b) (silent_aside a h)

between_if : (t u : Tuner) (fs : List Entry) → Between t u fs → u.ifreq ≡ t.ifreq
between_if t u fs start = refl
between_if t u fs (later v gs b k h g) =
    if_kept t.ifreq v (between_if t v gs b) k (neither (sets_if k.order) (rates k.order) h).0
    (λ rate r. absurd (false≢true (sym (neither (sets_if k.order) (rates k.order) h).1 ∙ r)))
between_if t u fs (beside v gs b a h g) = between_if t v gs b

between_sequence : (t u : Tuner) (fs : List Entry) → Between t u fs → (es : List Entry) → Sequence t es → Sequence u (es ++ fs)
between_sequence t u fs start es s = subst (Sequence t) (sym (append-nil es)) s
between_sequence t u fs (later v gs b k h g) es s =
    subst (Sequence (tuner_after k v)) (append_assoc es gs (entries k v)) (next v (es ++ gs) (between_sequence t v gs b es s) k g)
between_sequence t u fs (beside v gs b a h g) es s =
    subst (Sequence v) (append_assoc es gs (aside_entries a)) (aside v (es ++ gs) (between_sequence t v gs b es s) a g)

module _ (t : Tuner) (rate : ℕ) (table : List ℕ) (d : Driver) (os room : List ℕ) where
  abbrev rated : Call
  rated = call (SampleRate rate table d) os room

  abbrev offset : ℕ
  offset = if_for t.ifreq rate

  abbrev pub steps : List Step
  steps = sample_rate_steps offset rate (xtal_of d) (plan_by table d.frequency).plan.inverted

  pub rate_went : is_done (result rated t).answer ≡ true → (eqb (asked rated t).number 0 ≡ true) × ((trace os steps t.chip).progress ≡ Going)
  unfolding rate_result left_by
  rate_went h =
      let w = (went (asked rated t).number (Done 0) os steps t.chip _ _ room h).1 in
      (w.taken_up, w.going)

  -- after it and entries that are silent of it, with any entries before: the IF's registers are told as it sent them
  module _ (h : is_done (result rated t).answer ≡ true) (es fs : List Entry) (silent : Silent fs) where
    abbrev all : List Entry
    all = (es ++ entries rated t) ++ fs

    told : (r byte : ℕ) → ((l : Last) → last_from demodulator l fs (place 1 r) ≡ l) → last_at (es ++ (trace os steps t.chip).log) r ≡ Tried byte true
        → last_at all r ≡ Tried byte true
    told r byte kept e =
        let log : entries rated t ≡ (trace os steps t.chip).log = rw (rate_went h).0 in
        last_append demodulator Never (es ++ entries rated t) fs (place 1 r)
        ∙ kept (last_at (es ++ entries rated t) r)
        ∙ ap (λ (m : List Entry). last_at (es ++ m) r) log
        ∙ e

    abbrev inverted : Bool
    inverted = (plan_by table d.frequency).plan.inverted

    abbrev value : ℕ
    value = if_value_of offset (xtal_of d)

    high : last_at all 0x19 ≡ Tried (value / 2 ^ 16 % 2 ^ 8) true
    high = told 0x19 (value / 2 ^ 16 % 2 ^ 8) silent.high (if_high os offset rate (xtal_of d) inverted t.chip (rate_went h).1 es)

    mid : last_at all 0x1a ≡ Tried (value / 2 ^ 8 % 2 ^ 8 % 2 ^ 8) true
    mid = told 0x1a (value / 2 ^ 8 % 2 ^ 8 % 2 ^ 8) silent.mid (if_mid os offset rate (xtal_of d) inverted t.chip (rate_went h).1 es)

    low : last_at all 0x1b ≡ Tried (value % 2 ^ 8 % 2 ^ 8) true
    low = told 0x1b (value % 2 ^ 8 % 2 ^ 8) silent.low (if_low os offset rate (xtal_of d) inverted t.chip (rate_went h).1 es)

    -- so its mark is sure
    pub if_sure_lem : if_mark all ≡ 2
    if_sure_lem =
        (sure_exactly (lasts (last_at all) if_places)).1
        ((value / 2 ^ 16 % 2 ^ 8, high), ((value / 2 ^ 8 % 2 ^ 8 % 2 ^ 8, mid), ((value % 2 ^ 8 % 2 ^ 8, low), tt)))

    -- and every demodulator stands at the rate's IF
    pub if_stands : offset < xtal_of d → (before now : Place → ℕ) → Played demodulator all before now
        → negated_of (if_word (λ r. now (place 1 r))) ≡ if_ratio_of offset (xtal_of d)
    if_stands small before now played =
        stands_for offset (xtal_of d) (now (place 1 0x19)) (now (place 1 0x1a)) (now (place 1 0x1b)) (step_few offset (xtal_of d) small)
        (last_done demodulator all before now played (place 1 0x19) (value / 2 ^ 16 % 2 ^ 8) high)
        (last_done demodulator all before now played (place 1 0x1a) (value / 2 ^ 8 % 2 ^ 8 % 2 ^ 8) mid)
        (last_done demodulator all before now played (place 1 0x1b) (value % 2 ^ 8 % 2 ^ 8) low)

  -- the tuner's record after it has the same IF
  rate_if : is_done (result rated t).answer ≡ true → (tuner_after rated t).ifreq ≡ offset
  unfolding rate_result left_by
  rate_if h =
      ap (λ (x : Called Both). x.next.tuner.ifreq) (call_performed (asked rated t).number (Done 0) os steps t.chip _ _ room (rate_went h).0)

  module _ (es : List Entry) (s : Sequence t es) (h : is_done (result rated t).answer ≡ true) (small : offset < xtal_of d) (u : Tuner) (gs : List Entry)
      (between : Between (tuner_after rated t) u gs) where
    -- all entries before the tune, and the record that it is given
    abbrev pub so_far : List Entry
    so_far = (es ++ entries rated t) ++ gs

    pub whole : Sequence u so_far
    unfolding every
    whole = between_sequence (tuner_after rated t) u gs between (es ++ entries rated t) (next t es s rated refl)

    -- what came since the rate, with one call more that moves no IF, says nothing of it
    abbrev since : Call → List Entry
    since k = gs ++ entries k u

    since_silent : (k : Call) → moves_if k.order ≡ false → Silent (since k)
    since_silent k still = silent_append gs (entries k u) (between_silent (tuner_after rated t) u gs between) (silent_call k u still)

    join : (k : Call) → so_far ++ entries k u ≡ (es ++ entries rated t) ++ since k
    join k = append_assoc (es ++ entries rated t) gs (entries k u)

    -- so the IF's mark is sure at its end
    pub if_sure_by : (k : Call) → moves_if k.order ≡ false → if_mark (so_far ++ entries k u) ≡ 2
    if_sure_by k still = ap if_mark (join k) ∙ if_sure_lem h es (since k) (since_silent k still)

    -- a call that moves no IF and leaves the oscillator at f + IF
    pub centre_by_lem : (k : Call) → moves_if k.order ≡ false → (f : ℕ) (reg : Bytes) → Within (f + u.ifreq) u.corrected reg
        → (was is : Place → ℕ) → Played demodulator (so_far ++ entries k u) was is
        → Centred f u.corrected (xtal_of d) (negated_of (if_word (λ r. is (place 1 r)))) reg
    centre_by_lem k still f reg near was is demod =
        let v : negated_of (if_word (λ r. is (place 1 r))) ≡ if_ratio_of offset (xtal_of d) =
        if_stands h es (since k) (since_silent k still) small was is (subst (λ (l : List Entry). Played demodulator l was is) (join k) demod) in
        let same : u.ifreq ≡ offset = between_if (tuner_after rated t) u gs between ∙ rate_if h in
        subst (λ (x : ℕ). Centred f u.corrected (xtal_of d) x reg) (sym v)
        (centred f offset u.corrected (xtal_of d) (if_ratio_of offset (xtal_of d)) reg (subst (λ (i : ℕ). Within (f + i) u.corrected reg) same near)
        (step_low offset (xtal_of d)) (step_high offset (xtal_of d) (omega arith)))

    -- "A recording filed under the wrong transmitter": after any sequence of calls a rate answered done, calls that move no IF, a tune answered done
    -- without a repair
    pub on_centre : (hz : ℕ) (rs os' room' : List ℕ) → given (Tuned (Tune hz rs)) u ≡ true
        → is_done (result (call (Tuned (Tune hz rs)) os' room') u).answer ≡ true
        → fine_of (get_or rs 4 0) ≡ power_of u.kind
        → (before now : Regs) → chip.Played u.chip.address (so_far ++ entries (call (Tuned (Tune hz rs)) os' room') u) before now
        → (was is : Place → ℕ) → Played demodulator (so_far ++ entries (call (Tuned (Tune hz rs)) os' room') u) was is
        → Centred hz u.corrected (xtal_of d) (negated_of (if_word (λ r. is (place 1 r)))) now
    on_centre hz rs os' room' g done fine before now played =
        centre_by_lem (call (Tuned (Tune hz rs)) os' room') refl hz now
        (on_station u so_far whole hz rs os' room' g done fine before now played)

    -- and a board-level tune: its tuner's frequency is the plan's
    pub on_centre_board : (hz : ℕ) (lines rs : List ℕ) (e : Driver) (os' room' : List ℕ) → given (BoardTune hz lines rs e) u ≡ true
        → is_done (result (call (BoardTune hz lines rs e) os' room') u).answer ≡ true
        → fine_of (get_or (drop (path_replies u.kind (plan_by lines hz).plan.path) rs) 4 0) ≡ power_of u.kind
        → (before now : Regs) → chip.Played u.chip.address (so_far ++ entries (call (BoardTune hz lines rs e) os' room') u) before now
        → (was is : Place → ℕ) → Played demodulator (so_far ++ entries (call (BoardTune hz lines rs e) os' room') u) was is
        → Centred (plan_by lines hz).plan.hz u.corrected (xtal_of d) (negated_of (if_word (λ r. is (place 1 r)))) now
    on_centre_board hz lines rs e os' room' g done fine before now played =
        centre_by_lem (call (BoardTune hz lines rs e) os' room') refl (plan_by lines hz).plan.hz now
        (on_station_hop u so_far whole hz lines rs e os' room' g done fine before now played)
