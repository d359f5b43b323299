-- A call that is refused 11 at a write of the oscillator's registers or of the demodulator's says so in its own entries: a rate, a tune, a board-level tune, a
-- reload, any call; and a call of src/demod.rs by itself. Assumes nothing.
use Prim.Native.Nat.{ℕ}
use mathlib.Core.Path.{◌≡◌, refl, sym, ap, subst}
use mathlib.Core.Bool.{Bool, true, false, true≢false}
use mathlib.Core.List.{List, ◌++◌}
use mathlib.Core.Logic.{◌⊎◌}
use lib.Dec.{eqb}
use Rattle.transcript.specs.declared.Entry.{Entry}
use Rattle.bands.specs.Tables.{plan_by}
use Rattle.refusals.specs.declared.Answer.TheVariants.{Done, Refused, Stopped}
use Rattle.chip.specs.declared.Chip.{Chip}
use Rattle.chip.specs.declared.Progress.{Progress}
use Rattle.chip.specs.declared.Progress.TheVariants.{Going, Refused11}
use Rattle.chip.specs.Calls.{call_of}
use Rattle.chip.specs.Courses.{left_by}
use Rattle.chip.specs.Steps.{Step, Trace, every, goes, trace}
use Rattle.driver.specs.declared.Driver.{Driver}
use Rattle.driver.specs.Calls.{rate_result}
use Rattle.driver.specs.Programs.{if_for, sample_rate_steps}
use Rattle.driver.specs.Record.{xtal_of}
use Rattle.history.specs.Histories.{Cut, is_done, stops}
use Rattle.r82xx.specs.declared.Tuner.{Tuner}
use Rattle.sequences.specs.Asides.{Aside, aside_entries, aside_given, aside_result, aside_uncut}
use Rattle.sequences.specs.Calls.{Call, call, entries, given, result, uncut}
use Rattle.sequences.specs.Calls.Order.{SampleRate}
use Rattle.sequences.specs.Sequences.{Sequence}
use Rattle.sequences.proofs.Demand.{aside_cut, cut_uncut}
use Rattle.evidence.specs.Cuts.{CutRate, Marked, tuners}
use Rattle.evidence.proofs.CutRates as rates
use Rattle.evidence.proofs.Cuts.{marked}

-- the failing entry is the cut's `last`, whose index the answer gives
pub cut_marked : (t : Tuner) (es : List Entry) → Sequence t es → (k : Call) → given k.order t ≡ true → (i : ℕ) → (result k t).answer ≡ Stopped i
    → (c : Cut i (entries k t) (entries (uncut i k) t)) × Marked t.chip.address c.last (es ++ entries k t)
cut_marked t es s k g i h =
    let c : Cut i (entries k t) (entries (uncut i k) t) = cut_uncut t es s k g i h in
    (c, marked i (entries k t) (entries (uncut i k) t) c t.chip.address es)

pub cut_aside_marked : (address : ℕ) (es : List Entry) (a : Aside) → aside_given a.other ≡ true → (i : ℕ) → (aside_result a).answer ≡ Stopped i
    → (c : Cut i (aside_entries a) (aside_entries (aside_uncut i a))) × Marked address c.last (es ++ aside_entries a)
cut_aside_marked address es a g i h =
    let c : Cut i (aside_entries a) (aside_entries (aside_uncut i a)) = aside_cut a g i h in
    (c, marked i (aside_entries a) (aside_entries (aside_uncut i a)) c address es)

-- ---- a rate, wherever it was cut

stopped_so : {R : Type 0} (number : ℕ) (os : List ℕ) (ss : List Step) (c : Chip) (keep : Trace → R) (old : R) (room : List ℕ) (i : ℕ)
    → (call_of number (Done 0) os ss c keep old room).answer ≡ Stopped i → (eqb number 0 ≡ true) × (goes (trace os ss c).progress ≡ false)
unfolding call_of
stopped_so number os ss c keep old room i h = go (eqb number 0) refl (trace os ss c).progress refl
  where
    go : (b : Bool) → eqb number 0 ≡ b → (w : Progress) → (trace os ss c).progress ≡ w → (eqb number 0 ≡ true) × (goes (trace os ss c).progress ≡ false)
    go true e (Refused11 k) p = (e, ap goes p)
    go true e Going p =
        let done : Done 0 ≡ Stopped i = rw (e, p) at h in
        absurd (true≢false (ap is_done done))
    go false e w p =
        let refused : Refused number ≡ Stopped i = rw e at h in
        absurd (true≢false (sym (ap stops refused)))

-- in the tuner's part: then it wrote no register of the demodulator. Or it says so
pub cut_rate : (t : Tuner) (rate : ℕ) (table : List ℕ) (d : Driver) (os room : List ℕ) (i : ℕ) → (result (call (SampleRate rate table d) os room) t).answer ≡ Stopped i
    → (es : List Entry)
    → (every tuners (entries (call (SampleRate rate table d) os room) t) ≡ true)
    ⊎ CutRate (if_for t.ifreq rate) (xtal_of d) (es ++ entries (call (SampleRate rate table d) os room) t)
unfolding rate_result left_by
cut_rate t rate table d os room i h es =
    let hz : ℕ = if_for t.ifreq rate in
    let inverted : Bool = (plan_by table d.frequency).plan.inverted in
    let w = stopped_so _ os (sample_rate_steps hz rate (xtal_of d) inverted) t.chip _ _ room i h in
    let log : entries (call (SampleRate rate table d) os room) t ≡ (trace os (sample_rate_steps hz rate (xtal_of d) inverted) t.chip).log = rw w.0 in
    subst (λ (l : List Entry). (every tuners l ≡ true) ⊎ CutRate hz (xtal_of d) (es ++ l)) (sym log) (rates.cut_rate os hz rate (xtal_of d) inverted t.chip es w.1)
