-- A rate that is answered done is told by its entries, whatever was sent before: sure, and as #104 has it. Assumes nothing.
use Prim.Native.Nat.{ℕ}
use mathlib.Core.Path.{◌≡◌, sym, ap, subst}
use mathlib.Core.Bool.{Bool, true}
use mathlib.Core.List.{List, ◌++◌}
use Rattle.transcript.specs.declared.Entry.{Entry}
use Rattle.attempts.specs.Namings.{byte_in}
use Rattle.bands.specs.Tables.{plan_by}
use Rattle.chip.specs.declared.Progress.TheVariants.{Going}
use Rattle.chip.specs.Steps.{trace}
use Rattle.driver.specs.declared.Driver.{Driver}
use Rattle.driver.specs.Programs.{if_for}
use Rattle.driver.specs.Record.{xtal_of}
use Rattle.r82xx.specs.declared.Tuner.{Tuner}
use Rattle.sequences.specs.Calls.{call, entries, result}
use Rattle.sequences.specs.Calls.Order.{SampleRate}
use Rattle.sequences.proofs.Tunings.{is_done}
use Rattle.evidence.specs.Evidence.{if_places, lasts, mark_of}
use Rattle.evidence.specs.Demodulator.{last_at}
use Rattle.evidence.proofs.Marks.{sure_exactly}
use Rattle.evidence.proofs.Rates as rates
use Rattle.stations.specs.Rated.{RateTold}
use Rattle.stations.proofs.Centre.{rate_went, steps}

pub rate_told : (t : Tuner) (rate : ℕ) (table : List ℕ) (d : Driver) (os room : List ℕ) → is_done (result (call (SampleRate rate table d) os room) t).answer ≡ true
    → (es : List Entry)
    → RateTold rate (xtal_of d) (plan_by table d.frequency).plan.inverted (es ++ entries (call (SampleRate rate table d) os room) t)
rate_told t rate table d os room h es =
    let w = rate_went t rate table d os room h in
    let log : entries (call (SampleRate rate table d) os room) t ≡ (trace os (steps t rate table d os room) t.chip).log = rw w.0 in
    subst (λ (l : List Entry). RateTold rate (xtal_of d) inverted (es ++ l)) (sym log) (by w.1)
  where
    inverted : Bool
    inverted = (plan_by table d.frequency).plan.inverted

    by : (trace os (steps t rate table d os room) t.chip).progress ≡ Going
        → RateTold rate (xtal_of d) inverted (es ++ (trace os (steps t rate table d os room) t.chip).log)
    by going =
        let hz : ℕ = if_for t.ifreq rate in
        let all : List Entry = es ++ (trace os (steps t rate table d os room) t.chip).log in
        let ddc = rates.ddc_told os hz rate (xtal_of d) inverted t.chip going es in
        record {
          rate_mark_lem = rates.rate_sure os hz rate (xtal_of d) inverted t.chip going es;
          told = rates.rate_told os hz rate (xtal_of d) inverted t.chip going es;
          if_mark_lem = (sure_exactly (lasts (last_at all) if_places)).1 (
            (_, rates.if_high os hz rate (xtal_of d) inverted t.chip going es),
            (
              (_, rates.if_mid os hz rate (xtal_of d) inverted t.chip going es),
              ((_, rates.if_low os hz rate (xtal_of d) inverted t.chip going es), tt),
            ),
          );
          ddc_mark_lem = ap mark_of ddc;
          ddc = ap (byte_in 0) ddc;
        }
