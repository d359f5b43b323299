-- The recording's centre, by both records and a table of bands: where the oscillator stands, less the tuner's IF, with the board's shift taken back.
-- A band's shift is added to the frequency asked before the tuner is tuned, inverted or not, so it is taken off again, inverted or not.
-- Assumes nothing.
use Rattle.std.specs.Prelude.{ℕ, ◌+◌, ◌-◌, ◌^◌, cond, ◌&&◌, List, eqb, leb, ltb}
use Rattle.bands.specs.declared.Planned.{Planned}
use Rattle.bands.specs.Tables.{plan_by}
use Rattle.refusals.specs.declared.Answer.{Answer}
use Rattle.refusals.specs.declared.Answer.TheVariants.{Done, Refused, Stopped}
use Rattle.refusals.specs.Table.{FREQUENCY, TABLE}
use Rattle.driver.specs.declared.Driver.{Driver}
use Rattle.r82xx.specs.declared.Tuner.{Tuner}
use Rattle.station.specs.Station.{oscillator_of}

-- what is left of `have` when `off` is taken away; 2 below 0 and past u64
unfoldable pub less : ℕ → ℕ → Answer
less have off = cond (leb off have && ltb (have - off) (2 ^ 64)) (Done (have - off)) (Refused FREQUENCY)

-- lo - IF - shift, the shift being what the plan's frequency for the tuner is above the driver's own: lo + hz, less IF and the plan's frequency.
-- 2 where the table has no plan for the driver's frequency
unfoldable pub centre_at : ℕ → Planned → ℕ → ℕ → Answer
centre_at lo p ifreq hz = cond (eqb p.refusal 0) (less (lo + hz) (ifreq + p.plan.hz)) (Refused p.refusal)

-- what the oscillator is refused by comes before it
abbrev pub on_done : Answer → (ℕ → Answer) → Answer
on_done (Done lo) next = next lo
on_done (Refused number) next = Refused number
on_done (Stopped index) next = Stopped index

-- 19, then the oscillator's own refusals, of which 20 is one, then 2
unfoldable pub centre_by : Answer → Planned → ℕ → ℕ → Answer
centre_by told p ifreq hz = cond (eqb p.refusal TABLE) (Refused TABLE) (on_done told (λ lo. centre_at lo p ifreq hz))

unfoldable pub centre_of : List ℕ → Driver → Tuner → Answer
centre_of table d t = centre_by (oscillator_of t) (plan_by table d.frequency) t.ifreq d.frequency
