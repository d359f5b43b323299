-- What the rows of specs/Orders.antt are made of. Document 01, "Refusal numbers", "PLL".
-- Assumes nothing.
use Rattle.std.specs.Prelude.{ℕ, ◌+◌, ◌^◌, ◌||◌, cond, eqb, leb, Option}
use Rattle.refusals.specs.Table.{FREQUENCY}
use Rattle.chip.specs.Calls.{refusal_with}
use Rattle.pll.specs.declared.Plan.{Plan}
use Rattle.pll.specs.Plan.{plan_of}
use Rattle.r82xx.specs.declared.Tuner.{Tuner}
use Rattle.r82xx.specs.Record.{sound}

-- the number that refuses a call before any step, of the tuner's record
abbrev pub refusal_of : Tuner → ℕ → ℕ → ℕ → ℕ → ℕ → ℕ → ℕ
refusal_of t = refusal_with (sound t)

-- "2 frequency | hz 0; hz + IF over u64"
abbrev pub hz_refusal : ℕ → ℕ → ℕ
hz_refusal hz ifreq = cond (eqb hz 0 || leb (2 ^ 64) (hz + ifreq)) FREQUENCY 0

abbrev pub plan_for : Tuner → ℕ → Option Plan
plan_for t hz = plan_of t.kind (hz + t.ifreq) t.corrected
