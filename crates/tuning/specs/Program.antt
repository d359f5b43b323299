-- The program of a tuning. Document 01, "Refusal numbers": "A PLL refusal comes after the mux: all done, it leaves 13 entries (open, 11 writes,
-- close) and the mux's shadow."
-- Assumes nothing.
use Rattle.std.specs.Prelude.{ℕ, Bool, List, ◌++◌, get_or, Option, Some, None}
use Rattle.refusals.specs.declared.Answer.{Answer}
use Rattle.refusals.specs.declared.Answer.TheVariants as answer
use Rattle.refusals.specs.Table.{FREQUENCY}
use Rattle.chip.specs.Steps.{Step, while_open, updates}
use Rattle.pll.specs.declared.Kind.{Kind}
use Rattle.pll.specs.declared.Plan.{Plan}
use Rattle.tuning.specs.Mux.{mux_updates, pll_updates, range_of}
use Rattle.tuning.specs.Tries.{repair_updates, status_steps, tries_from}

-- a tuning's answer where no step failed: the hz asked, or 2 in the PLL
abbrev pub tune_answer : Option Plan → ℕ → Answer
tune_answer None hz = answer.Refused FREQUENCY
tune_answer (Some p) hz = answer.Done hz

-- the divider's number of a plan; at most 5, as pll shows
abbrev pub divider_number : Option Plan → ℕ
divider_number None = 0
divider_number (Some p) = p.number

-- what follows the sixteen registers
abbrev pub pll_steps : ℕ → Kind → ℕ → List ℕ → List Step
pll_steps address kind number rs = status_steps address rs ++ (updates (repair_updates kind number (get_or rs 4 0)) ++ tries_from address rs 10 0)

-- the steps between opening and closing, for a plan of the PLL
unfoldable pub inner_steps : ℕ → Kind → Bool → Option Plan → ℕ → List ℕ → List Step
inner_steps address kind notch None hz rs = updates (mux_updates notch (range_of hz))
inner_steps address kind notch (Some p) hz rs =
    updates (mux_updates notch (range_of hz) ++ pll_updates p) ++ pll_steps address kind p.number rs

abbrev pub tune_steps : ℕ → Kind → Bool → Option Plan → ℕ → List ℕ → List Step
tune_steps address kind notch plan hz rs = while_open (inner_steps address kind notch plan hz rs)
