-- `transcript::section_before` meets its contract: the part lies in the slice, by what the reader found.
-- Assumes nothing.
use mathlib.Core.Path.{sym, ◌∙◌}
use native.Mathlib.Omega.{arith}
use Rattle.transcript.proofs.Reading.{lies, before_part, none_before}
use Rattle.transcript.proofs.section_before.Goals as goal

pub slice_bounds-result-end : goal.slice_bounds-result-end
slice_bounds-result-end c =
    let f = lies c.args.s.now _ _ (sym c.in-Some.is ∙ c.read_section.ensures) in
    omega arith

pub returns-in-Some : goal.returns-in-Some
returns-in-Some c =
    before_part c.args.s.now _ _ (sym c.in-Some.is ∙ c.read_section.ensures)

pub returns-in-None : goal.returns-in-None
returns-in-None c =
    none_before c.args.s.now (sym c.in-None.is ∙ c.read_section.ensures)
