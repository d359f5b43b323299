-- `transcript::section_entries` meets its contract: the part lies in the slice, by what the reader found.
-- Assumes nothing.
use mathlib.Core.Path.{sym, ◌∙◌}
use native.Mathlib.Omega.{arith}
use Rattle.transcript.proofs.Reading.{lies, entries_part, no_entries}
use Rattle.transcript.proofs.section_entries.Goals as goal

pub overflow_mul-result : goal.overflow_mul-result
overflow_mul-result c =
    let f = lies c.args.s.now _ _ (sym c.in-Some.is ∙ c.read_section.ensures) in
    record { fits = omega arith }

pub overflow_add-result : goal.overflow_add-result
overflow_add-result c =
    let f = lies c.args.s.now _ _ (sym c.in-Some.is ∙ c.read_section.ensures) in
    record { fits = omega arith }

pub slice_bounds-result-end : goal.slice_bounds-result-end
slice_bounds-result-end c =
    let f = lies c.args.s.now _ _ (sym c.in-Some.is ∙ c.read_section.ensures) in
    omega arith

pub returns-in-Some : goal.returns-in-Some
returns-in-Some c =
    entries_part c.args.s.now _ _ (sym c.in-Some.is ∙ c.read_section.ensures)

pub returns-in-None : goal.returns-in-None
returns-in-None c =
    no_entries c.args.s.now (sym c.in-None.is ∙ c.read_section.ensures)
