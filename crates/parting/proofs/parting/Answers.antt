-- `parting::parting` meets its contract: what was read of both slices says which case of `parting_of` holds.
-- Assumes nothing.
use mathlib.Core.Path.{sym, ◌∙◌}
use Rattle.transcript.proofs.Reading.{lies}
use Rattle.parting.proofs.Laws.{both_read, no_first, no_second, within_both}
use borrow.Author.Rules.{rules}
use Rattle.parting.proofs.parting.Goals as goal

pub returns-in_default : goal.returns-in_default
returns-in_default c =
    let a = c.args in
    c.refused.ensures ∙ no_first a.first.now a.second.now (sym c.in_default.is ∙ c.read_section.ensures)

pub returns-in_default-read_section : goal.returns-in_default-read_section
returns-in_default-read_section c =
    let a = c.args in
    let one = sym c.in-Some.is ∙ c.read_section.ensures in
    c.refused-in_default-read_section.ensures
    ∙ no_second a.first.now a.second.now _ _ one (sym c.in_default-read_section.is ∙ c.read_section-2.ensures)

pub alike_from-k-requires : goal.alike_from-k-requires
alike_from-k-requires c =
    let a = c.args in
    let one = lies a.first.now _ _ (sym c.in-Some.is ∙ c.read_section.ensures) in
    let two = lies a.second.now _ _ (sym c.in-Some-read_section.is ∙ c.read_section-2.ensures) in
    (one, two)

pub place_by-requires : goal.place_by-requires
place_by-requires c =
    let a = c.args in
    let one = lies a.first.now _ _ (sym c.in-Some.is ∙ c.read_section.ensures) in
    let two = lies a.second.now _ _ (sym c.in-Some-read_section.is ∙ c.read_section-2.ensures) in
    let most = within_both c.alike_from-k.result _ _ _ _ c.alike_from-k.ensures in
    search rules

pub returns : goal.returns
returns c =
    let a = c.args in
    let one = sym c.in-Some.is ∙ c.read_section.ensures in
    let two = sym c.in-Some-read_section.is ∙ c.read_section-2.ensures in
    c.place_by.ensures ∙ both_read a.first.now a.second.now _ _ _ _ _ one two c.alike_from-k.ensures
