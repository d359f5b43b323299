-- `expansion::expand` meets its contract: each return is one case of `expand_into`.
-- Assumes nothing.
use mathlib.Core.Path.{sym, ◌∙◌}
use native.Mathlib.Omega.{arith}
use Rattle.expansion.proofs.Cases.{no_section, ready, cannot, sized, too_short, written}
use Rattle.expansion.proofs.expand.Goals as goal

pub returns-in_default : goal.returns-in_default
returns-in_default c =
    let args = c.args in
    no_section args.section.now args.out.now (sym c.in_default.is ∙ c.read_section.ensures)

pub measured-requires : goal.measured-requires
measured-requires c =
    let args = c.args in
    ready args.section.now args.out.now _ _ (sym c.in-Some.is ∙ c.read_section.ensures)

pub returns-in_default-measured : goal.returns-in_default-measured
returns-in_default-measured c =
    let args = c.args in
    cannot args.section.now args.out.now _ _ (sym c.in-Some.is ∙ c.read_section.ensures)
    (sym c.in_default-measured.is ∙ c.measured.ensures)

pub returns-then-out-size : goal.returns-then-out-size
returns-then-out-size c =
    let args = c.args in
    too_short args.section.now args.out.now _ _ (sym c.in-Some.is ∙ c.read_section.ensures) _
    (sym c.in-Some-measured.is ∙ c.measured.ensures) (omega arith)

pub write_packets-requires : goal.write_packets-requires
write_packets-requires c =
    let read-section = c.read_section in
    let args = c.args in
    let section = args.section.now in
    let out = args.out.now in
    let r = ready section out _ _ (sym c.in-Some.is ∙ read-section.ensures) in
    let k =
    sized section out _ _ (sym c.in-Some.is ∙ read-section.ensures) _ (sym c.in-Some-measured.is ∙ c.measured.ensures) in
    (r.0, r.1, r.2, omega (arith, k.1))

pub returns : goal.returns
returns c =
    let args = c.args in
    written args.section.now args.out.now _ _ (sym c.in-Some.is ∙ c.read_section.ensures) _
    (sym c.in-Some-measured.is ∙ c.measured.ensures) _ (omega arith) c.write_packets.ensures
