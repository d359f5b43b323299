-- `expansion::read_packets` meets its contract: each return is one case of `read_into`.
-- Assumes nothing.
use mathlib.Core.Path.{sym, ◌∙◌}
use native.Mathlib.Omega.{arith}
use Rattle.expansion.proofs.Cases.{no_packets, counts, no_room, read}
use Rattle.expansion.proofs.Hearing.{heard_most}
use Rattle.expansion.proofs.read_packets.Goals as goal

pub returns-in_default : goal.returns-in_default
returns-in_default c =
    let args = c.args in
    no_packets args.packets.now args.out.now (sym c.in_default.is ∙ c.counted.ensures)

pub overflow_mul-size : goal.overflow_mul-size
overflow_mul-size c =
    let args = c.args in
    let packets = args.packets.now in
    let k = counts packets args.out.now _ (sym c.in-Some.is ∙ c.counted.ensures) in
    record { fits = omega (arith, k.1, heard_most 4096 packets) }

pub overflow_add-size : goal.overflow_add-size
overflow_add-size c =
    let args = c.args in
    let packets = args.packets.now in
    let k = counts packets args.out.now _ (sym c.in-Some.is ∙ c.counted.ensures) in
    record { fits = omega (arith, k.1, heard_most 4096 packets) }

pub returns-then-out-size : goal.returns-then-out-size
returns-then-out-size c =
    let args = c.args in
    no_room args.packets.now args.out.now _ (sym c.in-Some.is ∙ c.counted.ensures) (omega arith)

pub write_section-requires : goal.write_section-requires
write_section-requires c =
    let args = c.args in
    let k = counts args.packets.now args.out.now _ (sym c.in-Some.is ∙ c.counted.ensures) in (k.0, omega (arith, k.1))

pub returns : goal.returns
returns c =
    let args = c.args in
    read args.packets.now args.out.now _ (sym c.in-Some.is ∙ c.counted.ensures) _ (omega arith)
    c.write_section.ensures
