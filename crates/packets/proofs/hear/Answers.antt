-- `packets::hear` meets its contract: each return is one case of `heard_in`.
-- Assumes nothing.
use mathlib.Core.Path.{ap, ◌∙◌}
use Rattle.std.specs.Prelude.{Some}
use Rattle.packets.specs.declared.Heard.{Heard}
use native.Mathlib.Omega.{arith}
use lib.ListN.{drop, length-drop}
use Rattle.packets.proofs.Reading.{heard_short, heard_other, heard_cut, heard_told, few}
use Rattle.packets.proofs.hear.Goals as goal

pub returns-then-left-lt8 : goal.returns-then-left-lt8
returns-then-left-lt8 c =
    let args = c.args in
    heard_short (drop args.at args.s.now) (omega (arith, length-drop args.at args.s.now))

pub returns-then-not-in_table-setup_of : goal.returns-then-not-in_table-setup_of
returns-then-not-in_table-setup_of c =
    let setup-of = c.setup_of in
    let in_table = c.in_table in
    let sent-by = c.sent_by-sent in
    let named = c.named-e in
    let eight = c.eight-w in
    let args = c.args in
    heard_other (drop args.at args.s.now) eight.result named.result eight.ensures named.ensures sent-by.result sent-by.ensures.0
    in_table.result setup-of.result in_table.ensures setup-of.ensures (c.if-not-in_table-setup_of.true)

pub returns-then-left-sent : goal.returns-then-left-sent
returns-then-left-sent c =
    let sent-by = c.sent_by-sent in
    let named = c.named-e in
    let eight = c.eight-w in
    let args = c.args in
    heard_cut (drop args.at args.s.now) eight.result named.result eight.ensures named.ensures sent-by.result sent-by.ensures.0
    (omega (arith, length-drop args.at args.s.now))

pub with_data-requires : goal.with_data-requires
with_data-requires c =
    let in_table = c.in_table in
    let sent-by = c.sent_by-sent in
    let named = c.named-e in
    let eight = c.eight-w in
    let args = c.args in (
      few (drop args.at args.s.now) eight.result named.result eight.ensures named.ensures sent-by.result sent-by.ensures.0
          in_table.result c.setup_of.result in_table.ensures (c.if-not-in_table-setup_of.false),
      omega arith,
    )

pub returns : goal.returns
returns c =
    let setup-of = c.setup_of in
    let in_table = c.in_table in
    let sent-by = c.sent_by-sent in
    let named = c.named-e in
    let eight = c.eight-w in
    let args = c.args in
    ap (λ (h : Heard). Some h) c.with_data.ensures
    ∙ heard_told (drop args.at args.s.now) eight.result named.result eight.ensures named.ensures sent-by.result sent-by.ensures.0
    in_table.result setup-of.result in_table.ensures setup-of.ensures (c.if-not-in_table-setup_of.false)
    (omega (arith, length-drop args.at args.s.now)) (omega (arith, length-drop args.at args.s.now))
