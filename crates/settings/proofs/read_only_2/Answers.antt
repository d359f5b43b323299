-- `settings::read_only_2` meets its contract: it ends by the trailer's refusal, by a field's, or with the record. Assumes nothing.
use mathlib.Core.Path.{sym, ◌∙◌}
use native.Mathlib.Omega.{arith}
use Rattle.settings.proofs.Laws.{sealed}
use Rattle.settings.proofs.Editions.{by_field2, by_refusal2, if_there, taken2, there2}
use Rattle.settings.proofs.read_only_2.Goals as goal

pub returns-then-refusal-ne0 : goal.returns-then-refusal-ne0
returns-then-refusal-ne0 c =
    let trailer-refusal = c.trailer_refusal-refusal in
    c.refuse_2.ensures ∙ by_refusal2 c.args.s.now trailer-refusal.result trailer-refusal.ensures c.if-refusal-ne0.true

pub overflow_sub-at : goal.overflow_sub-at
overflow_sub-at c =
    let h = sealed 2 23 c.args.s.now (sym c.trailer_refusal-refusal.ensures ∙ c.if-refusal-ne0.false) in
    omega (arith, h.long, h.room)

pub fields_at-settings-requires : goal.fields_at-settings-requires
fields_at-settings-requires c =
    let h = sealed 2 23 c.args.s.now (sym c.trailer_refusal-refusal.ensures ∙ c.if-refusal-ne0.false) in
    omega (arith, h.long, h.room)

pub returns-then-field-ne0 : goal.returns-then-field-ne0
returns-then-field-ne0 c =
    let refusal = c.refusal-field in
    let fields_at = c.fields_at-settings in
    let s = c.args.s.now in
    let r = c.trailer_refusal-refusal in
    let v = there2 s fields_at.result fields_at.ensures in
    c.refuse_2-then-field-ne0.ensures
    ∙ by_field2 s r.result r.ensures fields_at.result refusal.result c.if-refusal-ne0.false v refusal.ensures c.if-field-ne0.true

pub four-requires : goal.four-requires
four-requires c =
    let h = sealed 2 23 c.args.s.now (sym c.trailer_refusal-refusal.ensures ∙ c.if-refusal-ne0.false) in
    omega (arith, h.long, h.room)

pub returns : goal.returns
returns c =
    let refusal = c.refusal-field in
    let fields_at = c.fields_at-settings in
    let if1 = c.if-refusal-ne0 in
    let s = c.args.s.now in
    let r = c.trailer_refusal-refusal in
    let h = sealed 2 23 s (sym r.ensures ∙ if1.false) in
    let v = there2 s fields_at.result fields_at.ensures in
    taken2 s r.result r.ensures fields_at.result refusal.result if1.false v refusal.ensures c.four.result
    (if_there s c.four.result (omega (arith, h.long, h.room)) c.four.ensures) c.if-field-ne0.false
