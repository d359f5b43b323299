-- `settings::read_1` meets its contract: it ends by the trailer's refusal, by a field's, or with the record.
-- Assumes nothing.
use mathlib.Core.Path.{sym, ◌∙◌}
use native.Mathlib.Omega.{arith}
use Rattle.settings.proofs.Laws.{by_field, by_refusal, sealed, taken, there}
use Rattle.settings.proofs.read_1.Goals as goal

pub returns-then-refusal-ne0 : goal.returns-then-refusal-ne0
returns-then-refusal-ne0 c =
    let trailer-refusal = c.trailer_refusal-refusal in
    c.refuse.ensures ∙ by_refusal c.args.s.now trailer-refusal.result trailer-refusal.ensures c.if-refusal-ne0.true

pub overflow_sub-s : goal.overflow_sub-s
overflow_sub-s c =
    let h = sealed 1 19 c.args.s.now (sym c.trailer_refusal-refusal.ensures ∙ c.if-refusal-ne0.false) in
    omega (arith, h.long, h.room)

pub fields_at-settings-requires : goal.fields_at-settings-requires
fields_at-settings-requires c =
    let h = sealed 1 19 c.args.s.now (sym c.trailer_refusal-refusal.ensures ∙ c.if-refusal-ne0.false) in
    omega (arith, h.long, h.room)

pub returns-then-field-ne0 : goal.returns-then-field-ne0
returns-then-field-ne0 c =
    let refusal = c.refusal-field in
    let fields_at = c.fields_at-settings in
    let if1 = c.if-refusal-ne0 in
    let s = c.args.s.now in
    let r = c.trailer_refusal-refusal in
    let h = sealed 1 19 s (sym r.ensures ∙ if1.false) in
    let v = there s fields_at.result (omega (arith, h.long, h.room)) fields_at.ensures in
    c.refuse-then-field-ne0.ensures ∙ by_field s r.result r.ensures fields_at.result refusal.result if1.false v refusal.ensures c.if-field-ne0.true

pub returns : goal.returns
returns c =
    let refusal = c.refusal-field in
    let fields_at = c.fields_at-settings in
    let if1 = c.if-refusal-ne0 in
    let s = c.args.s.now in
    let r = c.trailer_refusal-refusal in
    let h = sealed 1 19 s (sym r.ensures ∙ if1.false) in
    let v = there s fields_at.result (omega (arith, h.long, h.room)) fields_at.ensures in
    taken s r.result r.ensures fields_at.result refusal.result if1.false v refusal.ensures c.if-field-ne0.false
