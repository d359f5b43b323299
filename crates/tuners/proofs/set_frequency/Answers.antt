-- `tuners::set_frequency` meets its contract: refused before its steps, or made and handed back, with what it tells of the lock.
-- Assumes nothing.
use Rattle.std.proofs.Common.{true, sym, ◌∙◌, arith}
use Rattle.records.specs.Tuners.{tuner_read}
use Rattle.r82xx.specs.Orders.{course_of, result_of, lock_tries_of}
use Rattle.r82xx.specs.Orders.Order.{Tune}
use Rattle.tuners.proofs.Passed.{fits, handed_tried, no_record_tuned, refused_untried}
use Rattle.tuners.proofs.set_frequency.Goals as goal

pub returns-in_default : goal.returns-in_default
returns-in_default c =
    let a = c.args in
    no_record_tuned (course_of (Tune a.hz a.replies.now)) a.outcomes.now a.tuner.now a.room.now a.next.now c.in_default.ensures _ _ c.refuse.ensures
    c.tuned.ensures

pub returns-then-number-ne0 : goal.returns-then-number-ne0
unfolding result_of
returns-then-number-ne0 c =
    let hz-refusal = c.hz_refusal in
    let a = c.args in
    refused_untried (course_of (Tune a.hz a.replies.now)) a.outcomes.now a.tuner.now a.room.now a.next.now (tuner_read true c.in-Some.given) hz-refusal.result _
    c.in-Some.ensures hz-refusal.ensures c.ready-number.ensures _ _ (λ z. omega arith) c.refuse-then-number-ne0.ensures
    c.tuned-then-number-ne0.ensures

pub hand-plain-requires : goal.hand-plain-requires
hand-plain-requires c = fits _ _ _ _ (sym c.ready-number.ensures ∙ omega arith)

pub returns : goal.returns
unfolding result_of lock_tries_of
returns c =
    let hz-refusal = c.hz_refusal in
    let a = c.args in
    handed_tried (course_of (Tune a.hz a.replies.now)) a.outcomes.now a.tuner.now a.room.now a.next.now (tuner_read true c.in-Some.given) hz-refusal.result _
    c.in-Some.ensures hz-refusal.ensures c.ready-number.ensures (omega arith) _ _ _ _ _ c.set_frequency-tuned.ensures
    _ _ c.hand-plain.ensures _ c.tuned-2.ensures
