-- `drivers::set_sample_rate` meets its contract: refused before its steps, or made and handed back.
-- Assumes nothing.
use Rattle.std.proofs.Common.{true, sym, ap, ◌∙◌, arith}
use Rattle.bands.specs.declared.Planned.{Planned}
use Rattle.bands.specs.Tables.{plan_by}
use Rattle.chip.specs.Courses.{argument_of}
use Rattle.driver.specs.Calls.{rate_argument, rate_result, rate_row}
use Rattle.records.specs.Drivers.{driver_read}
use Rattle.records.specs.Tuners.{tuner_read}
use Rattle.drivers.proofs.Passed.{fits, handed_back, no_both, refused_by_lem}
use Rattle.drivers.proofs.set_sample_rate.Goals as goal

pub returns-in_default : goal.returns-in_default
returns-in_default c =
    let a = c.args in
    let table = a.table.now in
    no_both (λ u v. argument_of (rate_row a.rate (plan_by table v.frequency) u v))
    (λ u v. rate_result a.rate (plan_by table v.frequency) a.outcomes.now u v a.room.now) a.driver.now a.tuner.now a.room.now
    a.left.now a.next.now c.in_default.ensures _ c.refuse.ensures

pub returns-then-number-ne0 : goal.returns-then-number-ne0
returns-then-number-ne0 c =
    let both = c.in-Some in
    let a = c.args in
    let table = a.table.now in
    refused_by_lem (λ u v. argument_of (rate_row a.rate (plan_by table v.frequency) u v))
    (λ u v. rate_result a.rate (plan_by table v.frequency) a.outcomes.now u v a.room.now) a.driver.now a.tuner.now a.room.now
    a.left.now a.next.now (driver_read true both.given) (tuner_read true both.t) _ _ both.ensures.0 both.ensures.1
    (c.rate_refusal-argument.ensures ∙ ap (λ (p : Planned). rate_argument a.rate p both.given) c.plan_by_table-planned.ensures)
    c.ready-number.ensures _ (λ z. omega arith) c.refuse-then-number-ne0.ensures

pub hand-requires : goal.hand-requires
hand-requires c = fits _ _ _ _ (sym c.ready-number.ensures ∙ omega arith)

pub returns : goal.returns
returns c =
    let both = c.in-Some in
    let planned = c.plan_by_table-planned in
    let a = c.args in
    let outcomes = a.outcomes.now in
    let table = a.table.now in
    handed_back (λ u v. argument_of (rate_row a.rate (plan_by table v.frequency) u v))
    (λ u v. rate_result a.rate (plan_by table v.frequency) outcomes u v a.room.now) a.driver.now a.tuner.now a.room.now a.left.now
    a.next.now (driver_read true both.given) (tuner_read true both.t) _ _ both.ensures.0 both.ensures.1
    (c.rate_refusal-argument.ensures ∙ ap (λ (p : Planned). rate_argument a.rate p both.given) planned.ensures) c.ready-number.ensures
    (omega (arith, c.if-number-ne0.false)) _ _ _ _ _
    (c.rate_planned-rated.ensures ∙ ap (λ (p : Planned). rate_result a.rate p outcomes both.t both.given a.room.now) planned.ensures) _ _ _
    c.hand.ensures
