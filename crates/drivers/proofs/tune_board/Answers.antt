-- `drivers::tune_board` meets its contract: refused before its steps, or made and handed back, with what it tells of the lock. Assumes nothing.
use Rattle.std.proofs.Common.{true, sym, ap, ◌∙◌, arith}
use Rattle.bands.specs.declared.Planned.{Planned}
use Rattle.bands.specs.Tables.{plan_by}
use Rattle.boards.specs.Hops.{hop_refusal, hop_result, hop_lock_tries}
use Rattle.records.specs.Drivers.{driver_read}
use Rattle.records.specs.Tuners.{tuner_read}
use Rattle.drivers.specs.Drivers.{hop_argument}
use Rattle.drivers.proofs.Passed.{fits, handed_back, hop_told, no_both, none_tried, refused_by_lem, told, untold}
use Rattle.drivers.proofs.tune_board.Goals as goal

pub returns-in_default : goal.returns-in_default
returns-in_default c =
    let a = c.args in
    let plan = plan_by a.table.now a.hz in
    let argued = hop_argument a.table.now a.hz in
    hop_told _ _ _ a.room.now a.left.now a.next.now _ _ c.tuned.ensures
    (no_both argued (λ u v. hop_result plan a.hz a.replies.now a.outcomes.now u v a.room.now) a.driver.now a.tuner.now a.room.now a.left.now a.next.now
    c.in_default.ensures _ c.refuse.ensures)
    (none_tried argued (λ u v. hop_result plan a.hz a.replies.now a.outcomes.now u v a.room.now) a.driver.now a.tuner.now a.room.now a.left.now a.next.now
    c.in_default.ensures (λ u v. hop_lock_tries plan a.hz a.replies.now a.outcomes.now u v a.room.now))

pub returns-then-number-ne0 : goal.returns-then-number-ne0
returns-then-number-ne0 c =
    let both = c.in-Some in
    let ready = c.ready-number in
    let refusal = c.hop_refusal-refused in
    let a = c.args in
    let plan = plan_by a.table.now a.hz in
    let argued = hop_argument a.table.now a.hz in
    let asked = refusal.ensures ∙ ap (λ (p : Planned). hop_refusal p both.given.ifreq) c.plan_by_table-planned.ensures in
    hop_told _ _ _ a.room.now a.left.now a.next.now _ _ c.tuned-then-number-ne0.ensures
    (refused_by_lem argued (λ u v. hop_result plan a.hz a.replies.now a.outcomes.now u v a.room.now) a.driver.now a.tuner.now a.room.now a.left.now
    a.next.now (driver_read true both.d) (tuner_read true both.given) _ _ both.ensures.0 both.ensures.1 asked ready.ensures _ (λ z. omega arith)
    c.refuse-then-number-ne0.ensures)
    (untold argued (λ u v. hop_result plan a.hz a.replies.now a.outcomes.now u v a.room.now) a.driver.now a.tuner.now a.room.now a.left.now a.next.now
    (driver_read true both.d) (tuner_read true both.given) _ _ both.ensures.0 both.ensures.1 asked ready.ensures
    (λ u v. hop_lock_tries plan a.hz a.replies.now a.outcomes.now u v a.room.now) (λ z. omega arith))

pub hand-plain-requires : goal.hand-plain-requires
hand-plain-requires c = fits _ _ _ _ (sym c.ready-number.ensures ∙ omega arith)

pub returns : goal.returns
returns c =
    let both = c.in-Some in
    let ready = c.ready-number in
    let refusal = c.hop_refusal-refused in
    let planned = c.plan_by_table-planned in
    let told_of = c.tune_planned-hopped.ensures in
    let a = c.args in
    let outcomes = a.outcomes.now in
    let replies = a.replies.now in
    let plan = plan_by a.table.now a.hz in
    let argued = hop_argument a.table.now a.hz in
    let asked = refusal.ensures ∙ ap (λ (p : Planned). hop_refusal p both.given.ifreq) planned.ensures in
    hop_told _ _ _ _ _ _ _ _ c.tuned-2.ensures
    (handed_back argued (λ u v. hop_result plan a.hz replies outcomes u v a.room.now) a.driver.now a.tuner.now a.room.now a.left.now
    a.next.now (driver_read true both.d) (tuner_read true both.given) _ _ both.ensures.0 both.ensures.1 asked ready.ensures (omega (arith, c.if-number-ne0.false)) _ _ _ _ _
    (told_of.0 ∙ ap (λ (p : Planned). hop_result p a.hz replies outcomes both.given both.d a.room.now) planned.ensures) _ _ _ c.hand-plain.ensures)
    (told argued (λ u v. hop_result plan a.hz replies outcomes u v a.room.now) a.driver.now a.tuner.now a.room.now a.left.now
    a.next.now (driver_read true both.d) (tuner_read true both.given) _ _ both.ensures.0 both.ensures.1 asked ready.ensures
    (λ u v. hop_lock_tries plan a.hz replies outcomes u v a.room.now) (omega (arith, c.if-number-ne0.false)) _
    (told_of.1 ∙ ap (λ (p : Planned). hop_lock_tries p a.hz replies outcomes both.given both.d a.room.now) planned.ensures))
