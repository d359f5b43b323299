-- `r82xx::Tuner::set_frequency` meets its contract. Each return is one law of the definition, with what the calls before it ensure. Assumes nothing.
use mathlib.Core.Path.{sym, ap, ◌∙◌, subst⁻¹}
use native.Mathlib.Omega.{arith}
use Prim.Native.Nat.{◌≤◌, ℕ}
use lib.ListN.{length}
use Rattle.chip.proofs.Refusals.{taken_by}
use Rattle.std.specs.Prelude.{Option}
use Rattle.pll.specs.declared.Plan.{Plan}
use Rattle.tuning.specs.Program.{divider_number}
use Rattle.r82xx.specs.Calls.{refusal_of}
use Rattle.r82xx.specs.Record.{sound}
use Rattle.r82xx.proofs.Refusals.{hz_fits}
use Rattle.r82xx.proofs.Tuned.{number_small, tune_refused, tune_taken}
use Rattle.r82xx.proofs.Tuner.set_frequency.Goals as goal

pub returns-then-number-ne0 : goal.returns-then-number-ne0
returns-then-number-ne0 c =
    let a = c.args in
    let outcomes = a.outcomes.now in
    let replies = a.replies.now in
    let z =
    tune_refused outcomes replies a.room.now a.hz _ a.self
    (c.refusal-number.ensures
    ∙ ap (λ (x : ℕ). refusal_of a.self x 53 35 (length a.room.now) (length outcomes) (length replies)) c.hz_refusal.ensures)
    c.if-number-ne0.true in
    (c.refused.ensures _ ∙ z.0, z.1)

pub tune-requires : goal.tune-requires
tune-requires c =
    let a = c.args in
    let z =
    taken_by (sound a.self) c.hz_refusal.result 53 35 (length a.room.now) (length a.outcomes.now) (length a.replies.now)
    (sym c.refusal-number.ensures ∙ c.if-number-ne0.false) in
    let rooms = z.lent.rooms in
    let outs = z.lent.outs in
    let back = z.lent.back in
    (subst⁻¹ (λ (p : Option Plan). divider_number p ≤ 5) c.plan_pll-plan.ensures (number_small _ _ _), omega arith, omega arith, omega arith)

pub returns : goal.returns
returns c =
    let plan-pll = c.plan_pll-plan in
    let a = c.args in
    let outcomes = a.outcomes.now in
    let replies = a.replies.now in
    tune_taken outcomes replies a.room.now a.hz _ a.self plan-pll.result _ _
    (c.refusal-number.ensures
    ∙ ap (λ (x : ℕ). refusal_of a.self x 53 35 (length a.room.now) (length outcomes) (length replies)) c.hz_refusal.ensures)
    c.if-number-ne0.false plan-pll.ensures c.tune.ensures
