-- `centre::by_plan` meets its contract: each case of the oscillator's answer is its definition's. Assumes nothing.
use Prim.Native.Nat.{ℕ}
use mathlib.Core.Path.{sym, ap, ◌∙◌}
use Rattle.refusals.specs.declared.Answer.{Answer}
use Rattle.centre.specs.Centre.{centre_at, on_done}
use Rattle.centre.proofs.Rows.{by_told, no_table}
use Rattle.centre.proofs.by_plan.Goals as goal

pub returns-then-planned-eq-TABLE : goal.returns-then-planned-eq-TABLE
returns-then-planned-eq-TABLE c = let a = c.args in no_table a.planned a.ifreq a.hz a.told c.if-planned-eq-TABLE.true

pub returns-in-Done : goal.returns-in-Done
returns-in-Done c =
    let a = c.args in
    by_told a.planned a.ifreq a.hz a.told _ c.if-planned-eq-TABLE.false
    (c.at_plan.ensures ∙ sym (ap (λ (x : Answer). on_done x (λ (lo : ℕ). centre_at lo a.planned a.ifreq a.hz)) c.in-Done.is))

pub returns-in-Refused : goal.returns-in-Refused
returns-in-Refused c =
    let a = c.args in
    by_told a.planned a.ifreq a.hz a.told _ c.if-planned-eq-TABLE.false
    (sym (ap (λ (x : Answer). on_done x (λ (lo : ℕ). centre_at lo a.planned a.ifreq a.hz)) c.in-Refused.is))

pub returns-in-Stopped : goal.returns-in-Stopped
returns-in-Stopped c =
    let a = c.args in
    by_told a.planned a.ifreq a.hz a.told _ c.if-planned-eq-TABLE.false
    (sym (ap (λ (x : Answer). on_done x (λ (lo : ℕ). centre_at lo a.planned a.ifreq a.hz)) c.in-Stopped.is))
