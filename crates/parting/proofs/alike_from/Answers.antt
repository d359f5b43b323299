-- `parting::alike_from` meets its contract. The loop's invariant: k, and how many of the entries from k on are alike, are how many of all are.
-- Assumes nothing.
use Prim.Native.Nat.{ℕ, ◌+◌, ◌*◌}
use mathlib.Core.Path.{◌≡◌, sym, ap, ap₂, ◌∙◌}
use native.Mathlib.Omega.{arith}
use Rattle.std.specs.Prelude.{min}
use Rattle.parting.specs.Parting.{agree, alike}
use Rattle.parting.proofs.Laws.{agree_end, agree_on, agree_stop, entry_cut, left}
use Rattle.parting.proofs.alike_from.Goals as goal

pub returns-then-not-same_step : goal.returns-then-not-same_step
returns-then-not-same_step c =
    let l = c.loop-k in
    let a = c.args in
    let same = sym (ap₂ alike (entry_cut (a.a + 16 * l.k) a.x.now) (entry_cut (a.b + 16 * l.k) a.y.now)) ∙ sym c.same_step.ensures in
    agree_stop a.a a.m a.x.now a.b a.n a.y.now l.k (omega arith) (omega arith) (same ∙ c.if-not-same_step.true) ∙ l.invariant

pub loop-k-preserved : goal.loop-k-preserved
loop-k-preserved c =
    let l = c.loop-k in
    let a = c.args in
    let same = sym (ap₂ alike (entry_cut (a.a + 16 * l.k) a.x.now) (entry_cut (a.b + 16 * l.k) a.y.now)) ∙ sym c.same_step.ensures in
    agree_on a.a a.m a.x.now a.b a.n a.y.now l.k (omega arith) (omega arith) (same ∙ c.if-not-same_step.false) ∙ l.invariant

pub returns : goal.returns
returns c =
    let l = c.loop-k in
    let a = c.args in
    let all : l.k ≡ min a.m a.n = omega arith in
    let none = ap (λ (k : ℕ). agree (left a.a a.m a.x.now k) (left a.b a.n a.y.now k)) all ∙ agree_end a.a a.m a.x.now a.b a.n a.y.now in
    omega (arith, none, l.invariant)
