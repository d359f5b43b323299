-- `boards::tune_planned` meets its contract: refused before any step, or performed. Assumes nothing.
use mathlib.Core.Path.{sym, ap, ◌∙◌, subst⁻¹}
use native.Mathlib.Omega.{arith}
use Prim.Native.Nat.{◌≤◌}
use lib.ListN.{length}
use mathlib.Core.Bool.{◌&&◌}
use lib.Dec.{leb}
use mir.Facts.{to_z-of_z}
use mir.Syntax.{w32}
use Rattle.chip.proofs.Refusals.{taken_by}
use Rattle.driver.specs.Record.{xtal_by}
use Rattle.std.specs.Prelude.{Option}
use Rattle.pll.specs.declared.Plan.{Plan}
use Rattle.r82xx.proofs.Tuned.{number_small}
use Rattle.tuning.specs.Program.{divider_number}
use Rattle.boards.proofs.Hops.{hop_hz, hop_refused, hop_taken}
use Rattle.boards.proofs.tune_planned.Goals as goal

pub returns-then-number-ne0 : goal.returns-then-number-ne0
returns-then-number-ne0 c =
    let a = c.args in
    hop_refused a.outcomes.now a.replies.now a.room.now a.hz a.tuner a.driver a.planned _ _ _ _ c.sound.ensures
    (c.xtal_by.ensures
    ∙ ap (xtal_by a.driver.nominal) (to_z-of_z {w = w32} {z = a.driver.ppm} (record { sfits = c.struct_told-1.given.1.1.0.1 })))
    c.hop_refusal-argument.ensures c.refusal-number.ensures c.if-number-ne0.true

pub hop-requires : goal.hop-requires
hop-requires c =
    let a = c.args in
    let rooms = length a.room.now in
    let outs = length a.outcomes.now in
    let back = length a.replies.now in
    let z =
    taken_by (c.sound.result && leb 1 c.xtal_by.result) c.hop_refusal-argument.result 64 38 rooms outs back
    (sym c.refusal-number.ensures ∙ c.if-number-ne0.false) in
    let one = z.lent.rooms in
    let two = z.lent.outs in
    let three = z.lent.back in
    (subst⁻¹ (λ (p : Option Plan). divider_number p ≤ 5) c.plan_pll-by.ensures (number_small _ _ _), omega arith, omega arith, omega arith)

pub returns : goal.returns
returns c =
    let plan-pll = c.plan_pll-by in
    let a = c.args in
    hop_taken a.outcomes.now a.replies.now a.room.now a.hz a.tuner a.driver a.planned _ _ _ _ c.sound.ensures
    (c.xtal_by.ensures
    ∙ ap (xtal_by a.driver.nominal) (to_z-of_z {w = w32} {z = a.driver.ppm} (record { sfits = c.struct_told-1.given.1.1.0.1 })))
    c.hop_refusal-argument.ensures c.refusal-number.ensures plan-pll.result _ _ c.if-number-ne0.false plan-pll.ensures c.hop.ensures
